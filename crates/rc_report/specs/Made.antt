-- What one item of a schedule makes of a world, in the middle of a trace.
use Rattle.std.specs.Prelude.{ℕ, ◌≡◌, ◌+◌, List, [], ◌∷◌, Option, Some, None}
use Rattle.rc_world.specs.declared.event.Item.{Item}
use Rattle.rc_world.specs.declared.fault.Fault.{Fault}
use Rattle.rc_world.specs.Machine.{World}
use Rattle.rc_world.specs.Trace.{AtFault, AtItem, Ending, after_event, trace_from}
use Rattle.rc_report.specs.declared.stepping.Made.{Made}
use Rattle.rc_report.specs.declared.stepping.Made.TheVariants.{Event, Last}
use Rattle.rc_report.specs.Engine.{end_of, text_of_trace}
use Rattle.rc_report.specs.Printed.{event_lines}

-- How a trace ends whose next item, the i-th, isn't enabled: with the world's fault, where it has one.
abbrev pub refused_ending : ℕ → Option Fault → Ending
refused_ending i None = AtItem i
refused_ending i (Some f) = AtFault f

-- The next item, the i-th, makes this event and leaves this world, or the trace ends so, and there.
abbrev pub MakesItem : World → Item → ℕ → World → Made → Type 0
MakesItem w item i after (Event e) = (items : List Item) → trace_from w i (item ∷ items) ≡ after_event e (trace_from after (i + 1) items)
MakesItem w item i after (Last end) = (items : List Item) → ((trace_from w i (item ∷ items)).events ≡ []) × (end_of (trace_from w i (item ∷ items)).ending ≡ end) × ((trace_from w i (item ∷ items)).world ≡ after)

-- the text of the trace of these items from a world, and the lines of its events
abbrev pub text_from : World → List Item → List ℕ
text_from w items = text_of_trace w.program (trace_from w 1 items)

abbrev pub lines_from : World → List Item → List ℕ
lines_from w items = event_lines w.program 1 (trace_from w 1 items).events
