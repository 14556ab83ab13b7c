-- Traces: the run that the items of a schedule name, and how it ends.
use Rattle.std.specs.Prelude.{ℕ, ◌+◌, Bool, true, false, ◌&&◌, if◌then◌else◌, List, [], ◌∷◌, Option, Some, None}
use Rattle.rc_lang.specs.Program.{Program, Thread}
use Rattle.rc_world.specs.declared.controls.Next.{Next}
use Rattle.rc_world.specs.declared.controls.Next.TheVariants.{Ended}
use Rattle.rc_world.specs.declared.event.Event.{Event}
use Rattle.rc_world.specs.declared.event.Item.{Item}
use Rattle.rc_world.specs.declared.fault.Fault.{Fault}
use Rattle.rc_world.specs.Faults.{fault_of}
use Rattle.rc_world.specs.Items.{is_enabled, item_step, next_of}
use Rattle.rc_world.specs.Machine.{World, start_world}

-- Every thread from number i on has ended.
abbrev pub has_ended : Next → Bool
has_ended Ended = true
has_ended _ = false

abbrev pub all_ended_from : World → ℕ → List Thread → Bool
all_ended_from w i [] = true
all_ended_from w i (t ∷ ts) = has_ended (next_of w.program w.controls i) && all_ended_from w (i + 1) ts

abbrev pub all_ended : World → Bool
all_ended w = all_ended_from w 0 w.program.threads

-- How a trace ends: at a fault of its world, at an item that isn't enabled, by its number from 1, or with no item left,
-- where every thread has ended or not.
pub data Ending : Type 0 where
  AtFault : Fault → Ending
  AtItem : ℕ → Ending
  AllEnded : Ending
  Stopped : Ending

-- where no item is left
abbrev pub last_ending : World → Option Fault → Ending
last_ending w (Some f) = AtFault f
last_ending w None = if all_ended w then AllEnded else Stopped

-- The events of a trace, the world where it ends, and how.
pub record Trace : Type 0 where
  pub events : List Event
  pub world : World
  pub ending : Ending

abbrev pub ends : World → Ending → Trace
ends w ending = record { events = []; world = w; ending = ending }

abbrev pub after_event : Event → Trace → Trace
after_event e t = record { events = e ∷ t.events; world = t.world; ending = t.ending }

-- The world's fault comes first, then an item that isn't enabled; else its step is made, and the others follow. An item
-- that is enabled in a world of a run without a fault names a step (the law EnabledItemsStep).
abbrev pub at_item : World → ℕ → (World → Trace) → Option Fault → Bool → Option (Event × World) → Trace
at_item w i others (Some f) enabled step = ends w (AtFault f)
at_item w i others None false step = ends w (AtItem i)
at_item w i others None true None = ends w (AtItem i)
at_item w i others None true (Some (e, next)) = after_event e (others next)

-- The trace from a world, where the next item is the i-th.
abbrev pub trace_from : World → ℕ → List Item → Trace
trace_from w i [] = ends w (last_ending w (fault_of w))
trace_from w i (item ∷ items) = at_item w i (λ next. trace_from next (i + 1) items) (fault_of w) (is_enabled w item) (item_step w item)

-- The run that the items name, up to the first world with a fault or the first item that isn't enabled.
abbrev pub trace_of : Program → List Item → Trace
trace_of program items = trace_from (start_world program) 1 items
