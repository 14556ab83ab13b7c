-- Traces as text: a line for each event, and how it ends.
use Rattle.std.specs.Prelude.{ℕ, List, ◌++◌, length, codes}
use Rattle.rc_lang.specs.Program.{Program}
use Rattle.rc_world.specs.declared.event.Event.{Event}
use Rattle.rc_report.specs.declared.trace.End.{End}
use Rattle.rc_report.specs.declared.trace.End.TheVariants.{Fault, NotEnabled, Ended, Stopped, Limit, Memory}
use Rattle.rc_report.specs.Printed.{end_line, event_lines, fault_line, item_line}

-- How a trace of n events ends, as a line.
abbrev pub end_text : Program → ℕ → End → List ℕ
end_text program n (Fault f) = fault_line program f
end_text program n (NotEnabled i) = item_line i
end_text program n Ended = end_line (codes "ended") n
end_text program n Stopped = end_line (codes "stopped") n
end_text program n Limit = end_line (codes "limit") n
end_text program n Memory = end_line (codes "out of memory") n

-- The text of a trace.
abbrev pub trace_text : Program → List Event → End → List ℕ
trace_text program events end = event_lines program 1 events ++ end_text program (length events) end
