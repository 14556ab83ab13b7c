use Rattle.std.proofs.Common.{◌≡◌, ◌++◌, drop}
use Rattle.std.specs.List.{flat_map}
use Rattle.rc_runs.specs.Waits.{wait_line}
use Rattle.rc_runs.proofs.stuck_text.waits.put_waits.Given as goal

abbrev pub invariant-loop-wait : goal.invariant-loop-wait
invariant-loop-wait l =
    l.text.items ++ flat_map (wait_line l.fn.before) (drop l.wait-index l.fn.waits) ≡ l.fn.text.items ++ flat_map (wait_line l.fn.before) l.fn.waits
