use Rattle.std.proofs.Common.{◌≡◌, ◌++◌, drop, map}
use Rattle.serde_json.specs.View.{view}
use Rattle.rc_runs.specs.Waits.{wait_object}
use Rattle.rc_runs.proofs.stuck_text.object.threads_value.Given as goal

abbrev pub invariant-loop-wait : goal.invariant-loop-wait
invariant-loop-wait l = map view l.threads.items ++ map wait_object (drop l.wait-index l.fn.waits) ≡ map wait_object l.fn.waits
