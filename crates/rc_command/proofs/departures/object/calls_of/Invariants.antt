use Rattle.std.proofs.Common.{◌≡◌, ◌++◌, drop, map}
use Rattle.serde_json.specs.View.{view}
use Rattle.rc_command.specs.Unmade.{call_object}
use Rattle.rc_command.proofs.departures.object.calls_of.Given as goal

abbrev pub invariant-loop-line : goal.invariant-loop-line
invariant-loop-line l = map view l.calls.items ++ map call_object (drop l.line-index l.fn.unmade) ≡ map call_object l.fn.unmade
