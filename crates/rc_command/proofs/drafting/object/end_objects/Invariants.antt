use Rattle.std.proofs.Common.{◌≡◌, ◌++◌, drop, map}
use Rattle.serde_json.specs.View.{view}
use Rattle.rc_command.specs.Drafting.{end_object}
use Rattle.rc_command.proofs.drafting.object.end_objects.Given as goal

abbrev pub invariant-loop-end : goal.invariant-loop-end
invariant-loop-end l = map view l.objects.items ++ map end_object (drop l.end-index l.fn.ends) ≡ map end_object l.fn.ends
