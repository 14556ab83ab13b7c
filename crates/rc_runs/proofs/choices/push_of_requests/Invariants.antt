use Rattle.std.proofs.Common.{◌≡◌, ◌++◌}
use Rattle.rc_runs.specs.Choices.{choices_below, pending_choice}
use Rattle.rc_runs.proofs.choices.push_of_requests.Given as goal

abbrev pub invariant-loop-place : goal.invariant-loop-place
invariant-loop-place l = l.listed.items ≡ l.initial.listed.items ++ choices_below l.place (pending_choice l.world)
