use Rattle.std.proofs.Common.{◌≡◌, ◌++◌}
use Rattle.rc_runs.specs.Choices.{choices_below, thread_choice}
use Rattle.rc_runs.proofs.choices.push_of_threads.Given as goal

abbrev pub invariant-loop-thread : goal.invariant-loop-thread
invariant-loop-thread l = l.listed.items ≡ l.initial.listed.items ++ choices_below l.thread (thread_choice l.world)
