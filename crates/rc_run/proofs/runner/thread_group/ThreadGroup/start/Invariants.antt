use Rattle.std.proofs.Common.{◌≡◌, ◌+◌, vec_len, vec_capacity}
use Rattle.rc_run.proofs.runner.thread_group.ThreadGroup.start.Given as goal

abbrev pub invariant-loop-number : goal.invariant-loop-number
invariant-loop-number g l =
    (vec_len l.started ≡ l.number) × (vec_capacity l.started ≡ vec_capacity l.fn.self.started)
    × (l.all.parts + l.number ≡ l.initial.all.parts)
    × (l.all.amount ≡ 0)
