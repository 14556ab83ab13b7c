use Rattle.std.proofs.Common.{◌≡◌, slice_get, filter, drop}
use Rattle.rc_run.specs.declared.machine.Pending.{Pending}
use Rattle.rc_run.specs.Lives.{is_free}
use Rattle.rc_run.proofs.live.free_place.Given as goal

abbrev pub invariant-loop-k : goal.invariant-loop-k
invariant-loop-k l = slice_get (filter (λ (p : Pending). is_free l.out p.request) (drop l.k l.pending)) l.left ≡ slice_get (filter (λ (p : Pending). is_free l.out p.request) l.pending) l.n
