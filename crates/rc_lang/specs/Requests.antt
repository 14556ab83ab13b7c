-- What the completion of a request may carry (io_uring_enter(2)).
use Rattle.std.specs.Prelude.{ℕ, ℤ, pos, negsuc, Bool, nat_le, nat_lt}
use Rattle.rc_lang.specs.declared.request.Kind.{Kind}
use Rattle.rc_lang.specs.declared.request.Kind.TheVariants.{Nop, Fsync, Read, Write, Other}
use Rattle.rc_lang.specs.declared.request.Request.{Request}

-- the largest result of a request of this length
abbrev pub largest : ℕ → Kind → ℕ
largest len Nop = 0
largest len Fsync = 0
largest len Read = len
largest len Write = len
largest len Other = 4096

-- The request may complete with this result: a read or a write with how many bytes it moved, from 0 to its length, a
-- nop or an fsync with 0, any other one from 0 to 4096, and each of them with a negative errno, -(n + 1) from -1 to -4095.
abbrev pub may_complete : Request → ℤ → Bool
may_complete request (pos n) = nat_le n (largest request.len request.kind)
may_complete request (negsuc n) = nat_lt n 4095
