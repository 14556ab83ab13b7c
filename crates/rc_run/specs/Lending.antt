-- What becomes of a job whose bytes are lent.
use Rattle.std.specs.Prelude.{ℕ, List, ◌++◌, drop, length, take}
use Rattle.std.specs.Borrow.{Array, Fml, Lends, MutBor, u8}
use Rattle.rc_run.specs.contracts.job.Job.{the_row}
use Rattle.rc_run.specs.Jobs.{Job}

-- as many bytes as before, the first of them these
abbrev pub overwritten : List ℕ → List ℕ → List ℕ
overwritten bytes new = take (length bytes) (new ++ drop (length new) bytes)

-- The job ends with the bytes that are left after the reference, which are as many.
abbrev pub LendsBytes : MutBor Job → MutBor (List ℕ) → Fml
LendsBytes j r = Lends the_row (Array u8 0) j r (λ w. record j.now { bytes = overwritten j.now.bytes w })
