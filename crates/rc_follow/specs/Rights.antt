-- What a thread may touch where it stands: what the strongest labels say on the side of its flag.
use Rattle.std.specs.Prelude.{ℕ, ◌≡◌, ◌≤◌, Bool, true, List, Option, Some, None, slice_get, slice_index_or, ℤ, pos}
use Rattle.std.specs.Ordering.{int_eq}
use Rattle.rc_lang.specs.Program.{Program, Thread}
use Rattle.rc_lang.specs.Views.{view_of}
use Rattle.rc_rules.specs.Sides.{Sides, on}
use Rattle.rc_rules.specs.States.{held_at}
use Rattle.rc_split.specs.Bags.{ShareOf}
use Rattle.rc_verify.specs.Labels.{IsStrongestAt}
use Rattle.rc_world.specs.Controls.{Standing}
use Rattle.rc_world.specs.Machine.{World}

-- whether the thread's flag is 0, as it is where the thread has none
abbrev pub flag_is_zero : Option ℕ → List ℤ → Bool
flag_is_zero None variables = true
flag_is_zero (Some flag) variables = int_eq (slice_index_or variables flag (pos 0)) (pos 0)

-- at this place, on this side of the flag, at least k shares of the buffer are held
abbrev pub HoldsAt : Program → Thread → (place : ℕ) → (zero : Bool) → (buffer k : ℕ) → Type 0
HoldsAt P thread place zero b k = (s : Sides) × IsStrongestAt P thread place s × (k ≤ held_at (on zero s) (ShareOf b))

-- The thread stands where it holds at least k shares of the buffer.
abbrev pub HasShares : Program → World → (i b k : ℕ) → Type 0
HasShares P w i b k =
    (t : Standing) × (slice_get w.controls.threads i ≡ Some t)
    × (thread : Thread) × (slice_get P.threads i ≡ Some thread)
    × HoldsAt (view_of P i) thread t.place (flag_is_zero thread.flag t.variables) b k

-- the strongest labels there say so many shares of the buffer, or more
abbrev pub SharesAt : Program → (i place : ℕ) → (zero : Bool) → (buffer k : ℕ) → Type 0
SharesAt P i place zero b k = (thread : Thread) × (slice_get P.threads i ≡ Some thread) × HoldsAt (view_of P i) thread place zero b k
