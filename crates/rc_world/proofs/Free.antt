-- Wanted locks are free just where nobody has one.
use Rattle.std.proofs.Common.{◌≡◌, ℕ, Bool, true, false, ◌&&◌, Option, Some, None, refl}
use Rattle.std.specs.Prelude.{is_none}
use Rattle.rc_lang.specs.declared.lines.Locks.{Locks}
use Rattle.rc_world.specs.declared.controls.Holders.{Holders}
use Rattle.rc_world.specs.Controls.{are_free, is_free}
use Rattle.rc_world.specs.Readers.{first_of, if_wanted, taken_by}

one_free : (b : Bool) (o : Option ℕ) → is_free b o ≡ is_none (if_wanted b o)
one_free false o = refl
one_free true None = refl
one_free true (Some j) = refl

both_free : (a b : Bool) (s c : Option ℕ) → (is_free a s && is_free b c) ≡ is_none (first_of (if_wanted a s) (if_wanted b c))
both_free false b s c = one_free b c
both_free true b None c = one_free b c
both_free true b (Some i) c = refl

pub free_unless_taken : (wanted : Locks) (h : Holders) → are_free wanted h ≡ is_none (taken_by wanted h)
free_unless_taken wanted h = both_free wanted.sq wanted.cq h.sq h.cq
