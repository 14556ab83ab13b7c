-- A thread's flag: what is known while it is 0, and while it isn't.
use Rattle.std.specs.Prelude.{ℕ, Bool, true, false, cond, nat_eq, not, ◌&&◌, List, [], ◌∷◌, Option, Some, None, ℤ, pos}
use Rattle.std.specs.Ordering.{int_eq}
use Rattle.rc_lang.specs.Comparisons.{compares}
use Rattle.rc_lang.specs.declared.lines.Comparison.{Comparison}
use Rattle.rc_lang.specs.declared.lines.Comparison.TheVariants.{Equal, NotEqual}
use Rattle.rc_lang.specs.declared.lines.Op.{Op}
use Rattle.rc_lang.specs.declared.lines.Op.TheVariants.{Set, Assign, Add, Subtract, Load, Submit, SubmitAndWait}
use Rattle.rc_lang.specs.declared.lines.Stmt.{Stmt}
use Rattle.rc_lang.specs.declared.lines.Stmt.TheVariants.{If}
use Rattle.rc_lang.specs.declared.lines.Test.{Test}
use Rattle.rc_lang.specs.declared.lines.Test.TheVariants.{Compare}
use Rattle.rc_rules.specs.declared.flag.Write.{Write}
use Rattle.rc_rules.specs.declared.flag.Write.TheVariants.{Untouched, Number, Anything}
use Rattle.rc_rules.specs.Labels.{Label, Dead}

-- The two sides of a point: what is known where the flag is 0, and where it isn't. Without a flag the first is what is
-- known, and the other is dead.
pub record Sides : Type 0 where
  pub zero : Label
  pub other : Label

-- the label of the side of a flag that is 0 (true), or isn't
abbrev pub on : Bool → Sides → Label
on true s = s.zero
on false s = s.other

-- the sides of a point that nothing reaches
abbrev pub unreached : Sides
unreached = record { zero = Dead; other = Dead }

abbrev pub same_side : Bool → Bool → Bool
same_side true z = z
same_side false z = not z

-- a label where there is a way to its side, and else nothing
abbrev pub gate : Bool → Label → Label
gate false s = Dead
gate true s = s

-- what comes to a side of a point from both sides of the one before, of which those come that may
abbrev pub brings : (Bool → Bool) → (Label → Label) → (Bool → Label) → List Label
brings may F before = gate (may true) (F (before true)) ∷ gate (may false) (F (before false)) ∷ []

-- ---- writes to the flag

abbrev pub is_flag : Option ℕ → ℕ → Bool
is_flag None x = false
is_flag (Some f) x = nat_eq f x

-- what a line writes to the flag
abbrev pub write_to : Option ℕ → ℕ → Write → Write
write_to flag x w = cond (is_flag flag x) w Untouched

abbrev pub write_of : Option ℕ → Op → Write
write_of flag (Set x n) = write_to flag x (Number n)
write_of flag (Assign x y) = write_to flag x Anything
write_of flag (Add x a b) = write_to flag x Anything
write_of flag (Subtract x a b) = write_to flag x Anything
write_of flag (Load x b i) = write_to flag x Anything
write_of flag (Submit x) = write_to flag x Anything
write_of flag (SubmitAndWait x n) = write_to flag x Anything
write_of flag _ = Untouched

-- A loop is turned back to with any flag, where there is one.
abbrev pub forgets : Option ℕ → Write
forgets None = Untouched
forgets (Some f) = Anything

-- whether a thread on the side y may be on the side z after this write
abbrev pub turns : Write → Bool → Bool → Bool
turns Untouched y z = same_side y z
turns (Number n) y z = same_side (int_eq n (pos 0)) z
turns Anything y z = true

-- ---- tests of the flag

-- whether the test tells 0 from each other number
abbrev pub is_exact : Comparison → ℤ → Bool
is_exact Equal n = int_eq n (pos 0)
is_exact NotEqual n = int_eq n (pos 0)
is_exact _ n = false

-- whether a thread on the side z may go to the branch of a test that holds (true), or doesn't: with a flag of 0 to the
-- one that 0 takes, with another to each, but where the test is exact only to the one that 0 doesn't take
abbrev pub side_goes : Comparison → ℤ → Bool → Bool → Bool
side_goes c n true holds = same_side (compares c (pos 0) n) holds
side_goes c n false holds = not (is_exact c n && same_side (compares c (pos 0) n) holds)

abbrev pub test_goes : Option ℕ → Test → Bool → Bool → Bool
test_goes flag (Compare x c n) z holds = cond (is_flag flag x) (side_goes c n z holds) true
test_goes flag _ z holds = true

-- whether the test of the if on a line may fail on the side z
abbrev pub may_skip : Option ℕ → Bool → Option Stmt → Bool
may_skip flag z (Some (If test)) = test_goes flag test z false
may_skip flag z _ = true
