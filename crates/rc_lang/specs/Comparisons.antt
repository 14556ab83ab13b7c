-- How an if compares a variable with a number.
use Rattle.std.specs.Prelude.{Bool, not, ℤ, int_lt, int_le}
use Rattle.std.specs.Ordering.{int_eq}
use Rattle.rc_lang.specs.declared.lines.Comparison.{Comparison}
use Rattle.rc_lang.specs.declared.lines.Comparison.TheVariants.{Equal, NotEqual, Less, AtMost, Greater, AtLeast}

abbrev pub compares : Comparison → ℤ → ℤ → Bool
compares Equal a b = int_eq a b
compares NotEqual a b = not (int_eq a b)
compares Less a b = int_lt a b
compares AtMost a b = int_le a b
compares Greater a b = int_lt b a
compares AtLeast a b = int_le b a
