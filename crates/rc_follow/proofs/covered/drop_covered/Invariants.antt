use Rattle.std.specs.Prelude.{All, Contains}
use Rattle.rc_follow.proofs.covered.drop_covered.Given as goal

abbrev pub invariant-loop-at : goal.invariant-loop-at
invariant-loop-at l = All (Contains l.initial.worlds.items) l.worlds.items
