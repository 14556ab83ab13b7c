use Rattle.std.proofs.Common.{◌≡◌, ◌≤◌, length}
use Rattle.rc_rewrite.specs.Keeps.{flag_words}
use Rattle.rc_rewrite.proofs.flag.flag_word.Given as goal

abbrev pub invariant-loop-word : goal.invariant-loop-word
invariant-loop-word l = (flag_words l.items ≡ flag_words l.rest) × (length l.rest ≤ length l.items)

abbrev pub decreases-loop-word : goal.decreases-loop-word
decreases-loop-word l = length l.rest
