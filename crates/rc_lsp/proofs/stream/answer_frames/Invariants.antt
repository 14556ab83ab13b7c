use Rattle.std.proofs.Common.{◌≤◌, length}
use Rattle.rc_lsp.proofs.stream.answer_frames.Given as goal

abbrev pub invariant-loop-start : goal.invariant-loop-start
invariant-loop-start l = length l.rest ≤ length l.bytes

abbrev pub decreases-loop-start : goal.decreases-loop-start
decreases-loop-start l = length l.rest
