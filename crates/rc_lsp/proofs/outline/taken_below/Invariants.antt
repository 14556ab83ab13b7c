use Rattle.std.proofs.Common.{vec_len}
use Rattle.rc_lsp.proofs.outline.taken_below.Given as goal

abbrev pub decreases-loop-entries : goal.decreases-loop-entries
decreases-loop-entries l = vec_len l.entries
