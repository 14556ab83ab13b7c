use Rattle.std.proofs.Common.{arith}
use Rattle.std.proofs.lemmas.Grind.{common_steps}
use Rattle.rc_lsp.proofs.LastItem.{last_of}
use Rattle.rc_lsp.proofs.reports.last_change.Goals as goal

pub returns : goal.returns
returns c = grind (arith, common_steps, last_of c.deref.result.now)
