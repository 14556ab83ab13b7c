use Rattle.std.proofs.Common.{None, refl}
use Rattle.rc_lsp.proofs.Changed.{given}
use Rattle.rc_lsp.proofs.documents.Documents.close.Goals as goal

pub returns-clause-closed : goal.returns-clause-closed
returns-clause-closed c = given c.args.uri.now c.args.uri.now c.args.self.now.texts c.remove.new.self None refl c.remove.ensures.updates
