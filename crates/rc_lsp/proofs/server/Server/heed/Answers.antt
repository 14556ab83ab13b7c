use Rattle.std.proofs.Common.{Option, [], append-nil, subst, sym}
use Rattle.rc_report.specs.Text.{PutsSome}
use Rattle.rc_lsp.specs.Reactions.{Reacts}
use Rattle.rc_lsp.specs.Reports.{Change}
use Rattle.rc_lsp.proofs.Reacted.{nothing_done}
use Rattle.rc_lsp.proofs.server.Server.heed.Goals as goal

pub returns-in-Some : goal.returns-in-Some
returns-in-Some c =
    subst (λ (report : Option Change). PutsSome (Reacts report c.args.self.now.documents c.heed.new.documents) c.args.out.now c.heed.new.out c.heed.result) c.in-Some.ensures c.heed.ensures

pub returns-in-None : goal.returns-in-None
returns-in-None c =
    let documents = c.args.self.now.documents in
    ([], subst (λ (report : Option Change). Reacts report documents documents []) c.in-None.ensures (nothing_done documents), sym (append-nil _))
