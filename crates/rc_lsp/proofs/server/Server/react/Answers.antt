use Rattle.std.proofs.Common.{[], append-nil, ap, refl, sym}
use Rattle.rc_lsp.specs.Messages.{notification}
use Rattle.rc_lsp.specs.Reactions.{is_running}
use Rattle.rc_lsp.proofs.Reacted.{answered, nothing_said}
use Rattle.rc_lsp.proofs.server.Server.react.Goals as goal

pub returns-in-Request : goal.returns-in-Request
returns-in-Request c =
    answered (is_running c.args.self.now.stage) c.args.message c.args.self.now.documents c.result_of-answer.new.self.documents c.args.out.now c.put_answer.new.out c.put_answer.result (ap notification c.in-Request.is) c.result_of-answer.ensures c.put_answer.ensures

pub returns-in-Response : goal.returns-in-Response
returns-in-Response c =
    ([], nothing_said (is_running c.args.self.now.stage) c.args.message c.args.self.now.documents (ap notification c.in-Response.is), sym (append-nil _))

pub returns-in-Other : goal.returns-in-Other
returns-in-Other c =
    answered (is_running c.args.self.now.stage) c.args.message c.args.self.now.documents c.args.self.now.documents c.args.out.now c.put_fault.new.out c.put_fault.result (ap notification c.in-Other.is) refl c.put_fault.ensures
