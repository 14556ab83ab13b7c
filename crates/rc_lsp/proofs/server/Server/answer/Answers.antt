use Rattle.std.proofs.Common.{Option, List, ℕ, option_map, subst}
use Rattle.serde_json.specs.Data.{Data}
use Rattle.serde_json.specs.View.{view}
use Rattle.rc_lsp.specs.Reactions.{Reacts, is_running, report_in}
use Rattle.rc_lsp.proofs.server.Server.answer.Goals as goal

pub returns : goal.returns
returns c =
    let put = c.in_ok-react.ensures in
    let server = c.args.self.now in
    let reacts = subst (λ (n : Option (List ℕ × Data)). Reacts (report_in (is_running server.stage) n) server.documents c.react.new.self.documents put.0) c.message_of-message.ensures put.1 in
    (put.0, (option_map view c.in_ok-value.value, c.in_ok-value.ensures, reacts), put.2)
