use Rattle.serde_json.specs.View.{items_view, view}
use Rattle.rc_lsp.proofs.publishing.publish.Goals as goal

pub returns : goal.returns
returns c =
    let told = c.in_ok-put_message.ensures in
    let judged = c.in_ok-judged.judged in
    (told.0, (c.in_ok-judged.ensures.verdict, items_view judged.diagnostics.items, c.in_ok-judged.ensures.reported, view c.in_ok-message.message, c.in_ok-message.ensures, told.1), told.2)
