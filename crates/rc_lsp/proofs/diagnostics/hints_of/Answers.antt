use Rattle.std.proofs.Common.{List, subst, sym}
use Rattle.serde_json.specs.View.{items_view}
use Rattle.serde_json.specs.declared.value.Value.{Value}
use Rattle.rc_lsp.specs.Published.{AreHints}
use Rattle.rc_lsp.proofs.Hints.{hints_more}
use Rattle.rc_lsp.proofs.diagnostics.hints_of.Goals as goal

pub loop-note-preserved : goal.loop-note-preserved
loop-note-preserved c =
    subst (λ (vs : List Value). AreHints (items_view vs)) (sym c.in_ok-push.ensures.items)
    (hints_more c.loop-note.hints.items c.in_ok-hint_of.field-0 c.loop-note.invariant c.in_ok-hint_of.ensures)
