use Rattle.serde_json.specs.View.{items_view}
use Rattle.rc_lsp.specs.Published.{AreHints}
use Rattle.rc_lsp.proofs.diagnostics.hints_of.Given as goal

abbrev pub invariant-loop-note : goal.invariant-loop-note
invariant-loop-note l = AreHints (items_view l.hints.items)
