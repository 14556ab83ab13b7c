-- Hints in a row.
use Rattle.std.proofs.Common.{List, [], ◌∷◌, ◌++◌}
use Rattle.serde_json.specs.View.{items_view, view}
use Rattle.serde_json.specs.declared.value.Value.{Value}
use Rattle.rc_lsp.specs.Published.{AreHints, IsHint}

-- One more after them.
pub hints_more : (xs : List Value) (x : Value) → AreHints (items_view xs) → IsHint (view x) → AreHints (items_view (xs ++ x ∷ []))
hints_more [] x h i = (i, tt)
hints_more (y ∷ xs) x h i = (h.0, hints_more xs x h.1 i)
