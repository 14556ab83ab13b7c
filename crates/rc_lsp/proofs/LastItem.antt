-- The last of the changes.
use Rattle.std.proofs.Common.{◌≡◌, ◌-◌, ℕ, List, [], ◌∷◌, arith, length, option_map, refl, subst, sym}
use Rattle.std.specs.List.{slice_get}
use Rattle.serde_json.specs.View.{items_view, view}
use Rattle.serde_json.specs.declared.value.Value.{Value}
use Rattle.rc_lsp.specs.Reports.{last_item}

last_after : (first : Value) (values : List Value) → option_map view (slice_get (first ∷ values) (length values)) ≡ last_item (items_view (first ∷ values))
last_after first [] = refl
last_after first (second ∷ values) = last_after second values

pub last_of : (values : List Value) → option_map view (slice_get values (length values - 1)) ≡ last_item (items_view values)
last_of [] = refl
last_of (first ∷ values) =
    let place : length (first ∷ values) - 1 ≡ length values = omega arith in
    subst (λ (n : ℕ). option_map view (slice_get (first ∷ values) n) ≡ last_item (items_view (first ∷ values))) (sym place) (last_after first values)
