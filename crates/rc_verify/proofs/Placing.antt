-- What is at a place of a thread in the code.
use Rattle.std.proofs.Common.{◌≡◌, ℕ, ◌<◌, List, length, map, Option, Some, get_or, sym, ap, subst, ◌∙◌}
use Rattle.std.proofs.lemmas.List.{get_or-map, length-map}
use Rattle.rc_lang.specs.declared.program.Items.{Items as ItemsPart}
use Rattle.rc_lang.specs.Parts.{view_items}
use Rattle.rc_lang.specs.Program.{items_at, no_items}

pub at : {A : Type 0} {o : Option A} {s t : A} → o ≡ Some s → s ≡ t → o ≡ Some t
at e f = e ∙ ap Some f

pub loop_there : (lists : List ItemsPart) (k : ℕ) → k < length (map view_items lists) → k < length lists
loop_there lists k lt = subst (λ n. k < n) (length-map lists view_items) lt

pub items_here : (lists : List ItemsPart) (k : ℕ) (i : ItemsPart) → k < length (map view_items lists) → i ≡ get_or lists k i → view_items i ≡ items_at (map view_items lists) k
items_here lists k i lt e = ap view_items e ∙ sym (get_or-map view_items lists k i no_items (loop_there lists k lt))
