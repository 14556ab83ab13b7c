-- The items among values, one by one.
use Rattle.std.proofs.Common.{◌≡◌, List, [], ◌∷◌, ◌++◌, refl}
use Rattle.rc_read.specs.declared.values.Value.{Value}
use Rattle.rc_read.specs.declared.values.Value.TheVariants.{Item}
use Rattle.rc_read.specs.Values.{items_in}

pub items_first : (v : Value) (vs : List Value) → items_in (v ∷ vs) ≡ items_in (v ∷ []) ++ items_in vs
items_first (Item i) vs = refl
items_first v vs = refl
