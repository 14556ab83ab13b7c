-- What a change of one document leaves of the others.
use Rattle.std.proofs.Common.{◌≡◌, ℕ, Bool, true, false, List, Option, String, BTreeMap, if◌then◌else◌, option_map, string_bytes, string_cmp, nat_cmp, refl, ap, subst, ◌∙◌}
use Rattle.std.specs.Prelude.{cond}
use Rattle.std.specs.BTreeMap.{get_by_text, UpdatesBy}
use Rattle.std.specs.Cmp.Lexicographic.{slice_cmp}
use Rattle.std.specs.Str.{bytes_eq}
use Rattle.std.specs.Global.{Vec}
use Rattle.std.specs.declared.alloc.Global.{Global}
use Rattle.std.proofs.lemmas.Map.Text.{btree_map_updates_text}

abbrev pub items_in : Option (Vec ℕ) → Option (List ℕ)
items_in text = option_map (λ (t : Vec ℕ). t.items) text

by_case : (b : Bool) (text other : Option (Vec ℕ)) → items_in (cond b text other) ≡ (if b then items_in text else items_in other)
by_case true text other = refl
by_case false text other = refl

pub given : (name uri : List ℕ) (old new : BTreeMap (String Global) (Vec ℕ)) (text : Option (Vec ℕ)) → name ≡ uri
    → UpdatesBy string_cmp (λ k. slice_cmp nat_cmp name (string_bytes k)) old new text
    → (other : List ℕ) → items_in (get_by_text new other) ≡ (if bytes_eq uri other then items_in text else items_in (get_by_text old other))
given name uri old new text same updates other =
    subst (λ (bytes : List ℕ). items_in (get_by_text new other) ≡ (if bytes_eq bytes other then items_in text else items_in (get_by_text old other))) same
    (ap items_in (btree_map_updates_text name old new text updates other) ∙ by_case (bytes_eq name other) text (get_by_text old other))
