-- Where one more document may be opened, no more than 64 are open after it.
use Rattle.std.proofs.Common.{◌≡◌, ◌≤◌, ◌+◌, ℕ, List, Option, Some, None, Result, Ok, Err, true, if◌then◌else◌, length, sym, subst, arith, BTreeMap}
use Rattle.std.specs.Prelude.{◌||◌, IfOk, OnErr, String, is_some, nat_lt, option_map}
use Rattle.std.specs.BTreeMap.{btree_map_len, get_by_text}
use Rattle.std.specs.Global.{Vec}
use Rattle.std.specs.declared.alloc.Global.{Global}
use borrow.Author.Tests.{ltb-true}

pub stays_within : {E : Type 0} (uri : List ℕ) (old new : BTreeMap (String Global) (Vec ℕ)) (r : Result (Option (Vec ℕ)) E)
    → (is_some (option_map (λ (text : Vec ℕ). text.items) (get_by_text old uri)) || nat_lt (btree_map_len old) 64) ≡ true
    → btree_map_len old ≤ 64 → IfOk r (λ before. before ≡ get_by_text old uri)
    → IfOk r (λ before. btree_map_len new ≡ btree_map_len old + (if is_some before then 0 else 1))
    → OnErr r (new.entries ≡ old.entries) → btree_map_len new ≤ 64
stays_within uri old new (Ok (Some text)) room within before more same = omega (arith, more, within)
stays_within uri old new (Ok None) room within before more same =
    let left = subst (λ (text : Option (Vec ℕ)). (is_some (option_map (λ (t : Vec ℕ). t.items) text) || nat_lt (btree_map_len old) 64) ≡ true) (sym before) room in
    omega (arith, more, ltb-true (btree_map_len old) 64 left)
stays_within uri old new (Err e) room within before more same = subst (λ es. length es ≤ 64) (sym same) within
