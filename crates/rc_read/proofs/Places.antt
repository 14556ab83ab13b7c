-- The places of a line whose words are those of a form, part by part.
use Rattle.std.proofs.Common.{◌≡◌, ℕ, zero, suc, ◌+◌, ◌-◌, ◌<◌, ◌≤◌, List, [], ◌∷◌, ◌++◌, length, get_or, take, drop, Bool, true, false, cond, ◌&&◌, nat_le, eqb, Option, Some, None, refl, sym, ap, ◌∙◌, arith, append_assoc, add-one}
use Rattle.std.specs.Borrow.{Bor}
use Rattle.std.specs.Prelude.{option_map, unwrap_or}
use Rattle.std.proofs.lemmas.Bool.{ne_eqb}
use Rattle.std.proofs.lemmas.List.{drop-map, drop-drop, drop_more, take_rest}
use Rattle.std.proofs.Math.Dec.{eqb-suc-suc}
use Rattle.std.proofs.Math.ListN.{drop_of_length-le}
use Rattle.rc_read.specs.Quick.{items_in_front, taken_by, taken_list, taken_one}
use Rattle.rc_read.specs.Spots.{Spot, are_kinds, behind_items, behind_list, behind_one, count_or, fits, is_end, is_item, is_list, matches, spots_at, spots_of}
use Rattle.rc_read.specs.declared.table.Part.{Part}
use Rattle.rc_read.specs.declared.table.Part.TheVariants.{Kinds, KindWord}
use Rattle.rc_read.specs.Texts.{texts_of}

drop_one_more : (n : ℕ) (w : List ℕ) (ws : List (List ℕ)) → drop (n + 1) (w ∷ ws) ≡ drop n ws
drop_one_more n w ws = ap (λ (k : ℕ). drop k (w ∷ ws)) (add-one n)

drop_by : (b : Bool) (n : ℕ) (w : List ℕ) (ws vs : List (List ℕ)) → drop n ws ≡ vs → drop (cond b (n + 1) 0) (w ∷ ws) ≡ cond b vs (w ∷ ws)
drop_by true n w ws vs e = drop_one_more n w ws ∙ e
drop_by false n w ws vs e = refl

drop_items : (ws : List (List ℕ)) → drop (items_in_front ws) ws ≡ behind_items ws
drop_items [] = refl
drop_items (w ∷ ws) = drop_by (is_item w) (items_in_front ws) w ws (behind_items ws) (drop_items ws)

some_is : (m n : ℕ) → Some m ≡ Some n → m ≡ n
some_is m n e = cc

one_by : (f : Bool) (n : ℕ) (w : List ℕ) (ws : List (List ℕ)) → cond f (Some 1) None ≡ Some n → cond f (Some ws) None ≡ Some (drop n (w ∷ ws))
one_by true n w ws e = ap (λ (k : ℕ). Some (drop k (w ∷ ws))) (some_is 1 n e)
one_by false n w ws e = absurd cc

-- a list takes these words
kinds_by : (f : Bool) (ws : List (List ℕ)) (n : ℕ) → cond f (Some (length ws)) None ≡ Some n → cond f (Some []) None ≡ Some (drop n ws)
kinds_by true ws n e = let le : length ws ≤ n = omega (arith, some_is (length ws) n e) in ap (λ (vs : List (List ℕ)). Some vs) (sym (drop_of_length-le ws le))
kinds_by false ws n e = absurd cc

list_behind : (p : Part) (ws : List (List ℕ)) (n : ℕ) → taken_list p ws ≡ Some n → behind_list p ws ≡ Some (drop n ws)
list_behind Kinds ws n e = kinds_by (are_kinds KindWord ws && nat_le (count_or ws) 3) ws n e
list_behind p ws n e = ap (λ (vs : List (List ℕ)). Some vs) (sym (drop_items ws) ∙ ap (λ (k : ℕ). drop k ws) (some_is (items_in_front ws) n e))

behind_case : (b : Bool) (p : Part) (ws : List (List ℕ)) (n : ℕ) → cond b (taken_list p ws) (taken_one p ws) ≡ Some n → cond b (behind_list p ws) (behind_one p ws) ≡ Some (drop n ws)
behind_case true p ws n e = list_behind p ws n e
behind_case false p [] n e = absurd cc
behind_case false p (w ∷ ws) n e = one_by (fits p w) n w ws e

none_one : (f : Bool) (ws : List (List ℕ)) → cond {A = Option ℕ} f (Some 1) None ≡ None → cond f (Some ws) None ≡ None
none_one true ws e = absurd cc
none_one false ws e = refl

no_kinds : (f : Bool) (ws : List (List ℕ)) → cond f (Some (length ws)) None ≡ None → cond {A = Option (List (List ℕ))} f (Some []) None ≡ None
no_kinds true ws e = absurd cc
no_kinds false ws e = refl

no_list : (p : Part) (ws : List (List ℕ)) → taken_list p ws ≡ None → behind_list p ws ≡ None
no_list Kinds ws e = no_kinds (are_kinds KindWord ws && nat_le (count_or ws) 3) ws e
no_list p ws e = absurd cc

none_case : (b : Bool) (p : Part) (ws : List (List ℕ)) → cond b (taken_list p ws) (taken_one p ws) ≡ None → cond b (behind_list p ws) (behind_one p ws) ≡ None
none_case true p ws e = no_list p ws e
none_case false p [] e = refl
none_case false p (w ∷ ws) e = none_one (fits p w) ws e

-- ---- one part more

pub matches_none : (p : Part) (ps : List Part) (ws : List (List ℕ)) → taken_by p ws ≡ None → matches (p ∷ ps) ws ≡ false
matches_none p ps ws e = ap (λ (o : Option (List (List ℕ))). unwrap_or (option_map (λ rest. matches ps rest) o) false) (none_case (is_list p) p ws e)

pub matches_some : (p : Part) (ps : List Part) (ws : List (List ℕ)) (n : ℕ) → taken_by p ws ≡ Some n → matches (p ∷ ps) ws ≡ matches ps (drop n ws)
matches_some p ps ws n e = ap (λ (o : Option (List (List ℕ))). unwrap_or (option_map (λ rest. matches ps rest) o) false) (behind_case (is_list p) p ws n e)

pub spots_some : (p : Part) (ps : List Part) (ws : List (List ℕ)) (n : ℕ) → taken_by p ws ≡ Some n → spots_of (p ∷ ps) ws ≡ spots_at p ws ++ spots_of ps (drop n ws)
spots_some p ps ws n e = ap (λ (o : Option (List (List ℕ))). spots_at p ws ++ spots_of ps (unwrap_or o [])) (behind_case (is_list p) p ws n e)

-- ---- in the loop over the parts

texts_drop : (words : List (Bor (List ℕ))) (at n : ℕ) → drop n (texts_of (drop at words)) ≡ texts_of (drop (at + n) words)
texts_drop words at n = drop-map (λ (w : Bor (List ℕ)). w.now) n (drop at words) ∙ ap texts_of (drop-drop n at words)

seen_from : (p : Part) (words : List (Bor (List ℕ))) (at : ℕ) (o : Option ℕ) → o ≡ taken_by p (texts_of (take (length words - at) (drop at words))) → taken_by p (texts_of (drop at words)) ≡ o
seen_from p words at o e = ap (λ (ws : List (Bor (List ℕ))). taken_by p (texts_of ws)) (sym (take_rest words at)) ∙ sym e

pub stops : (parts : List Part) (i : ℕ) (d : Part) (words : List (Bor (List ℕ))) (at : ℕ) (whole : Bool) → i < length parts → None ≡ taken_by (get_or parts i d) (texts_of (take (length words - at) (drop at words))) → matches (drop i parts) (texts_of (drop at words)) ≡ whole → false ≡ whole
stops parts i d words at whole lt e h =
    let p = get_or parts i d in
    let ws = texts_of (drop at words) in
    sym (ap (λ (x : List Part). matches x ws) (drop_more parts i d lt) ∙ matches_none p (drop (i + 1) parts) ws (seen_from p words at None e)) ∙ h

pub goes : (parts : List Part) (i : ℕ) (d : Part) (words : List (Bor (List ℕ))) (at n : ℕ) (whole : Bool) → i < length parts → Some n ≡ taken_by (get_or parts i d) (texts_of (take (length words - at) (drop at words))) → matches (drop i parts) (texts_of (drop at words)) ≡ whole → matches (drop (i + 1) parts) (texts_of (drop (at + n) words)) ≡ whole
goes parts i d words at n whole lt e h =
    let p = get_or parts i d in
    let ws = texts_of (drop at words) in
    ap (λ (x : List (List ℕ)). matches (drop (i + 1) parts) x) (sym (texts_drop words at n)) ∙ sym (matches_some p (drop (i + 1) parts) ws n (seen_from p words at (Some n) e)) ∙ ap (λ (x : List Part). matches x ws) (sym (drop_more parts i d lt)) ∙ h

pub adds : (parts : List Part) (i : ℕ) (d : Part) (words : List (Bor (List ℕ))) (at n : ℕ) (old new whole : List Spot) → i < length parts → Some n ≡ taken_by (get_or parts i d) (texts_of (take (length words - at) (drop at words))) → new ≡ old ++ spots_at (get_or parts i d) (texts_of (take (length words - at) (drop at words))) → old ++ spots_of (drop i parts) (texts_of (drop at words)) ≡ whole → new ++ spots_of (drop (i + 1) parts) (texts_of (drop (at + n) words)) ≡ whole
adds parts i d words at n old new whole lt e k h =
    let p = get_or parts i d in
    let ws = texts_of (drop at words) in
    let ps = drop (i + 1) parts in
    let t : new ≡ old ++ spots_at p ws = k ∙ ap (λ (x : List (Bor (List ℕ))). old ++ spots_at p (texts_of x)) (take_rest words at) in
    let f : spots_of (drop i parts) ws ≡ spots_at p ws ++ spots_of ps (drop n ws) = ap (λ (x : List Part). spots_of x ws) (drop_more parts i d lt) ∙ spots_some p ps ws n (seen_from p words at (Some n) e) in
    ap (λ (x : List (List ℕ)). new ++ spots_of ps x) (sym (texts_drop words at n)) ∙ ap (λ (x : List Spot). x ++ spots_of ps (drop n ws)) t ∙ append_assoc old (spots_at p ws) (spots_of ps (drop n ws))
    ∙ ap (λ (x : List Spot). old ++ x) (sym f) ∙ h

at_end_is : (words : List (Bor (List ℕ))) (at : ℕ) → at ≤ length words → eqb at (length words) ≡ is_end (texts_of (drop at words))
at_end_is [] zero le = refl
at_end_is [] (suc at) le = absurd (omega (arith, le))
at_end_is (w ∷ words) zero le = ne_eqb 0 (length (w ∷ words)) (omega arith)
at_end_is (w ∷ words) (suc at) le = eqb-suc-suc at (length words) ∙ at_end_is words at (omega (arith, le))

pub ends : (parts : List Part) (i : ℕ) (words : List (Bor (List ℕ))) (at : ℕ) (whole : Bool) → length parts ≤ i → at ≤ length words → matches (drop i parts) (texts_of (drop at words)) ≡ whole → eqb at (length words) ≡ whole
ends parts i words at whole ge le h =
    at_end_is words at le ∙ sym (ap (λ (x : List Part). matches x (texts_of (drop at words))) (drop_of_length-le parts ge)) ∙ h
