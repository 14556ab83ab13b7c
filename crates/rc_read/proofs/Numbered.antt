-- A variable keeps its number as others are added after it, so that what a place says doesn't change with them.
use Rattle.std.proofs.Common.{◌≡◌, ℕ, suc, ◌+◌, ◌<◌, List, [], ◌∷◌, ◌++◌, length, Bool, true, false, cond, not, ◌||◌, Option, Some, refl, sym, ap, ◌∙◌, arith}
use Rattle.std.proofs.lemmas.Cmp.{nat_list_eq_equiv}
use Rattle.std.proofs.lemmas.Bool.{or_parts, true_from_ne_false}
use Rattle.std.proofs.lemmas.List.{length-map}
use Rattle.std.specs.Global.{Vec}
use Rattle.std.specs.Str.{bytes_eq}
use Rattle.std.specs.Prelude.{is_none, unwrap_or}
use Rattle.rc_lang.specs.declared.lines.Operand.TheVariants as operand
use Rattle.rc_lang.specs.Parts.{view_names}
use Rattle.rc_read.specs.declared.table.Part.{Part}
use Rattle.rc_read.specs.declared.table.Part.TheVariants as part
use Rattle.rc_read.specs.declared.table.Range.TheVariants as range
use Rattle.rc_read.specs.declared.values.Item.TheVariants.{When}
use Rattle.rc_read.specs.declared.values.Seen.{Seen}
use Rattle.rc_read.specs.declared.values.Value.{Value}
use Rattle.rc_read.specs.declared.values.Value.TheVariants.{Item, Nothing, Named, Operand}
use Rattle.rc_read.proofs.KeptSpots.{all_named, number_below, names_grow}
use Rattle.rc_read.specs.Sheets.{Sheet, number_in, is_among, with_name, is_variable, names_behind, with_names}
use Rattle.rc_read.specs.Spots.{Spot, begins_number}
use Rattle.rc_read.specs.Values.{value_at, signed_value, seen_behind, values_of, any_lacks}
use Rattle.rc_read.specs.Sentences.{is_unknown, any_unknown, is_double, any_double, is_full, any_full}

-- ---- the number of a new name

number_outside : (ns : List (List ℕ)) (w : List ℕ) → is_among ns w ≡ false → number_in ns w ≡ length ns
number_outside [] w e = refl
number_outside (n ∷ ns) w e =
    let p = or_parts (bytes_eq n w) (is_among ns w) e in
    rw p.0 omega (arith, number_outside ns w p.1)

pub is_old : (names : List (Vec ℕ)) (w : List ℕ) → ¬ (number_in (view_names names) w ≡ length names) → is_among (view_names names) w ≡ true
is_old names w h = true_from_ne_false (is_among (view_names names) w) (λ e. h (number_outside (view_names names) w e ∙ length-map names (λ (n : Vec ℕ). n.items)))

-- ---- the number of a name as others are added

own_number : (ns : List (List ℕ)) (w : List ℕ) → number_in (ns ++ w ∷ []) w ≡ number_in ns w
own_number [] w = rw (nat_list_eq_equiv.refl w) refl
own_number (n ∷ ns) w = ap (λ (k : ℕ). cond (bytes_eq n w) 0 (k + 1)) (own_number ns w)

number_more : (ns : List (List ℕ)) (v w : List ℕ) → number_in ns w < length ns → number_in (ns ++ v ∷ []) w ≡ number_in ns w
number_more [] v w lt = absurd (omega (arith, lt))
number_more (n ∷ ns) v w lt = go (bytes_eq n w) lt (number_more ns v w)
  where
    go : (b : Bool) → cond b 0 (number_in ns w + 1) < suc (length ns) → (number_in ns w < length ns → number_in (ns ++ v ∷ []) w ≡ number_in ns w) → cond b 0 (number_in (ns ++ v ∷ []) w + 1) ≡ cond b 0 (number_in ns w + 1)
    go true h k = refl
    go false h k = ap (λ (m : ℕ). m + 1) (k (omega (arith, h)))

number_step : (b c : Bool) (ns : List (List ℕ)) (v w : List ℕ) → number_in ns w < length ns → number_in (cond b (cond c ns (ns ++ v ∷ [])) ns) w ≡ number_in ns w
number_step true true ns v w lt = refl
number_step true false ns v w lt = number_more ns v w lt
number_step false c ns v w lt = refl

number_behind : (ns : List (List ℕ)) (ps : List Spot) (w : List ℕ) → number_in ns w < length ns → number_in (names_behind ns ps) w ≡ number_in ns w
number_behind ns [] w lt = refl
number_behind ns (p ∷ ps) w lt =
    let more = names_behind ns (p ∷ []) in
    let e : number_in more w ≡ number_in ns w = number_step (is_variable p.part p.word) (is_among ns p.word) ns p.word w lt in
    number_behind more ps w (omega (arith, e, lt, names_grow ns (p ∷ []))) ∙ e

number_kept : (ns : List (List ℕ)) (w : List ℕ) (ps : List Spot) → number_in (names_behind (with_name ns w) ps) w ≡ number_in ns w
number_kept ns w ps = number_behind (with_name ns w) ps w below ∙ go (is_among ns w)
  where
    below : number_in (with_name ns w) w < length (with_name ns w)
    below = number_below (with_name ns w) w ((all_named ns (record { part = part.Variable; word = w } ∷ [])).0 refl)

    go : (b : Bool) → number_in (cond b ns (ns ++ w ∷ [])) w ≡ number_in ns w
    go true = refl
    go false = own_number ns w

-- ---- what a place says

operand_kept : (b : Bool) (ns : List (List ℕ)) (w : List ℕ) (ps : List Spot) → cond b (signed_value w) (Some (Operand (operand.Variable (number_in (names_behind (cond (not b) (with_name ns w) ns) ps) w)))) ≡ cond b (signed_value w) (Some (Operand (operand.Variable (number_in ns w))))
operand_kept true ns w ps = refl
operand_kept false ns w ps = ap (λ (n : ℕ). Some (Operand (operand.Variable n))) (number_kept ns w ps)

value_kept : (part : Part) (w : List ℕ) (s : Sheet) (seen : Seen) (ps : List Spot) → value_at (with_names s (record { part = part; word = w } ∷ ps)) seen part w ≡ value_at s seen part w
value_kept part.Variable w s seen ps = ap (λ (n : ℕ). Some (Named n)) (number_kept s.draft.names w ps)
value_kept part.Flag w s seen ps = ap (λ (n : ℕ). Some (Item (When n))) (number_kept s.draft.names w ps)
value_kept part.Operand w s seen ps = operand_kept (begins_number w) s.draft.names w ps
value_kept (part.Number (range.Within low high)) w s seen ps = refl
value_kept (part.Number _) w s seen ps = refl
value_kept _ w s seen ps = refl

behind_kept : (part : Part) (w : List ℕ) (s : Sheet) (seen : Seen) (ps : List Spot) → seen_behind (with_names s ps) seen part w ≡ seen_behind s seen part w
behind_kept (part.Number range.Size) w s seen ps = refl
behind_kept (part.Number _) w s seen ps = refl
behind_kept _ w s seen ps = refl

pub unknown_kept : (part : Part) (w : List ℕ) (s : Sheet) (ps : List Spot) → is_unknown (with_names s ps) part w ≡ is_unknown s part w
unknown_kept part.File w s ps = refl
unknown_kept _ w s ps = refl

pub double_kept : (part : Part) (w : List ℕ) (s : Sheet) (ps : List Spot) → is_double (with_names s ps) part w ≡ is_double s part w
double_kept part.NewFile w s ps = refl
double_kept _ w s ps = refl

pub full_kept : (part : Part) (w : List ℕ) (s : Sheet) (ps : List Spot) → is_full (with_names s ps) part w ≡ is_full s part w
full_kept part.NewFile w s ps = refl
full_kept _ w s ps = refl

-- ---- place by place, on the sheet with the variables of all

value_on : (p : Spot) (ps : List Spot) (s t : Sheet) (seen : Seen) → with_names s (p ∷ ps) ≡ t → value_at t seen p.part p.word ≡ value_at s seen p.part p.word
value_on p ps s t seen e = ap (λ (x : Sheet). value_at x seen p.part p.word) (sym e) ∙ value_kept p.part p.word s seen ps

behind_on : (p : Spot) (ps : List Spot) (s t : Sheet) (seen : Seen) → with_names s (p ∷ ps) ≡ t → seen_behind t seen p.part p.word ≡ seen_behind s seen p.part p.word
behind_on p ps s t seen e = ap (λ (x : Sheet). seen_behind x seen p.part p.word) (sym e) ∙ behind_kept p.part p.word s seen (p ∷ ps)

pub sheet_on : (p : Spot) (ps : List Spot) (s t new : Sheet) → with_names s (p ∷ ps) ≡ t → new ≡ with_names s (p ∷ []) → with_names new ps ≡ t
sheet_on p ps s t new e n = ap (λ (x : Sheet). with_names x ps) n ∙ e

pub values_on : (p : Spot) (ps : List Spot) (s t : Sheet) (seen next : Seen) (v : Value) → with_names s (p ∷ ps) ≡ t → Some v ≡ value_at s seen p.part p.word → next ≡ seen_behind s seen p.part p.word → values_of t seen (p ∷ ps) ≡ v ∷ values_of t next ps
values_on p ps s t seen next v e f g =
    let one : value_at t seen p.part p.word ≡ Some v = value_on p ps s t seen e ∙ sym f in
    let more : seen_behind t seen p.part p.word ≡ next = behind_on p ps s t seen e ∙ sym g in
    ap (λ (o : Option Value). unwrap_or o Nothing ∷ values_of t (seen_behind t seen p.part p.word) ps) one ∙ ap (λ (x : Seen). v ∷ values_of t x ps) more

pub lacks_on : (p : Spot) (ps : List Spot) (s t : Sheet) (seen next : Seen) (v : Value) → with_names s (p ∷ ps) ≡ t → Some v ≡ value_at s seen p.part p.word → next ≡ seen_behind s seen p.part p.word → any_lacks t seen (p ∷ ps) ≡ any_lacks t next ps
lacks_on p ps s t seen next v e f g =
    let one : value_at t seen p.part p.word ≡ Some v = value_on p ps s t seen e ∙ sym f in
    let more : seen_behind t seen p.part p.word ≡ next = behind_on p ps s t seen e ∙ sym g in
    ap (λ (o : Option Value). is_none o || any_lacks t (seen_behind t seen p.part p.word) ps) one ∙ ap (λ (x : Seen). any_lacks t x ps) more

or_more : (a b b' c d : Bool) → b' ≡ b → (a || (b' || c)) ≡ d → ((b || a) || c) ≡ d
or_more true true b' c d e h = h
or_more true false b' c d e h = h
or_more false true b' c d e h = ap (λ (x : Bool). x || c) (sym e) ∙ h
or_more false false b' c d e h = ap (λ (x : Bool). x || c) (sym e) ∙ h

pub unknown_on : (p : Spot) (ps : List Spot) (s t : Sheet) (a d : Bool) → with_names s (p ∷ ps) ≡ t → (a || any_unknown t (p ∷ ps)) ≡ d → ((is_unknown s p.part p.word || a) || any_unknown t ps) ≡ d
unknown_on p ps s t a d e h = or_more a (is_unknown s p.part p.word) (is_unknown t p.part p.word) (any_unknown t ps) d (ap (λ (x : Sheet). is_unknown x p.part p.word) (sym e) ∙ unknown_kept p.part p.word s (p ∷ ps)) h

pub double_on : (p : Spot) (ps : List Spot) (s t : Sheet) (a d : Bool) → with_names s (p ∷ ps) ≡ t → (a || any_double t (p ∷ ps)) ≡ d → ((is_double s p.part p.word || a) || any_double t ps) ≡ d
double_on p ps s t a d e h = or_more a (is_double s p.part p.word) (is_double t p.part p.word) (any_double t ps) d (ap (λ (x : Sheet). is_double x p.part p.word) (sym e) ∙ double_kept p.part p.word s (p ∷ ps)) h

pub full_on : (p : Spot) (ps : List Spot) (s t : Sheet) (a d : Bool) → with_names s (p ∷ ps) ≡ t → (a || any_full t (p ∷ ps)) ≡ d → ((is_full s p.part p.word || a) || any_full t ps) ≡ d
full_on p ps s t a d e h = or_more a (is_full s p.part p.word) (is_full t p.part p.word) (any_full t ps) d (ap (λ (x : Sheet). is_full x p.part p.word) (sym e) ∙ full_kept p.part p.word s (p ∷ ps)) h
