-- What it says that no sentence is true of a line.
use Rattle.std.proofs.Common.{◌≡◌, ℕ, ◌<◌, ◌≤◌, Bool, true, false, cond, not, ◌||◌, nat_le, nat_lt, List, [], ◌∷◌, length, Option, Some, None, refl, subst, ◌⊎◌, inl, inr}
use Rattle.std.proofs.lemmas.Bool.{or_parts, leb-false, ltb-false}
use Rattle.rc_read.specs.declared.noted.Wrong.{Wrong}
use Rattle.rc_read.specs.declared.parts.Region.{Region}
use Rattle.rc_read.specs.declared.parts.Region.TheVariants.{Start, Second, Declarations, InThread, Between}
use Rattle.rc_read.specs.declared.says.Says.{Says}
use Rattle.rc_read.specs.declared.table.Row.{Row}
use Rattle.rc_read.specs.declared.table.Stand.{Stand}
use Rattle.rc_read.specs.declared.table.Stand.TheVariants as stand
use Rattle.rc_read.specs.declared.values.Item.{Item}
use Rattle.rc_read.specs.Adds.{form_in, values}
use Rattle.rc_read.specs.Judging.{later_sentences}
use Rattle.rc_read.specs.Says.{says_by}
use Rattle.rc_read.specs.Sentences.{any_double, any_full, any_named_twice, any_unknown, bad_brace, bad_case, bad_head, bad_line, bad_nesting, first_true, form_sentences, has_too_many_names, is_inside, is_too_deep, is_too_long, may_stand, repeats}
use Rattle.rc_read.specs.Sheets.{Sheet, names_behind, with_names}
use Rattle.rc_read.specs.Spots.{first_row, form_by, is_form, matches, row_of, spots_by, spots_of}
use Rattle.rc_read.specs.Table.{parts_of, rows}
use Rattle.rc_read.specs.Values.{any_lacks, items_in, start}

none_true : (n : ℕ) (b : Bool) (others : Option ℕ) → cond b (Some n) others ≡ None → (b ≡ false) × (others ≡ None)
none_true n true others e = absurd (cc)
none_true n false others e = (refl, e)

-- the first sentence, and the others
pub none_else : (b : Bool) (ps : List (ℕ × Bool)) → first_true ((1, b) ∷ ps) ≡ None → first_true ps ≡ None
none_else b ps e = (none_true 1 b (first_true ps) e).1

pub none_alone : (n : ℕ) (b : Bool) → first_true ((n, b) ∷ []) ≡ None → b ≡ false
none_alone n b e = (none_true n b None e).0

pub few_lines : (s : Sheet) (line : List ℕ) → is_too_long s line ≡ false → s.count < 4096
few_lines s line e = leb-false 4096 s.count (or_parts (nat_le 4096 s.count) (nat_lt 256 (length line)) e).0

-- Where no sentence is true of a line, fewer lines than a model may have are above it.
pub few_above : (s : Sheet) (line : List ℕ) (wrong : Wrong) (items : List Item) (what : Says) → first_true (later_sentences s line wrong items what) ≡ None → s.count < 4096
few_above s line wrong items what e =
    let p6 = (none_true 5 wrong.unknown _ e).1 in
    let p7 = (none_true 6 (wrong.double || any_named_twice items || repeats s what) _ p6).1 in
    let p8 = (none_true 7 (bad_brace s what) _ p7).1 in
    let large = (none_true 8 (is_too_long s line || is_too_deep s what || wrong.full || nat_lt 64 (length s.draft.names)) _ p8).0 in
    let names = or_parts (is_too_long s line || is_too_deep s what || wrong.full) (nat_lt 64 (length s.draft.names)) large in
    let full = or_parts (is_too_long s line || is_too_deep s what) wrong.full names.0 in
    few_lines s line (or_parts (is_too_long s line) (is_too_deep s what) full.0).0

-- The items of a line with this form.
abbrev pub items_by : Sheet → List (List ℕ) → Option Row → List Item
items_by s ws form = items_in (values s (spots_by form ws))

-- None of the sentences about a line with this form is true.
pub record AreFalse (s : Sheet) (ws : List (List ℕ)) (form : Option Row) : Type 0 where
  pub line : bad_line s.region form ≡ false
  pub numbers : any_lacks (with_names s (spots_by form ws)) start (spots_by form ws) ≡ false
  pub known : any_unknown s (spots_by form ws) ≡ false
  pub new : any_double s (spots_by form ws) ≡ false
  pub once : any_named_twice (items_by s ws form) ≡ false
  pub again : repeats s (says_by form (values s (spots_by form ws))) ≡ false
  pub braces : bad_brace s (says_by form (values s (spots_by form ws))) ≡ false
  pub few_lines : s.count < 4096
  pub depth : is_too_deep s (says_by form (values s (spots_by form ws))) ≡ false
  pub room : any_full s (spots_by form ws) ≡ false
  pub few_names : length (names_behind s.draft.names (spots_by form ws)) ≤ 64
  pub nesting : bad_nesting s.draft.blocks (items_by s ws form) (says_by form (values s (spots_by form ws))) ≡ false
  pub arms : bad_case s.draft (says_by form (values s (spots_by form ws))) ≡ false

pub are_false : (s : Sheet) (line : List ℕ) (ws : List (List ℕ)) → first_true (form_sentences s line ws) ≡ None → AreFalse s ws (form_in s ws)
are_false s line ws e =
    let spots = spots_by (form_in s ws) ws in
    let what = says_by (form_in s ws) (values s spots) in
    let p2 = (none_true 2 (bad_head s.region (form_in s ws) ws) _ e).1 in
    let p3 = none_true 3 (bad_line s.region (form_in s ws)) _ p2 in
    let p4 = none_true 4 (any_lacks (with_names s spots) start spots) _ p3.1 in
    let p5 = none_true 5 (any_unknown s spots) _ p4.1 in
    let p6 = none_true 6 (any_double s spots || any_named_twice (items_by s ws (form_in s ws)) || repeats s what) _ p5.1 in
    let p7 = none_true 7 (bad_brace s what) _ p6.1 in
    let p8 = none_true 8 (is_too_long s line || is_too_deep s what || any_full s spots || has_too_many_names s spots) _ p7.1 in
    let p9 = none_true 9 (bad_nesting s.draft.blocks (items_by s ws (form_in s ws)) what) _ p8.1 in
    let p10 = none_true 10 (bad_case s.draft what) _ p9.1 in
    let twice = or_parts (any_double s spots || any_named_twice (items_by s ws (form_in s ws))) (repeats s what) p6.0 in
    let double = or_parts (any_double s spots) (any_named_twice (items_by s ws (form_in s ws))) twice.0 in
    let names = or_parts (is_too_long s line || is_too_deep s what || any_full s spots) (has_too_many_names s spots) p8.0 in
    let full = or_parts (is_too_long s line || is_too_deep s what) (any_full s spots) names.0 in
    let deep = or_parts (is_too_long s line) (is_too_deep s what) full.0 in
    record {
      line = p3.0;
      numbers = p4.0;
      known = p5.0;
      new = double.0;
      once = double.1;
      again = twice.1;
      braces = p7.0;
      few_lines = few_lines s line deep.0;
      depth = deep.1;
      room = full.1;
      few_names = ltb-false 64 (length (names_behind s.draft.names spots)) names.1;
      nesting = p9.0;
      arms = p10.0;
    }

-- the words are those of the form's parts
first_matches : (rows : List Row) (ws : List (List ℕ)) (row : Row) → first_row rows ws ≡ Some row → matches (parts_of row) ws ≡ true
first_matches [] ws row e = absurd (cc)
first_matches (r ∷ rows) ws row e = go (matches (parts_of r) ws) refl e (λ h. first_matches rows ws row h)
  where
    go : (b : Bool) → matches (parts_of r) ws ≡ b → cond b (Some r) (first_row rows ws) ≡ Some row → (first_row rows ws ≡ Some row → matches (parts_of row) ws ≡ true) → matches (parts_of row) ws ≡ true
    go true f h rest = let q : r ≡ row = cc in subst (λ x. matches (parts_of x) ws ≡ true) q f
    go false f h rest = rest h

-- The words have a form in a model of this version.
pub record HasForm (version : ℕ) (ws : List (List ℕ)) (row : Row) : Type 0 where
  pub matches : matches (parts_of row) ws ≡ true
  pub holds : is_form version row (spots_of (parts_of row) ws) ≡ true

pub has_form : (version : ℕ) (ws : List (List ℕ)) (row : Row) → row_of version ws ≡ Some row → HasForm version ws row
has_form version ws row e = go (first_row rows ws) refl e
  where
    some : (r : Row) (b : Bool) → first_row rows ws ≡ Some r → is_form version r (spots_of (parts_of r) ws) ≡ b → cond b (Some r) None ≡ Some row → HasForm version ws row
    some r true f g h = let q : r ≡ row = cc in subst (HasForm version ws) q (record { matches = first_matches rows ws r f; holds = g })
    some r false f g h = absurd (cc)

    go : (o : Option Row) → first_row rows ws ≡ o → form_by version o ws ≡ Some row → HasForm version ws row
    go None f h = absurd (cc)
    go (Some r) f h = some r (is_form version r (spots_of (parts_of r) ws)) f refl h

-- ---- the parts of a model

-- The part of the model in which such a form is.
abbrev pub IsRegion : Stand → Region → Type 0
IsRegion stand.First r = r ≡ Start
IsRegion stand.Second r = r ≡ Second
IsRegion stand.Declaration r = r ≡ Declarations
IsRegion stand.Header r = is_inside r ≡ false → (r ≡ Declarations) ⊎ (r ≡ Between)
IsRegion stand.Inside r = r ≡ InThread
IsRegion stand.Brace r = Unit {0}

pub region_is : (st : Stand) (r : Region) → not (may_stand st r) ≡ false → IsRegion st r
region_is stand.First Start e = refl
region_is stand.First r e = absurd (cc)
region_is stand.Second Second e = refl
region_is stand.Second r e = absurd (cc)
region_is stand.Declaration Declarations e = refl
region_is stand.Declaration r e = absurd (cc)
region_is stand.Header Declarations e = λ h. inl refl
region_is stand.Header InThread e = λ h. absurd (cc)
region_is stand.Header Between e = λ h. inr refl
region_is stand.Header r e = absurd (cc)
region_is stand.Inside InThread e = refl
region_is stand.Inside r e = absurd (cc)
region_is stand.Brace r e = tt

pub inside : (r : Region) → not (is_inside r) ≡ false → r ≡ InThread
inside InThread e = refl
inside r e = absurd (cc)
