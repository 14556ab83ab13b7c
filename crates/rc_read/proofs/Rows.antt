-- The forms that a line can have whose first word begins with a byte are enough, and of those without a list the ones
-- with as many parts as it has words.
use Rattle.std.proofs.Common.{◌≡◌, ℕ, suc, List, [], ◌∷◌, ◌++◌, length, Bool, true, false, cond, eqb, Option, Some, None, refl, sym, ap, ◌∙◌}
use Rattle.std.proofs.lemmas.Bool.{and_parts, false_from_ne_true, or_parts, true≢false}
use Rattle.std.specs.Option.{option_or}
use Rattle.std.specs.Prelude.{option_map, unwrap_or}
use Rattle.std.specs.Str.{bytes_eq}
use Rattle.rc_read.specs.declared.table.Part.{Part}
use Rattle.rc_read.specs.declared.table.Part.TheVariants.{Fixed}
use Rattle.rc_read.specs.declared.table.Row.{Row}
use Rattle.rc_read.specs.Quick.{starts_with, may_begin, beginning, first_byte, has_list}
use Rattle.rc_read.specs.Spots.{behind_list, behind_one, first_row, fits, is_list, matches}
use Rattle.rc_read.specs.Table.{assignments, fixed_rows, parts_of, rows, text_of}

-- ---- the first word of a line begins as its form does

word_begins : (w text : List ℕ) (ws : List (List ℕ)) → bytes_eq w text ≡ true → starts_with (first_byte (w ∷ ws)) text ≡ true
word_begins w [] ws h = refl
word_begins [] (c ∷ text) ws h = absurd cc
word_begins (b ∷ w) (c ∷ text) ws h = (and_parts (eqb b c) (bytes_eq w text) h).0

stands : (f : Bool) (parts : List Part) (ws : List (List ℕ)) → unwrap_or (option_map (λ rest. matches parts rest) (cond f (Some ws) None)) false ≡ true → f ≡ true
stands true parts ws h = refl
stands false parts ws h = absurd cc

begins_so : (parts : List Part) (ws : List (List ℕ)) → matches parts ws ≡ true → may_begin (first_byte ws) parts ≡ true
begins_so [] ws h = refl
begins_so (Fixed f ∷ parts) [] h = absurd cc
begins_so (Fixed f ∷ parts) (w ∷ ws) h = word_begins w (text_of f) ws (stands (bytes_eq w (text_of f)) parts ws h)
begins_so (_ ∷ parts) ws h = refl

-- ---- so no other form is found

one_row : (b : Bool) (row : Row) (rest all : List Row) (ws : List (List ℕ)) → (b ≡ false → matches (parts_of row) ws ≡ false) → first_row rest ws ≡ first_row all ws → first_row (cond b (row ∷ rest) rest) ws ≡ first_row (row ∷ all) ws
one_row true row rest all ws k e = ap (λ (x : Option Row). cond (matches (parts_of row) ws) (Some row) x) e
one_row false row rest all ws k e = e ∙ sym (ap (λ (x : Bool). cond x (Some row) (first_row all ws)) (k refl))

rows_by : (all : List Row) (ws : List (List ℕ)) → first_row (beginning (first_byte ws) all) ws ≡ first_row all ws
rows_by [] ws = refl
rows_by (row ∷ all) ws =
    one_row (may_begin (first_byte ws) (parts_of row)) row (beginning (first_byte ws) all) all ws (λ e. false_from_ne_true (matches (parts_of row) ws) (λ m. true≢false (sym (begins_so (parts_of row) ws m) ∙ e))) (rows_by all ws)

-- the rows of a first byte, and then the others
rows_then : (all more : List Row) (ws : List (List ℕ)) (o : Option Row) → first_row all ws ≡ o → first_row (all ++ more) ws ≡ option_or o (first_row more ws)
rows_then [] more ws o e = rw (← e) refl
rows_then (row ∷ all) more ws o e = one (matches (parts_of row) ws) e (rows_then all more ws o)
  where
    one : (b : Bool) → cond b (Some row) (first_row all ws) ≡ o → (first_row all ws ≡ o → first_row (all ++ more) ws ≡ option_or o (first_row more ws)) → cond b (Some row) (first_row (all ++ more) ws) ≡ option_or o (first_row more ws)
    one true f h = rw (← f) refl
    one false f h = h f

pub rows_found : (n : ℕ) (ws : List (List ℕ)) (o : Option Row) → n ≡ first_byte ws → o ≡ first_row (beginning n fixed_rows) ws → option_or o (first_row assignments ws) ≡ first_row rows ws
rows_found n ws o e f =
    sym (rows_then fixed_rows assignments ws o (sym (f ∙ ap (λ (k : ℕ). first_row (beginning k fixed_rows) ws) e ∙ rows_by fixed_rows ws)))

-- ---- a form without a list has as many parts as its line has words

behind_is : (f : Bool) (parts : List Part) (ws : List (List ℕ)) → unwrap_or (option_map (λ rest. matches parts rest) (cond f (Some ws) None)) false ≡ true → matches parts ws ≡ true
behind_is true parts ws h = h
behind_is false parts ws h = absurd cc

one_more : (b : Bool) (p : Part) (parts : List Part) (ws : List (List ℕ)) → ((vs : List (List ℕ)) → matches parts vs ≡ true → length parts ≡ length vs) → b ≡ false → unwrap_or (option_map (λ rest. matches parts rest) (cond b (behind_list p ws) (behind_one p ws))) false ≡ true → suc (length parts) ≡ length ws
one_more true p parts ws k n h = absurd cc
one_more false p parts [] k n h = absurd cc
one_more false p parts (w ∷ ws) k n h = ap suc (k ws (behind_is (fits p w) parts ws h))

counts : (parts : List Part) (ws : List (List ℕ)) → has_list parts ≡ false → matches parts ws ≡ true → length parts ≡ length ws
counts [] [] n h = refl
counts [] (w ∷ ws) n h = absurd cc
counts (p ∷ parts) ws n h =
    let e = or_parts (is_list p) (has_list parts) n in
    one_more (is_list p) p parts ws (λ vs g. counts parts vs e.1 g) e.0 h

pub none_of_others : (parts : List Part) (ws : List (List ℕ)) → ¬ (length parts ≡ length ws) → has_list parts ≡ false → matches parts ws ≡ false
none_of_others parts ws ne n = by_case (matches parts ws) (counts parts ws n)
  where
    by_case : (m : Bool) → (m ≡ true → length parts ≡ length ws) → m ≡ false
    by_case true k = absurd (ne (k refl))
    by_case false k = refl
