-- What becomes of the sheet at a line with these words, in the steps of the code.
use Rattle.std.specs.Prelude.{◌≡◌, ℕ, List, [], ◌∷◌, length, Option, Some, None, Result, Ok, Err, Bool, ◌||◌, ◌++◌, IfOk, IfSome, nat_lt, option_map}
use Rattle.rc_read.specs.Adds.{added, counted, with_line, with_words}
use Rattle.rc_read.specs.Causes.{number_of_cause}
use Rattle.rc_read.specs.declared.fault.ReadCause.{ReadCause}
use Rattle.rc_read.specs.declared.says.Says.{Says}
use Rattle.rc_read.specs.declared.table.Part.{Part}
use Rattle.rc_read.specs.declared.table.Row.{Row}
use Rattle.rc_read.specs.declared.values.Item.{Item}
use Rattle.rc_read.specs.declared.noted.Noted.{Noted}
use Rattle.rc_read.specs.declared.noted.Wrong.{Wrong}
use Rattle.rc_read.specs.declared.values.Value.{Value}
use Rattle.rc_read.specs.Says.{says_of}
use Rattle.rc_read.specs.Sentences.{is_unknown, any_unknown, is_double, any_double, any_named_twice, repeats, bad_brace, is_too_long, is_too_deep, is_full, any_full, bad_nesting, bad_case, other_flag, sentences, word_sentences, first_true}
use Rattle.rc_read.specs.Sheets.{Sheet, with_names}
use Rattle.rc_read.specs.Spots.{Spot, spots_of}
use Rattle.rc_read.specs.Table.{parts_of}
use Rattle.rc_read.specs.Values.{any_lacks, values_of, items_in, flag_in, seen_behind, start, value_at}

-- What is wrong with the name in a place or is wrong already, and with one in these places.
abbrev pub wrong_with : Sheet → Part → List ℕ → Wrong → Wrong
wrong_with s part w wrong = record { unknown = is_unknown s part w || wrong.unknown; double = is_double s part w || wrong.double; full = is_full s part w || wrong.full }

abbrev pub wrong_in : Sheet → List Spot → Wrong
wrong_in s spots = record { unknown = any_unknown s spots; double = any_double s spots; full = any_full s spots }

-- The sentences from the fifth on, on a sheet that has the variables of the line.
abbrev pub later_sentences : Sheet → List ℕ → Wrong → List Item → Says → List (ℕ × Bool)
later_sentences s line wrong items what =
    (5, wrong.unknown)
    ∷ (6, wrong.double || any_named_twice items || repeats s what)
    ∷ (7, bad_brace s what)
    ∷ (8, is_too_long s line || is_too_deep s what || wrong.full || nat_lt 64 (length s.draft.names))
    ∷ (9, bad_nesting s.draft.blocks items what)
    ∷ (10, bad_case s.draft what)
    ∷ (11, other_flag s.draft.flag (flag_in items))
    ∷ []

-- A line of this form, on a sheet that has its variables.
abbrev pub named_sentences : Sheet → List ℕ → Row → List Spot → List (ℕ × Bool)
named_sentences s line row spots =
    (4, any_lacks s start spots)
    ∷ later_sentences s line (wrong_in s spots) (items_in (values_of s start spots)) (says_of row (values_of s start spots))

abbrev pub JudgesNamed : {E : Type 0} → Sheet → List ℕ → List (List ℕ) → Row → List Spot → Sheet → Result (Option ReadCause) E → Type 0
JudgesNamed s line ws row spots new (Ok None) =
    (first_true (named_sentences s line row spots) ≡ None) × (new ≡ counted (added s ws (items_in (values_of s start spots)) (says_of row (values_of s start spots))))
JudgesNamed s line ws row spots new (Ok (Some cause)) = first_true (named_sentences s line row spots) ≡ Some (number_of_cause cause)
JudgesNamed s line ws row spots new (Err e) = Unit {0}

-- A line of this form.
abbrev pub JudgesRow : {E : Type 0} → Sheet → List ℕ → List (List ℕ) → Row → Sheet → Result (Option ReadCause) E → Type 0
JudgesRow old line ws row new r = JudgesNamed (with_names old (spots_of (parts_of row) ws)) line ws row (spots_of (parts_of row) ws) new r

-- A line with words or without.
abbrev pub JudgesWords : {E : Type 0} → Sheet → List ℕ → List (List ℕ) → Sheet → Result (Option ReadCause) E → Type 0
JudgesWords old line ws new (Ok None) = (first_true (word_sentences old line ws) ≡ None) × (new ≡ counted (with_words old ws))
JudgesWords old line ws new (Ok (Some cause)) = first_true (word_sentences old line ws) ≡ Some (number_of_cause cause)
JudgesWords old line ws new (Err e) = Unit {0}

-- A line.
abbrev pub JudgesLine : {E : Type 0} → Sheet → List ℕ → Sheet → Result (Option ReadCause) E → Type 0
JudgesLine old line new (Ok None) = (first_true (sentences old line) ≡ None) × (new ≡ with_line old line)
JudgesLine old line new (Ok (Some cause)) = first_true (sentences old line) ≡ Some (number_of_cause cause)
JudgesLine old line new (Err e) = Unit {0}

-- A line at fault may have added variables. They are dropped again.
abbrev pub AddsNames : Sheet → Sheet → Type 0
AddsNames old new = (more : List (List ℕ)) × (new ≡ record old { draft = record old.draft { names = old.draft.names ++ more } })

abbrev pub OnCause : {E : Type 0} → Result (Option ReadCause) E → Type 0 → Type 0
OnCause r X = IfOk r (λ o. IfSome o (λ _. X))

-- What a place says, what it says of the places after it, and what is wrong with its name.
abbrev pub IsValue : Sheet → Part → List ℕ → Noted → Option Value → Type 0
IsValue s part word old value = value ≡ value_at s old.seen part word

abbrev pub IsSeen : Sheet → Part → List ℕ → Noted → Noted → Type 0
IsSeen s part word old new = new.seen ≡ seen_behind s old.seen part word

abbrev pub IsWrong : Sheet → Part → List ℕ → Noted → Noted → Type 0
IsWrong s part word old new = new.wrong ≡ wrong_with s part word old.wrong

abbrev pub with_unknown : Wrong → Bool → Wrong
with_unknown wrong unknown = record wrong { unknown = unknown || wrong.unknown }

abbrev pub with_repeat : Wrong → (double full : Bool) → Wrong
with_repeat wrong double full = record wrong { double = double || wrong.double; full = full || wrong.full }

-- The cause is the number of the first true sentence.
abbrev pub Finds : Option ReadCause → List (ℕ × Bool) → Type 0
Finds cause sentences = option_map number_of_cause cause ≡ first_true sentences
