-- Words that are slices of a line.
use Rattle.std.specs.Prelude.{ℕ, ◌≡◌, List, [], ◌∷◌, Option, Some, None, option_map}
use Rattle.std.specs.Borrow.{Bor}
use Rattle.rc_log.specs.Said.{words_of}

-- The words of the bytes after a word: none, or those after the blank with which they begin.
abbrev pub words_after : List ℕ → List (List ℕ)
words_after [] = []
words_after (b ∷ bytes) = words_of bytes

-- The first of these words, and the bytes after it.
abbrev pub Begins : List (List ℕ) → Option (Bor (List ℕ) × Bor (List ℕ)) → Type 0
Begins ws None = ws ≡ []
Begins ws (Some (w, rest)) = ws ≡ w.now ∷ words_after rest.now

-- what slices are
abbrev pub text_of : Option (Bor (List ℕ)) → Option (List ℕ)
text_of w = option_map (λ w. w.now) w

abbrev pub texts_of : Option (Bor (List ℕ) × Bor (List ℕ)) → Option (List ℕ × List ℕ)
texts_of w = option_map (λ w. (w.0.now, w.1.now)) w
