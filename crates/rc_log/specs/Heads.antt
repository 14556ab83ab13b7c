-- The first two lines of a log: `ringcheck log 1` and `ring SQ CQ`.
use Rattle.std.specs.Prelude.{ℕ, Bool, if◌then◌else◌, List, [], ◌∷◌, Option, Some, None, option_and_then, codes}
use Rattle.std.specs.Str.{bytes_eq}
use Rattle.rc_log.specs.Said.{count, two_of, words_of}

abbrev pub is_head : List ℕ → Bool
is_head line = bytes_eq line (codes "ringcheck log 1")

-- How many entries the submission ring and the completion ring have.
abbrev pub ring_by : Option ℕ → Option ℕ → Option (ℕ × ℕ)
ring_by (Some sq) (Some cq) = Some (sq, cq)
ring_by _ _ = None

abbrev pub ring_in : List (List ℕ) → Option (ℕ × ℕ)
ring_in [] = None
ring_in (w ∷ ws) = if bytes_eq w (codes "ring") then option_and_then (λ n. ring_by (count n.0) (count n.1)) (two_of ws) else None

abbrev pub ring : List ℕ → Option (ℕ × ℕ)
ring line = ring_in (words_of line)
