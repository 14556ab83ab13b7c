-- What the functions inside say: how a line is cut.
use Rattle.std.specs.Prelude.{ℕ, ◌≡◌, ◌<◌, false, List, ◌∷◌, ◌++◌, length}
use Rattle.rc_rewrite.specs.declared.parted.Parted.{Parted}
use Rattle.rc_rewrite.specs.Keeps.{flag_words, has_byte, IsLoopLine}

-- The bytes are cut around the first such byte.
pub record IsCutAt (byte : ℕ) (bytes front rest : List ℕ) : Type 0 where
  pub whole : bytes ≡ front ++ byte ∷ rest
  pub first : has_byte byte front ≡ false

-- The line is cut around its items.
abbrev pub IsParted : List ℕ → Parted → Type 0
IsParted line p = IsLoopLine line p.before.now p.items.now p.behind.now

-- No cut of the line is one around the items of a loop.
abbrev pub OpensNoLoop : List ℕ → Type 0
OpensNoLoop line = (before items behind : List ℕ) → IsLoopLine line before items behind → ⊥

-- The first word without a colon, and a shorter part that has the others.
abbrev pub BeginsFlag : List ℕ → List ℕ → List ℕ → Type 0
BeginsFlag items word after =
    (flag_words items ≡ word ∷ flag_words after) × (length after < length items)
