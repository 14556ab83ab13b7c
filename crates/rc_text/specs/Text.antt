-- Texts that grow in memory.
use Rattle.std.specs.Prelude.{ℕ, ◌≡◌, List, ◌++◌, Result, Ok, Err}
use Rattle.std.specs.Global.{Vec}

-- The text now ends with these bytes too. Where memory ran out, nothing is said of it.
abbrev pub Puts : {X E : Type 0} → Vec ℕ → Vec ℕ → List ℕ → Result X E → Type 0
Puts old new bytes (Ok x) = new.items ≡ old.items ++ bytes
Puts old new bytes (Err e) = Unit {0}

-- The text now ends with such a text of the answer too.
abbrev pub PutsAnswer : {X E : Type 0} → (X → List ℕ → Type 0) → Vec ℕ → Vec ℕ → Result X E → Type 0
PutsAnswer says old new (Ok x) = (text : List ℕ) × says x text × (new.items ≡ old.items ++ text)
PutsAnswer says old new (Err e) = Unit {0}

-- The text now ends with a text of this kind too.
abbrev pub PutsSome : {X E : Type 0} → (List ℕ → Type 0) → Vec ℕ → Vec ℕ → Result X E → Type 0
PutsSome kind old new r = PutsAnswer (λ answer text. kind text) old new r
