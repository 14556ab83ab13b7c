-- Where a part was last held.
use Rattle.std.specs.Prelude.{ℕ, ◌≡◌, ◌<◌, ◌≤◌, Bool, true, false, Option, Some, None, length, slice_get, take}
use Rattle.rc_lang.specs.Program.{Program, Thread}
use Rattle.rc_lang.specs.Views.{view_of}
use Rattle.rc_split.specs.declared.part.Part.{Part as Given}
use Rattle.rc_rules.specs.Labellings.{HasLabels}
use Rattle.rc_rules.specs.Readers.{some_has}
use Rattle.rc_rules.specs.Sides.{Sides, on}
use Rattle.rc_verify.specs.Labels.{IsStrongestAt}

-- Whether the strongest labels at j have the part on some side.
abbrev pub HasAt : Program → Thread → ℕ → Given → Bool → Type 0
HasAt P t j part has = (s : Sides) × IsStrongestAt P t j s × (some_has (λ z. on z s) part ≡ has)

-- The greatest place before n at which the part is held.
abbrev pub IsLastHeld : Program → Thread → ℕ → Given → Option ℕ → Type 0
IsLastHeld P t n part None = (j : ℕ) → j < n → HasAt P t j part false
IsLastHeld P t n part (Some k) = (k < n) × HasAt P t k part true × ((j : ℕ) → k < j → j < n → HasAt P t j part false)

-- It is found where the lines before n have labels.
abbrev pub FindsLastHeld : Program → ℕ → ℕ → Given → Option ℕ → Type 0
FindsLastHeld P i n part last =
    (t : Thread) → slice_get P.threads i ≡ Some t → n ≤ length t.lines → HasLabels (view_of P i) t (take n t.lines) → IsLastHeld (view_of P i) t n part last
