-- Faster ways to what the definitions of the notation say. No contract names these.
use Rattle.std.specs.Prelude.{ℕ, ◌+◌, List, [], ◌∷◌, length, Option, Some, None, Bool, true, ◌&&◌, ◌==◌, nat_le, if◌then◌else◌}
use Rattle.std.specs.List.{list_any}
use Rattle.rc_read.specs.declared.table.Part.{Part}
use Rattle.rc_read.specs.declared.table.Part.TheVariants.{Fixed, Kinds, KindWord}
use Rattle.rc_read.specs.declared.table.Row.{Row}
use Rattle.rc_read.specs.Spots.{are_kinds, count_or, fits, is_item, is_list}
use Rattle.rc_read.specs.Table.{text_of, parts_of}

-- The forms of which the first word, where it is fixed, begins with this byte.
abbrev pub starts_with : ℕ → List ℕ → Bool
starts_with b [] = true
starts_with b (c ∷ text) = b == c

abbrev pub may_begin : ℕ → List Part → Bool
may_begin b (Fixed fixed ∷ parts) = starts_with b (text_of fixed)
may_begin b _ = true

abbrev pub beginning : ℕ → List Row → List Row
beginning b [] = []
beginning b (row ∷ rows) = if may_begin b (parts_of row) then row ∷ beginning b rows else beginning b rows

abbrev pub first_byte : List (List ℕ) → ℕ
first_byte ((b ∷ w) ∷ ws) = b
first_byte _ = 0

-- A list is among these parts. Each other part takes one word.
abbrev pub has_list : List Part → Bool
has_list parts = list_any is_list parts

-- How many words a part takes, where they stand there.
abbrev pub items_in_front : List (List ℕ) → ℕ
items_in_front [] = 0
items_in_front (w ∷ ws) = if is_item w then items_in_front ws + 1 else 0

abbrev pub taken_one : Part → List (List ℕ) → Option ℕ
taken_one part [] = None
taken_one part (w ∷ ws) = if fits part w then Some 1 else None

abbrev pub taken_list : Part → List (List ℕ) → Option ℕ
taken_list Kinds ws = if are_kinds KindWord ws && nat_le (count_or ws) 3 then Some (length ws) else None
taken_list _ ws = Some (items_in_front ws)

abbrev pub taken_by : Part → List (List ℕ) → Option ℕ
taken_by part ws = if is_list part then taken_list part ws else taken_one part ws
