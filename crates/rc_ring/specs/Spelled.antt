-- That bytes spell entries (io_uring_enter(2)), in a slot and in the rings.
use Rattle.std.specs.Prelude.{ℕ, List, All}
use Rattle.rc_entry.specs.declared.Entry.{Entry}
use Rattle.rc_entry.specs.Spelling.{SpellsEntry}
use Rattle.rc_ring.specs.Rings.{Rings, bytes_with_data, entry_with_data, OpenSlot, NoSlot, VacantSlot, PreparedSlot}

-- the bytes spell some entry
abbrev pub IsSpelling : List ℕ → Type 0
IsSpelling bytes = (entry : Entry) × SpellsEntry entry bytes

-- where the bytes spell an entry, they spell it with this user_data once that is written into them
abbrev pub SpellsWithData : ℕ → List ℕ → Type 0
SpellsWithData user_data bytes =
    (entry : Entry) → SpellsEntry entry bytes → SpellsEntry (entry_with_data user_data entry) (bytes_with_data user_data bytes)

-- the bytes in a prepared slot spell some entry
abbrev pub IsSpelledSlot : OpenSlot → Type 0
IsSpelledSlot NoSlot = Unit {0}
IsSpelledSlot VacantSlot = Unit {0}
IsSpelledSlot (PreparedSlot bytes) = IsSpelling bytes

-- the law of the rings: each queued entry, and the prepared one, spells some entry
pub record HoldEntries (rings : Rings) : Type 0 where
  pub queue : All IsSpelling rings.queued
  pub prepared : IsSpelledSlot rings.slot
