-- What an entry's bytes spell once its user_data is set.
use Rattle.std.proofs.Common.{◌≡◌, ℕ, ◌+◌, ◌-◌, ◌^◌, ◌<◌, ◌≤◌, ℤ, List, ◌++◌, length, take, drop, get_or, slice_range, sym, refl, ap, subst, ◌∙◌, arith, length-take-le, length-append, length-drop, get_or-take}
use Rattle.std.specs.Int.{w32, w64, to_le_bytes, from_le_bytes, cast_signed}
use Rattle.std.specs.Prelude.{All}
use Rattle.std.proofs.lemmas.List.{take_at, drop_at, take-take, drop-drop, append_assoc}
use Rattle.std.proofs.lemmas.Slice.{between_is}
use Rattle.std.proofs.lemmas.Nat.{from_le_bytes-to_le_bytes_8}
use Rattle.rc_entry.proofs.Bytes.{AreBytes, AreBytes-append, AreBytes-take, AreBytes-drop, AreBytes-low_first}
use Rattle.rc_entry.specs.declared.Entry.{Entry}
use Rattle.rc_entry.specs.declared.Entry.TheVariants.{Nop, Fsync, Read, Write}
use Rattle.rc_entry.specs.Spelling.{u32_at, u64_at, i32_at, HasFields, SpellsEntry}
use Rattle.rc_ring.specs.Rings.{bytes_with_data, entry_with_data}

module _ (given : ℕ) (bytes : List ℕ) (size : length bytes ≡ 64) where
  length-front : length (take 32 bytes) ≡ 32
  length-front = length-take-le 32 bytes (omega arith)

  regroup : bytes_with_data given bytes ≡ take 32 bytes ++ (to_le_bytes w64 given ++ drop 40 bytes)
  regroup = append_assoc (take 32 bytes) (to_le_bytes w64 given) (drop 40 bytes)

  front_stays : take 32 (bytes_with_data given bytes) ≡ take 32 bytes
  front_stays = ap (λ (xs : List ℕ). take 32 xs) regroup ∙ take_at (take 32 bytes) (to_le_bytes w64 given ++ drop 40 bytes) 32 length-front

  length-head : length (take 32 bytes ++ to_le_bytes w64 given) ≡ 40
  length-head = length-append (take 32 bytes) (to_le_bytes w64 given) ∙ ap (λ (n : ℕ). n + 8) length-front

  back_stays : drop 40 (bytes_with_data given bytes) ≡ drop 40 bytes
  back_stays = drop_at (take 32 bytes ++ to_le_bytes w64 given) (drop 40 bytes) 40 length-head

  -- what lies before the field, and after it
  before : (i j : ℕ) → j ≤ 32 → slice_range (bytes_with_data given bytes) i j ≡ slice_range bytes i j
  before i j below =
      between_is (bytes_with_data given bytes) i j
      ∙ ap (λ (xs : List ℕ). drop i xs) (sym (take-take j 32 (bytes_with_data given bytes) below) ∙ ap (λ (xs : List ℕ). take j xs) front_stays ∙ take-take j 32 bytes below)
      ∙ sym (between_is bytes i j)

  behind : (j : ℕ) → slice_range (bytes_with_data given bytes) 40 j ≡ slice_range bytes 40 j
  behind j = ap (λ (xs : List ℕ). take (j - 40) xs) back_stays

  field : slice_range (bytes_with_data given bytes) 32 40 ≡ to_le_bytes w64 given
  field =
      ap (λ (xs : List ℕ). take 8 xs) (ap (λ (xs : List ℕ). drop 32 xs) regroup ∙ drop_at (take 32 bytes) (to_le_bytes w64 given ++ drop 40 bytes) 32 length-front)
      ∙ take_at (to_le_bytes w64 given) (drop 40 bytes) 8 refl

  first : get_or (bytes_with_data given bytes) 0 0 ≡ get_or bytes 0 0
  first =
      sym (get_or-take 32 (bytes_with_data given bytes) 0 0 (omega arith))
      ∙ ap (λ (xs : List ℕ). get_or xs 0 0) front_stays
      ∙ get_or-take 32 bytes 0 0 (omega arith)

  length-after : length (bytes_with_data given bytes) ≡ 64
  length-after =
      length-append (take 32 bytes ++ to_le_bytes w64 given) (drop 40 bytes)
      ∙ omega (arith, length-head, length-drop 40 bytes, size)

  are_bytes : AreBytes bytes → AreBytes (bytes_with_data given bytes)
  are_bytes small =
      AreBytes-append (take 32 bytes ++ to_le_bytes w64 given) (drop 40 bytes)
      (AreBytes-append (take 32 bytes) (to_le_bytes w64 given) (AreBytes-take 32 bytes small) (AreBytes-low_first 0 8 given))
      (AreBytes-drop 40 bytes small)

-- the other fields stay, and user_data is what was given
pub HasFields-with_data : (opcode : ℕ) (fd : ℤ) (off addr len flags user_data given : ℕ) (bytes : List ℕ) → given < 2 ^ 64
    → HasFields opcode fd off addr len flags user_data bytes
    → HasFields opcode fd off addr len flags given (bytes_with_data given bytes)
unfolding u32_at u64_at i32_at
HasFields-with_data opcode fd off addr len flags user_data given bytes fits h = record {
  size = length-after given bytes h.size;
  small = are_bytes given bytes h.size h.small;
  opcode_is = first given bytes h.size ∙ h.opcode_is;
  fd_is = ap (λ (xs : List ℕ). cast_signed w32 (from_le_bytes w32 xs)) (before given bytes h.size 4 8 (omega arith)) ∙ h.fd_is;
  off_is = ap (λ (xs : List ℕ). from_le_bytes w64 xs) (before given bytes h.size 8 16 (omega arith)) ∙ h.off_is;
  addr_is = ap (λ (xs : List ℕ). from_le_bytes w64 xs) (before given bytes h.size 16 24 (omega arith)) ∙ h.addr_is;
  len_is = ap (λ (xs : List ℕ). from_le_bytes w32 xs) (before given bytes h.size 24 28 (omega arith)) ∙ h.len_is;
  flags_is = ap (λ (xs : List ℕ). from_le_bytes w32 xs) (before given bytes h.size 28 32 (omega arith)) ∙ h.flags_is;
  user_data_is = ap (λ (xs : List ℕ). from_le_bytes w64 xs) (field given bytes h.size) ∙ from_le_bytes-to_le_bytes_8 given fits;
  others = record {
    front = subst (λ (xs : List ℕ). All (λ byte. byte ≡ 0) xs) (sym (before given bytes h.size 1 4 (omega arith))) h.others.front;
    back = subst (λ (xs : List ℕ). All (λ byte. byte ≡ 0) xs) (sym (behind given bytes h.size 64)) h.others.back;
  };
}

-- `set_data64` on the bytes of an entry gives those of the entry with that user_data
pub SpellsEntry-with_data : (given : ℕ) (entry : Entry) (bytes : List ℕ) → given < 2 ^ 64 → SpellsEntry entry bytes
    → SpellsEntry (entry_with_data given entry) (bytes_with_data given bytes)
SpellsEntry-with_data given (Nop user_data) bytes fits h = HasFields-with_data _ _ _ _ _ _ user_data given bytes fits h
SpellsEntry-with_data given (Fsync fd datasync user_data) bytes fits h = HasFields-with_data _ _ _ _ _ _ user_data given bytes fits h
SpellsEntry-with_data given (Read fd addr len off user_data) bytes fits h = HasFields-with_data _ _ _ _ _ _ user_data given bytes fits h
SpellsEntry-with_data given (Write fd addr len off user_data) bytes fits h = HasFields-with_data _ _ _ _ _ _ user_data given bytes fits h

-- the eight bytes written over the field, as the write leaves the entry
pub bytes_with_data-written : (given : ℕ) (item part : List ℕ) → part ≡ to_le_bytes w64 given
    → take 32 item ++ (part ++ drop 8 (drop 32 item)) ≡ bytes_with_data given item
bytes_with_data-written given item part is =
    ap (λ (xs : List ℕ). take 32 item ++ (xs ++ drop 8 (drop 32 item))) is
    ∙ ap (λ (xs : List ℕ). take 32 item ++ (to_le_bytes w64 given ++ xs)) (drop-drop 8 32 item)
    ∙ sym (append_assoc (take 32 item) (to_le_bytes w64 given) (drop 40 item))
