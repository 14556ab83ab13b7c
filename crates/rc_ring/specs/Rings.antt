-- What clauses see of the two rings of an io_uring (io_uring(7)): two lists, and the open slot; and what each call does.
use Rattle.std.specs.Prelude.{◌≡◌, ℕ, ◌+◌, ◌%◌, Bool, true, false, List, [], ◌∷◌, ◌++◌, length, take, drop, Option, Some, None}
use Rattle.std.specs.Int.{w64, to_le_bytes}
use Rattle.rc_entry.specs.declared.Entry.{Entry}
use Rattle.rc_entry.specs.declared.Entry.TheVariants.{Nop, Fsync, Read, Write}
use Rattle.rc_entry.specs.declared.Cqe.{Cqe}
use Rattle.rc_entry.specs.Spelling.{SpellsEntry}

-- the open slot: none, one without an entry, or one with the 64 bytes that a prep left
pub data OpenSlot : Type 0 where
  NoSlot : OpenSlot
  VacantSlot : OpenSlot
  PreparedSlot : (bytes : List ℕ) → OpenSlot

-- the two rings
pub record Rings : Type 0 where
  -- how many places the submission ring and the completion ring have
  pub entries : ℕ
  pub completion_entries : ℕ
  -- the 64 bytes of each queued entry, and the completions, from the front
  pub queued : List (List ℕ)
  pub completions : List Cqe
  -- the open slot's place; with none open, the place that the next slot gets
  pub place : ℕ
  pub slot : OpenSlot
  -- whether the open slot is in the ring alone
  pub parked : Bool
  -- the places at the completion ring's head and tail: that of the first completion, and the one that the next gets
  pub completion_head : ℕ
  pub completion_tail : ℕ

-- two rings with nothing in them, and the place that comes first in each
abbrev pub empty_rings : ℕ → ℕ → ℕ → ℕ → Rings
empty_rings entries completion_entries place completion_place = record {
  entries = entries;
  completion_entries = completion_entries;
  queued = [];
  completions = [];
  place = place;
  slot = NoSlot;
  parked = false;
  completion_head = completion_place;
  completion_tail = completion_place;
}

-- how many places of the submission ring the open slot takes
abbrev pub slot_count : OpenSlot → ℕ
slot_count NoSlot = 0
slot_count VacantSlot = 1
slot_count (PreparedSlot bytes) = 1

-- how many places of the submission ring are taken: an open slot counts as an entry
abbrev pub used : Rings → ℕ
used rings = length rings.queued + slot_count rings.slot

-- whether the open slot has an entry
abbrev pub is_prepared_slot : OpenSlot → Bool
is_prepared_slot NoSlot = false
is_prepared_slot VacantSlot = false
is_prepared_slot (PreparedSlot bytes) = true

-- the bytes that a prep left in the open slot
abbrev pub slot_bytes : OpenSlot → List ℕ
slot_bytes NoSlot = []
slot_bytes VacantSlot = []
slot_bytes (PreparedSlot bytes) = bytes

-- the place, if a slot is open
abbrev pub place_if_open : ℕ → OpenSlot → Option ℕ
place_if_open place NoSlot = None
place_if_open place VacantSlot = Some place
place_if_open place (PreparedSlot bytes) = Some place

-- the open slot's place, if there is one
abbrev pub open_place : Rings → Option ℕ
open_place rings = place_if_open rings.place rings.slot

-- the bytes of an entry with another user_data, which lies at 32 to 39 with its lowest byte first
-- (io_uring_sqe_set_data64(3))
abbrev pub bytes_with_data : ℕ → List ℕ → List ℕ
bytes_with_data user_data bytes = take 32 bytes ++ to_le_bytes w64 user_data ++ drop 40 bytes

-- the entry with another user_data
abbrev pub entry_with_data : ℕ → Entry → Entry
entry_with_data given (Nop user_data) = Nop given
entry_with_data given (Fsync fd datasync user_data) = Fsync fd datasync given
entry_with_data given (Read fd addr len off user_data) = Read fd addr len off given
entry_with_data given (Write fd addr len off user_data) = Write fd addr len off given

-- the open slot's entry, with the user_data, goes last into the queue, and the slot is closed
abbrev pub after_queueing : Rings → ℕ → Rings
after_queueing rings user_data = record rings {
  queued = rings.queued ++ bytes_with_data user_data (slot_bytes rings.slot) ∷ [];
  place = (rings.place + 1) % rings.entries;
  slot = NoSlot;
}

-- the calls that change the rings, with what they are given, and a prep with the bytes that it leaves
pub data RingCall : Type 0 where
  GetSqeCall : RingCall
  PrepCall : (bytes : List ℕ) → RingCall
  SetData64Call : (user_data : ℕ) → RingCall
  AbandonCall : RingCall
  ParkCall : RingCall
  ResumeCall : RingCall
  SubmitCall : (count : ℕ) → RingCall
  PostCall : (cqe : Cqe) → RingCall
  CqeSeenCall : RingCall

-- the rings after the call; a `get_sqe` that answers none and a `post` that overflows change nothing instead
abbrev pub after_call : RingCall → Rings → Rings
after_call GetSqeCall rings = record rings { slot = VacantSlot }
after_call (PrepCall bytes) rings = record rings { slot = PreparedSlot bytes }
after_call (SetData64Call user_data) rings = after_queueing rings user_data
after_call AbandonCall rings = record rings { slot = NoSlot }
after_call ParkCall rings = record rings { parked = true }
after_call ResumeCall rings = record rings { parked = false }
after_call (SubmitCall count) rings = record rings { queued = drop count rings.queued }
after_call (PostCall cqe) rings = record rings {
  completions = rings.completions ++ cqe ∷ [];
  completion_tail = (rings.completion_tail + 1) % rings.completion_entries;
}
after_call CqeSeenCall rings = record rings {
  completions = drop 1 rings.completions;
  completion_head = (rings.completion_head + 1) % rings.completion_entries;
}

-- a prep of the entry, whose user_data is 0, into the open slot: its bytes spell the entry, and nothing else changes
pub record Prepares (old new : Rings) (entry : Entry) : Type 0 where
  pub bytes : List ℕ
  pub spells : SpellsEntry entry bytes
  pub after : new ≡ after_call (PrepCall bytes) old
