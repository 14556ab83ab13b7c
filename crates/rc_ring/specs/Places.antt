-- What the parts of a `Ring` stand for: its two ring lists, and the bytes at their places. No public clause names it.
use Rattle.std.specs.Prelude.{◌≡◌, ℕ, ◌+◌, ◌≤◌, Bool, true, List, [], length, slice_index_or, map, All}
use Rattle.rc_index.specs.RingList.{RingList, IsRingList}
use Rattle.rc_entry.specs.declared.Cqe.{Cqe}
use Rattle.rc_entry.specs.Spelling.{SpellsCqe, u64_at, i32_at}
use Rattle.rc_ring.specs.declared.rings.Stage.{Stage}
use Rattle.rc_ring.specs.declared.rings.Stage.TheVariants.{Closed, Vacant, Prepared}
use Rattle.rc_ring.specs.Rings.{Rings, OpenSlot, NoSlot, VacantSlot, PreparedSlot, slot_count}
use Rattle.rc_ring.specs.Spelled.{IsSpelling, IsSpelledSlot}

-- the bytes at these places, in their order
abbrev pub slots_at : List (List ℕ) → List ℕ → List (List ℕ)
slots_at slots places = map (λ place. slice_index_or slots place []) places

-- the completion in 16 bytes (`struct io_uring_cqe` of io_uring_enter(2))
abbrev pub cqe_of : List ℕ → Cqe
cqe_of bytes = record { user_data = u64_at 0 bytes; res = i32_at 8 bytes }

-- the open slot at a stage, with what lies at its place
abbrev pub slot_of : List ℕ → Stage → OpenSlot
slot_of bytes Closed = NoSlot
slot_of bytes Vacant = VacantSlot
slot_of bytes Prepared = PreparedSlot bytes

-- the rings over two ring lists, the bytes at the places of each, and the open slot's stage
abbrev pub rings_of : RingList → RingList → List (List ℕ) → List (List ℕ) → Bool → Stage → Rings
rings_of sq cq sqes cqes parked stage = record {
  entries = sq.entries;
  completion_entries = cq.entries;
  queued = slots_at sqes sq.places;
  completions = map cqe_of (slots_at cqes cq.places);
  place = sq.next;
  slot = slot_of (slice_index_or sqes sq.next []) stage;
  parked = parked;
  completion_head = slice_index_or cq.places 0 cq.next;
  completion_tail = cq.next;
}

-- bytes for each place, a place for the open slot, which alone is parked, entries alone in the queue and the slot, and
-- completions that can be read
pub record IsWellFormed (sq cq : RingList) (sqes cqes : List (List ℕ)) (parked : Bool) (stage : Stage) : Type 0 where
  pub submissions : IsRingList sq
  pub completions : IsRingList cq
  pub sqes_len : length sqes ≡ sq.entries
  pub cqes_len : length cqes ≡ cq.entries
  pub room : length sq.places + slot_count (slot_of [] stage) ≤ sq.entries
  pub open_where_parked : parked ≡ true → slot_count (slot_of [] stage) ≡ 1
  pub queue : All IsSpelling (slots_at sqes sq.places)
  pub prepared : IsSpelledSlot (slot_of (slice_index_or sqes sq.next []) stage)
  pub spelled : All (λ bytes. SpellsCqe (cqe_of bytes) bytes) (slots_at cqes cq.places)
