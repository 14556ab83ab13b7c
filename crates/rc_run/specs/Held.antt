-- How a ring, a table of serial numbers, and whether the open entry is one of another request than a nop, stand for a
-- ring of requests.
use Rattle.std.specs.Prelude.{ℕ, ◌≡◌, ◌≢◌, Bool, List, [], ◌∷◌, map, slice_get, Some}
use Rattle.rc_entry.specs.Spelling.{sqe_user_data}
use Rattle.rc_ring.specs.Rings.{Rings}
use Rattle.rc_run.specs.declared.request_ring.Serial.{Serial}
use Rattle.rc_run.specs.Requests.{RequestRing, completion_in, is_datasync, is_open, request_in, slot_in}

abbrev pub ring_of : Rings → List Serial → Bool → ℕ → RequestRing
ring_of ring serials other made = record {
  entries = ring.entries;
  completion_entries = ring.completion_entries;
  slot = slot_in other ring.slot;
  datasync = is_datasync ring.slot;
  queued = map (request_in serials) ring.queued;
  completions = map completion_in ring.completions;
  made = made;
}

-- An open entry is in the ring alone, and the table names the user data of the queued entries.
pub record IsHeld (ring : Rings) (serials : List Serial) : Type 0 where
  pub parks : ring.parked ≡ is_open ring.slot
  pub named : map (λ (s : Serial). s.user_data) serials ≡ map sqe_user_data ring.queued

-- none comes twice
abbrev pub AreDistinct : List ℕ → Type 0
AreDistinct [] = Unit {0}
AreDistinct (x ∷ xs) = ((k : ℕ) → slice_get xs k ≢ Some x) × AreDistinct xs
