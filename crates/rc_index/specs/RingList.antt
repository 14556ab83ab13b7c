-- What two free-running counters over a ring of a power of two of entries stand for (io_uring(7)).
use Rattle.std.specs.Prelude.{◌≡◌, ◌≢◌, ℕ, zero, suc, ◌+◌, ◌-◌, ◌%◌, ◌^◌, ◌<◌, ◌≤◌, List, [], ◌∷◌, length, slice_index, slice_index_or, All, AllPairs, Contains}
use Rattle.std.specs.Int.{IsPowerOfTwo}

-- the place of counter c in a ring of n entries
abbrev pub place_of_counter : ℕ → ℕ → ℕ
place_of_counter n c = c % n

-- the counter after c: counters are taken modulo 2^32
abbrev pub counter_after : ℕ → ℕ
counter_after c = (c + 1) % 2 ^ 32

-- how many counters there are from head to tail, tail left out
abbrev pub counters_between : ℕ → ℕ → ℕ
counters_between head tail = (tail + (2 ^ 32 - head)) % 2 ^ 32

-- the places of the first `count` counters from c on
abbrev pub places_from : ℕ → ℕ → ℕ → List ℕ
places_from n c zero = []
places_from n c (suc count) = place_of_counter n c ∷ places_from n (counter_after c) count

-- what clauses see of the counters: the list of the places, and the place that follows it
pub record RingList : Type 0 where
  -- how many places the ring has
  pub entries : ℕ
  -- the places of its items, from the front
  pub places : List ℕ
  -- the place that the next item gets
  pub next : ℕ

-- the ring list of n entries with no item, and the place that the first one gets
abbrev pub empty_list : ℕ → ℕ → RingList
empty_list n next = record { entries = n; places = []; next = next }

-- the ring list of n entries at two counters: the places of head, head+1, .., tail-1
abbrev pub ring_list : ℕ → ℕ → ℕ → RingList
ring_list n head tail = record {
  entries = n;
  places = places_from n head (counters_between head tail);
  next = place_of_counter n tail;
}

-- What is true of every ring list: a power of two of entries, at most 2048; at most as many items as entries, at
-- places of the ring and no two at one place; after each place comes the next one of the ring, and after the last
-- item's the place that the next item gets; while there is room, no item is there.
pub record IsRingList (r : RingList) : Type 0 where
  pub power : IsPowerOfTwo r.entries
  pub small : r.entries ≤ 2048
  pub room : length r.places ≤ r.entries
  pub within : All (λ p. p < r.entries) r.places
  pub next_within : r.next < r.entries
  pub consecutive : (i : ℕ) → i < length r.places
      → (slice_index r.places i + 1) % r.entries ≡ slice_index_or r.places (i + 1) r.next
  pub distinct : AllPairs (λ p q. p ≢ q) r.places
  pub fresh : length r.places < r.entries → ¬ Contains r.places r.next
