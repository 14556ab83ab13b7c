-- What the counters of a ring give, over plain numbers.
use Rattle.std.proofs.Common.{◌≡◌, ◌≢◌, ℕ, zero, suc, ◌+◌, ◌-◌, ◌%◌, ◌^◌, ◌<◌, ◌≤◌, List, [], ◌∷◌, ◌++◌, length, drop, get_or, bit_and, sym, refl, ap, subst, ◌∙◌, inl, inr, mod-eq_of_lt, arith}
use Rattle.std.specs.Int.{IsPowerOfTwo}
use Rattle.std.specs.Prelude.{slice_get, Some}
use native.Mathlib.Nat.{mod-eq-sub-mod, mod-add-mod, mod-lt}
use Rattle.std.proofs.Math.Pow.{mod-mod-pow}
use Rattle.std.proofs.lemmas.Nat.{pow_below, pow_pos, and_mask}
use Rattle.std.proofs.lemmas.Bool.{cases_lt}
use Rattle.std.proofs.lemmas.List.{get_or_past}
use Rattle.std.proofs.lemmas.Option.{slice_get-get_or}
use Rattle.rc_index.specs.RingList.{counter_after, counters_between, places_from, RingList, ring_list, IsRingList}
use Rattle.rc_index.specs.Counters.{AreCounters}

-- a power of two of at most 2048 is 2 to at most 11
exponent_le : (k : ℕ) → 2 ^ k ≤ 2048 → k ≤ 11
exponent_le k small = elim (cases_lt 11 k) [
  | inl above ↦ let too_many : 2 ^ 11 < 2 ^ k = pow_below 11 k above in absurd (omega arith)
  | inr below ↦ below
]

-- a place does not see that its counter wrapped
pub wraps : (n c : ℕ) → IsPowerOfTwo n → n ≤ 2048 → c % 2 ^ 32 % n ≡ c % n
wraps n c (k, is) small =
    let within : k ≤ 11 = exponent_le k (subst (λ (m : ℕ). m ≤ 2048) is small) in
    let whole : (32 - k) + k ≡ 32 = omega arith in
    let at_power : c % 2 ^ 32 % 2 ^ k ≡ c % 2 ^ k = subst (λ (w : ℕ). c % 2 ^ w % 2 ^ k ≡ c % 2 ^ k) whole (mod-mod-pow c (32 - k) k) in
    subst (λ (m : ℕ). c % 2 ^ 32 % m ≡ c % m) (sym is) at_power

pub positive : (n : ℕ) → IsPowerOfTwo n → 0 < n
positive n (k, is) = subst (λ (m : ℕ). 0 < m) (sym is) (pow_pos k)

-- the mask gives the place
pub masked : (n c : ℕ) → IsPowerOfTwo n → bit_and c (n - 1) ≡ c % n
masked n c (k, is) = subst (λ (m : ℕ). bit_and c (m - 1) ≡ c % m) (sym is) (and_mask c k)

-- one more item after the others
pub between-push : (head tail : ℕ) → head < 2 ^ 32 → tail < 2 ^ 32 → counters_between head tail < 2048 → counters_between head (counter_after tail) ≡ counters_between head tail + 1
between-push head tail head_fits tail_fits few = omega arith

-- one item less at the front
pub between-pop : (head tail : ℕ) → head < 2 ^ 32 → tail < 2 ^ 32 → 0 < counters_between head tail → counters_between (counter_after head) tail + 1 ≡ counters_between head tail
between-pop head tail head_fits tail_fits some = omega arith

-- the tail is as far after the head as there are items
pub tail_is : (head tail : ℕ) → head < 2 ^ 32 → tail < 2 ^ 32 → (head + counters_between head tail) % 2 ^ 32 ≡ tail
tail_is head tail head_fits tail_fits = omega arith

-- two counters less than n apart have different places
pub apart : (n c far : ℕ) → 0 < far → far < n → (c + far) % n ≢ c % n
apart n c far some near same =
    let place_below : c % n < n = mod-lt c (omega arith) in
    let moved : (c % n + far) % n ≡ (c + far) % n = mod-add-mod c n far in
    elim (cases_lt (c % n + far) n) [
      | inl low ↦ let stays : (c % n + far) % n ≡ c % n + far = mod-eq_of_lt low in absurd (omega arith)
      | inr high ↦
          let once : (c % n + far) % n ≡ (c % n + far - n) % n = mod-eq-sub-mod high in
          let least : (c % n + far - n) % n ≡ c % n + far - n = mod-eq_of_lt (omega arith) in
          absurd (omega arith)
    ]

pub length-places_from : (n c count : ℕ) → length (places_from n c count) ≡ count
length-places_from n c zero = refl
length-places_from n c (suc count) = ap suc (length-places_from n (counter_after c) count)

module _ (n : ℕ) (power : IsPowerOfTwo n) (small : n ≤ 2048) where
  after_is : (c i : ℕ) → (counter_after c + i) % n ≡ (c + suc i) % n
  after_is c i =
      let e1 : (counter_after c % n + i) % n ≡ (counter_after c + i) % n = mod-add-mod (counter_after c) n i in
      let e2 : counter_after c % n ≡ (c + 1) % n = wraps n (c + 1) power small in
      let e3 : ((c + 1) % n + i) % n ≡ (c + 1 + i) % n = mod-add-mod (c + 1) n i in
      let e4 : c + 1 + i ≡ c + suc i = omega arith in
      sym e1 ∙ ap (λ (x : ℕ). (x + i) % n) e2 ∙ e3 ∙ ap (λ (x : ℕ). x % n) e4

  -- the i-th place is that of the i-th counter from the front
  pub get_or-places_from : (c count i d : ℕ) → i < count → get_or (places_from n c count) i d ≡ (c + i) % n
  get_or-places_from c zero i d in_range = absurd (omega arith)
  get_or-places_from c (suc count) zero d in_range = ap (λ (x : ℕ). x % n) (omega arith)
  get_or-places_from c (suc count) (suc i) d in_range =
      get_or-places_from (counter_after c) count i d (omega arith) ∙ after_is c i

  pub places_from-push : (c count : ℕ) → places_from n c (suc count) ≡ places_from n c count ++ (c + count) % n ∷ []
  places_from-push c zero = ap (λ (x : ℕ). x % n ∷ []) (omega arith)
  places_from-push c (suc count) =
      ap (λ (xs : List ℕ). c % n ∷ xs) (places_from-push (counter_after c) count
      ∙ ap (λ (x : ℕ). places_from n (counter_after c) count ++ x ∷ []) (after_is c count))

-- the place of the tail, by the number of items
pub next_is : (n head tail : ℕ) → AreCounters n head tail → (head + counters_between head tail) % n ≡ tail % n
next_is n head tail r =
    sym (wraps n (head + counters_between head tail) r.power r.small)
    ∙ ap (λ (x : ℕ). x % n) (tail_is head tail r.head_fits r.tail_fits)

ring_list-push : (n head tail : ℕ) → AreCounters n head tail → counters_between head tail < n → ring_list n head (counter_after tail) ≡ record { entries = n; places = places_from n head (counters_between head tail) ++ tail % n ∷ []; next = (tail % n + 1) % n }
ring_list-push n head tail r has_room =
    let more : counters_between head (counter_after tail) ≡ suc (counters_between head tail) =
    omega (arith, between-push head tail r.head_fits r.tail_fits (omega (arith, r.small))) in
    let places_are : places_from n head (counters_between head (counter_after tail)) ≡ places_from n head (counters_between head tail) ++ tail % n ∷ [] =
    ap (λ (k : ℕ). places_from n head k) more
    ∙ places_from-push n r.power r.small head (counters_between head tail)
    ∙ ap (λ (x : ℕ). places_from n head (counters_between head tail) ++ x ∷ []) (next_is n head tail r) in
    let next_place : counter_after tail % n ≡ (tail % n + 1) % n = wraps n (tail + 1) r.power r.small ∙ sym (mod-add-mod tail n 1) in
    cc

ring_list-pop : (n head tail : ℕ) → AreCounters n head tail → 0 < counters_between head tail → ring_list n (counter_after head) tail ≡ record { entries = n; places = drop 1 (places_from n head (counters_between head tail)); next = tail % n }
ring_list-pop n head tail r some =
    let less : counters_between head tail ≡ suc (counters_between (counter_after head) tail) = omega (arith, between-pop head tail r.head_fits r.tail_fits some) in
    let unfolded : drop 1 (places_from n head (counters_between head tail)) ≡ places_from n (counter_after head) (counters_between (counter_after head) tail) =
    ap (λ (k : ℕ). drop 1 (places_from n head k)) less in
    cc

-- after each place comes the next one, and after the last the place of the tail
consecutive_places : (n head tail : ℕ) → AreCounters n head tail → (i : ℕ) → i < counters_between head tail
    → (get_or (places_from n head (counters_between head tail)) i 0 + 1) % n
    ≡ get_or (places_from n head (counters_between head tail)) (i + 1) (tail % n)
consecutive_places n head tail r i below =
    let count : ℕ = counters_between head tail in
    let here : get_or (places_from n head count) i 0 ≡ (head + i) % n = get_or-places_from n r.power r.small head count i 0 below in
    let moved : ((head + i) % n + 1) % n ≡ (head + i + 1) % n = mod-add-mod (head + i) n 1 in
    let up_to : (get_or (places_from n head count) i 0 + 1) % n ≡ (head + (i + 1)) % n =
    ap (λ (x : ℕ). (x + 1) % n) here ∙ moved ∙ ap (λ (x : ℕ). x % n) (omega arith) in
    elim (cases_lt (i + 1) count) [
      | inl more ↦ up_to ∙ sym (get_or-places_from n r.power r.small head count (i + 1) (tail % n) more)
      | inr last ↦
          let at_end : i + 1 ≡ count = omega arith in
          let none : get_or (places_from n head count) (i + 1) (tail % n) ≡ tail % n =
          get_or_past (places_from n head count) (i + 1) (tail % n) (omega (arith, length-places_from n head count)) in
          up_to ∙ ap (λ (k : ℕ). (head + k) % n) at_end ∙ next_is n head tail r ∙ sym none
    ]

-- every pair of counters with room has a ring list
pub is_ring_list : (n head tail : ℕ) → AreCounters n head tail → IsRingList (ring_list n head tail)
is_ring_list n head tail r =
    let count : ℕ = counters_between head tail in
    let count_le : count ≤ n = r.room in
    let length_is : length (places_from n head count) ≡ count = length-places_from n head count in
    let some : 0 < n = positive n r.power in
    let place_at : (i d : ℕ) → i < count → get_or (places_from n head count) i d ≡ (head + i) % n = get_or-places_from n r.power r.small head count in
    record {
      power = r.power;
      small = r.small;
      room = omega arith;
      within = λ k d in_range. subst (λ (x : ℕ). x < n) (sym (place_at k d (omega arith))) (mod-lt (head + k) some);
      next_within = mod-lt tail some;
      consecutive = λ i in_range. consecutive_places n head tail r i (omega arith);
      distinct = λ i j d before in_range same.
          let there : head + i + (j - i) ≡ head + j = omega arith in
          apart n (head + i) (j - i) (omega arith) (omega arith)
          (ap (λ (x : ℕ). x % n) there ∙ sym (place_at j d (omega arith)) ∙ sym same ∙ place_at i d (omega arith));
      fresh = λ has_room found.
          let below : found.0 < count = omega arith in
          let there : head + found.0 + (count - found.0) ≡ head + count = omega arith in
          apart n (head + found.0) (count - found.0) (omega arith) (omega arith)
          (ap (λ (x : ℕ). x % n) there ∙ next_is n head tail r ∙ sym found.2 ∙ place_at found.0 (tail % n) below);
    }

-- The same of a ring list v that the counters show.
module _ (n head tail : ℕ) (v : RingList) (r : AreCounters n head tail) (view_is : ring_list n head tail ≡ v) where
  count_is : counters_between head tail ≡ length v.places
  count_is = sym (length-places_from n head (counters_between head tail)) ∙ ap (λ (x : RingList). length x.places) view_is

  entries_is : n ≡ v.entries
  entries_is = ap (λ (x : RingList). x.entries) view_is

  pub law : IsRingList v
  law = subst (λ (x : RingList). IsRingList x) view_is (is_ring_list n head tail r)

  pub len_is : counters_between head tail ≡ length v.places
  len_is = count_is

  pub after_push : length v.places < v.entries → ring_list n head (counter_after tail) ≡ record { entries = v.entries; places = v.places ++ v.next ∷ []; next = (v.next + 1) % v.entries }
  after_push has_room =
      ring_list-push n head tail r (omega (arith, count_is, entries_is))
      ∙ ap (λ (x : RingList). record { entries = x.entries; places = x.places ++ x.next ∷ []; next = (x.next + 1) % x.entries }) view_is

  pub room_after_push : length v.places < v.entries → AreCounters n head (counter_after tail)
  room_after_push has_room = record {
    power = r.power;
    small = r.small;
    head_fits = r.head_fits;
    tail_fits = omega arith;
    room = omega (arith, between-push head tail r.head_fits r.tail_fits (omega (arith, count_is, entries_is, r.small)), count_is, entries_is);
  }

  pub after_pop : 0 < length v.places → ring_list n (counter_after head) tail ≡ record { entries = v.entries; places = drop 1 v.places; next = v.next }
  after_pop some =
      ring_list-pop n head tail r (omega (arith, count_is))
      ∙ ap (λ (x : RingList). record { entries = x.entries; places = drop 1 x.places; next = x.next }) view_is

  pub room_after_pop : 0 < length v.places → AreCounters n (counter_after head) tail
  room_after_pop some = record {
    power = r.power;
    small = r.small;
    head_fits = omega arith;
    tail_fits = r.tail_fits;
    room = omega (arith, between-pop head tail r.head_fits r.tail_fits (omega (arith, count_is)), r.room);
  }

  -- the mask of the i-th counter is the i-th place
  pub place_is : (i place : ℕ) → i < length v.places → place ≡ (head + i) % 2 ^ 32 % v.entries → Some place ≡ slice_get v.places i
  place_is i place in_range is =
      let count = counters_between head tail in
      let entry : get_or (places_from n head count) i 0 ≡ (head + i) % n = get_or-places_from n r.power r.small head count i 0 (omega (arith, count_is)) in
      let got : slice_get (places_from n head count) i ≡ Some (get_or (places_from n head count) i 0) = slice_get-get_or (places_from n head count) i 0 (omega (arith, length-places_from n head count, count_is)) in
      let whole : place ≡ (head + i) % n = is ∙ ap (λ (m : ℕ). (head + i) % 2 ^ 32 % m) (sym entries_is) ∙ wraps n (head + i) r.power r.small in
      ap (λ (x : ℕ). Some x) (whole ∙ sym entry) ∙ sym got ∙ ap (λ (x : RingList). slice_get x.places i) view_is

  pub masked_is : (c : ℕ) → bit_and c (n - 1) ≡ c % v.entries
  masked_is c = masked n c r.power ∙ ap (λ (m : ℕ). c % m) entries_is
