-- The lists of a `Ring`, as its bytes and ring lists change.
use Rattle.std.proofs.Common.{◌≡◌, ◌≢◌, ℕ, suc, ◌+◌, ◌*◌, ◌%◌, ◌<◌, ℤ, Bool, true, List, [], ◌∷◌, ◌++◌, length, drop, get_or, set, map, Some, Option, option_map, sym, refl, ap, subst, ◌∙◌, arith, get_or-set_same, get_or-set_other, length-set, length-drop, ◌^◌, ◌≤◌, false, ap₂}
use Rattle.std.specs.Prelude.{slice_get, All, Contains}
use Rattle.std.specs.Int.{IsPowerOfTwo}
use Rattle.std.proofs.lemmas.List.{length-map, map_push, drop-map, get_or_default, get_or-drop}
use Rattle.std.proofs.lemmas.Option.{slice_get-map, get_or_from_slice_get, slice_get_within}
use Rattle.std.proofs.Math.Nat.{pow-succ'}
use Rattle.std.proofs.lemmas.List.Elements.{All-push, All-drop}
use Rattle.rc_index.specs.RingList.{RingList, IsRingList}
use Rattle.rc_entry.specs.declared.Entry.{Entry}
use Rattle.rc_entry.specs.declared.Cqe.{Cqe}
use Rattle.rc_entry.specs.Spelling.{SpellsEntry, SpellsCqe}
use Rattle.rc_ring.specs.declared.rings.Stage.{Stage}
use Rattle.rc_ring.specs.declared.rings.Stage.TheVariants.{Closed, Vacant, Prepared}
use Rattle.rc_ring.specs.Rings.{Rings, OpenSlot, NoSlot, VacantSlot, PreparedSlot, slot_count, place_if_open, open_place, is_prepared_slot, slot_bytes, Prepares, SetData64Call, PostCall, CqeSeenCall, after_call, bytes_with_data, entry_with_data}
use Rattle.rc_ring.specs.Spelled.{IsSpelling, IsSpelledSlot, HoldEntries}
use Rattle.rc_ring.specs.Places.{slots_at, cqe_of, slot_of, rings_of, IsWellFormed}
use Rattle.rc_ring.proofs.Fields.{SpellsEntry-with_data}

-- twice a power of two is one
pub IsPowerOfTwo-twice : (n : ℕ) → IsPowerOfTwo n → IsPowerOfTwo (2 * n)
IsPowerOfTwo-twice n (k, is) = (suc k, ap (λ (m : ℕ). 2 * m) is ∙ sym (pow-succ' 2 k))

-- a write to another place leaves the items
slots_at-set_other : (slots : List (List ℕ)) (q : ℕ) (bytes : List ℕ) (places : List ℕ) → ¬ Contains places q → slots_at (set slots q bytes) places ≡ slots_at slots places
slots_at-set_other slots q bytes [] fresh = refl
slots_at-set_other slots q bytes (p ∷ places) fresh =
    let apart : p ≢ q = λ same. fresh (0, omega arith, same) in
    let head : get_or (set slots q bytes) p [] ≡ get_or slots p [] = get_or-set_other slots q p bytes [] apart in
    let rest : slots_at (set slots q bytes) places ≡ slots_at slots places =
    slots_at-set_other slots q bytes places (λ found. fresh (suc found.0, omega (arith, found.1), found.2)) in
    cc

-- a write to the place after them, and that place
slots_at-push : (slots : List (List ℕ)) (q : ℕ) (bytes : List ℕ) (places : List ℕ) → q < length slots → ¬ Contains places q → slots_at (set slots q bytes) (places ++ q ∷ []) ≡ slots_at slots places ++ bytes ∷ []
slots_at-push slots q bytes places within fresh =
    map_push (λ (p : ℕ). get_or (set slots q bytes) p []) places q
    ∙ ap (λ (x : List ℕ). slots_at (set slots q bytes) places ++ x ∷ []) (get_or-set_same slots q bytes [] within)
    ∙ ap (λ (xs : List (List ℕ)). xs ++ bytes ∷ []) (slots_at-set_other slots q bytes places fresh)

slots_at-drop : (slots : List (List ℕ)) (n : ℕ) (places : List ℕ) → slots_at slots (drop n places) ≡ drop n (slots_at slots places)
slots_at-drop slots n places = sym (drop-map (λ (p : ℕ). get_or slots p []) n places)

-- whether a slot is open doesn't hang on the bytes
slot_count-slot_of : (b c : List ℕ) (stage : Stage) → slot_count (slot_of b stage) ≡ slot_count (slot_of c stage)
slot_count-slot_of b c Closed = refl
slot_count-slot_of b c Vacant = refl
slot_count-slot_of b c Prepared = refl

-- a slot with a place is open
slot_count-open : (place there : ℕ) (slot : OpenSlot) → place_if_open place slot ≡ Some there → (slot_count slot ≡ 1) × (there ≡ place)
slot_count-open place there NoSlot h = cc
slot_count-open place there VacantSlot h = (refl, cc)
slot_count-open place there (PreparedSlot bytes) h = (refl, cc)

slot_bytes-slot_of : (bytes : List ℕ) (stage : Stage) → is_prepared_slot (slot_of bytes stage) ≡ true → slot_bytes (slot_of bytes stage) ≡ bytes
slot_bytes-slot_of bytes Closed h = cc
slot_bytes-slot_of bytes Vacant h = cc
slot_bytes-slot_of bytes Prepared h = refl

-- the bytes in a prepared slot spell an entry where the slot does
IsSpelledSlot-bytes : (bytes : List ℕ) (stage : Stage) → is_prepared_slot (slot_of bytes stage) ≡ true → IsSpelledSlot (slot_of bytes stage) → IsSpelling bytes
IsSpelledSlot-bytes bytes Closed h spelled = cc
IsSpelledSlot-bytes bytes Vacant h spelled = cc
IsSpelledSlot-bytes bytes Prepared h spelled = spelled

-- the place of the first completion, with none the one that the next gets
abbrev head_of : RingList → ℕ
head_of cq = get_or cq.places 0 cq.next

-- a completion after the others leaves it
head-push : (places : List ℕ) (next after : ℕ) → get_or (places ++ next ∷ []) 0 after ≡ get_or places 0 next
head-push [] next after = refl
head-push (p ∷ places) next after = refl

-- without the first completion it is the next one of the ring
head-drop : (cq : RingList) → IsRingList cq → 0 < length cq.places → get_or (drop 1 cq.places) 0 cq.next ≡ (head_of cq + 1) % cq.entries
head-drop cq law some =
    get_or-drop 1 cq.places 0 cq.next
    ∙ sym (law.consecutive 0 some)
    ∙ ap (λ (p : ℕ). (p + 1) % cq.entries) (get_or_default cq.places 0 0 cq.next some)

abbrev made : ℕ → ℤ → Cqe
made user_data res = record { user_data = user_data; res = res }

-- 16 bytes that spell a completion spell the one that is read in them
cqe_of-spelled : (cqe : Cqe) (bytes : List ℕ) → SpellsCqe cqe bytes → cqe_of bytes ≡ cqe
cqe_of-spelled cqe bytes h = ap₂ (λ (user_data : ℕ) (res : ℤ). made user_data res) h.user_data_is h.res_is

module _ (sq cq : RingList) (sqes cqes : List (List ℕ)) (parked : Bool) (stage : Stage) (old : Rings)
    (sound : IsWellFormed sq cq sqes cqes parked stage) (view_is : rings_of sq cq sqes cqes parked stage ≡ old) where
  place_is : sq.next ≡ old.place
  place_is = ap (λ (r : Rings). r.place) view_is

  slot_is : slot_of (get_or sqes sq.next []) stage ≡ old.slot
  slot_is = ap (λ (r : Rings). r.slot) view_is

  -- while a slot is open, no queued entry is at its place
  has_room : slot_count old.slot ≡ 1 → length sq.places < sq.entries
  has_room is_open =
      let one : slot_count (slot_of [] stage) ≡ 1 = slot_count-slot_of [] (get_or sqes sq.next []) stage ∙ ap (λ (s : OpenSlot). slot_count s) slot_is ∙ is_open in
      omega (arith, one, sound.room)

  -- an entry written into the open slot
  pub after_prepare : (place : ℕ) (entry : Entry) (bytes : List ℕ) → open_place old ≡ Some place → SpellsEntry entry bytes
      → Prepares old (rings_of sq cq (set sqes place bytes) cqes parked Prepared) entry
  after_prepare place entry bytes here spells =
      let there : (slot_count old.slot ≡ 1) × (place ≡ old.place) = slot_count-open old.place place old.slot here in
      let at_next : place ≡ sq.next = there.1 ∙ sym place_is in
      let within : sq.next < length sqes = omega (arith, sound.sqes_len, sound.submissions.next_within) in
      let free : length sq.places < sq.entries = has_room there.0 in
      let items : slots_at (set sqes sq.next bytes) sq.places ≡ slots_at sqes sq.places = slots_at-set_other sqes sq.next bytes sq.places (sound.submissions.fresh free) in
      let written : get_or (set sqes sq.next bytes) sq.next [] ≡ bytes = get_or-set_same sqes sq.next bytes [] within in
      let same : rings_of sq cq (set sqes sq.next bytes) cqes parked Prepared ≡ record (rings_of sq cq sqes cqes parked stage) { slot = PreparedSlot bytes } = cc in
      record {
        bytes = bytes;
        spells = spells;
        after =
            ap (λ (p : ℕ). rings_of sq cq (set sqes p bytes) cqes parked Prepared) at_next
            ∙ same
            ∙ ap (λ (r : Rings). record r { slot = PreparedSlot bytes }) view_is;
      }

  pub sound_after_prepare : (place : ℕ) (entry : Entry) (bytes : List ℕ) → open_place old ≡ Some place → SpellsEntry entry bytes
      → IsWellFormed sq cq (set sqes place bytes) cqes parked Prepared
  sound_after_prepare place entry bytes here spells =
      let there : (slot_count old.slot ≡ 1) × (place ≡ old.place) = slot_count-open old.place place old.slot here in
      let at_next : sq.next ≡ place = place_is ∙ sym there.1 in
      let within : sq.next < length sqes = omega (arith, sound.sqes_len, sound.submissions.next_within) in
      let free : length sq.places < sq.entries = has_room there.0 in
      let items : slots_at (set sqes sq.next bytes) sq.places ≡ slots_at sqes sq.places = slots_at-set_other sqes sq.next bytes sq.places (sound.submissions.fresh free) in
      let written : get_or (set sqes sq.next bytes) sq.next [] ≡ bytes = get_or-set_same sqes sq.next bytes [] within in
      let whole : IsWellFormed sq cq (set sqes sq.next bytes) cqes parked Prepared = record {
        submissions = sound.submissions;
        completions = sound.completions;
        sqes_len = length-set sqes sq.next bytes ∙ sound.sqes_len;
        cqes_len = sound.cqes_len;
        room = omega arith;
        open_where_parked = λ is. refl;
        queue = subst (λ (xs : List (List ℕ)). All IsSpelling xs) (sym items) sound.queue;
        prepared = subst (λ (xs : List ℕ). IsSpelling xs) (sym written) (entry, spells);
        spelled = sound.spelled;
      } in
      subst (λ (p : ℕ). IsWellFormed sq cq (set sqes p bytes) cqes parked Prepared) at_next whole

  -- the open slot's entry with its user_data, queued
  pub after_queue : (sq' : RingList) (place given : ℕ) (item bytes : List ℕ) → open_place old ≡ Some place → is_prepared_slot old.slot ≡ true
      → sq' ≡ record sq { places = sq.places ++ sq.next ∷ []; next = (sq.next + 1) % sq.entries }
      → item ≡ get_or sqes place item → bytes ≡ bytes_with_data given item
      → rings_of sq' cq (set sqes place bytes) cqes parked Closed ≡ after_call (SetData64Call given) old
  after_queue sq' place given item bytes here prepared moved was with =
      let there : (slot_count old.slot ≡ 1) × (place ≡ old.place) = slot_count-open old.place place old.slot here in
      let at_next : place ≡ sq.next = there.1 ∙ sym place_is in
      let within : sq.next < length sqes = omega (arith, sound.sqes_len, sound.submissions.next_within) in
      let free : length sq.places < sq.entries = has_room there.0 in
      let item_is : item ≡ get_or sqes sq.next [] = was ∙ ap (λ (p : ℕ). get_or sqes p item) at_next ∙ get_or_default sqes sq.next item [] within in
      let in_slot : slot_bytes old.slot ≡ get_or sqes sq.next [] =
      ap (λ (s : OpenSlot). slot_bytes s) (sym slot_is)
      ∙ slot_bytes-slot_of (get_or sqes sq.next []) stage (ap (λ (s : OpenSlot). is_prepared_slot s) slot_is ∙ prepared) in
      let written : bytes ≡ bytes_with_data given (slot_bytes old.slot) = with ∙ ap (λ (xs : List ℕ). bytes_with_data given xs) (item_is ∙ sym in_slot) in
      let items : slots_at (set sqes sq.next bytes) (sq.places ++ sq.next ∷ []) ≡ slots_at sqes sq.places ++ bytes ∷ [] =
      slots_at-push sqes sq.next bytes sq.places within (sound.submissions.fresh free) in
      let moved_on : rings_of (record sq { places = sq.places ++ sq.next ∷ []; next = (sq.next + 1) % sq.entries }) cq (set sqes sq.next bytes) cqes parked Closed
      ≡ record (rings_of sq cq sqes cqes parked stage) {
        queued = slots_at sqes sq.places ++ bytes ∷ [];
        place = (sq.next + 1) % sq.entries;
        slot = NoSlot;
      } = cc in
      ap (λ (q : RingList). rings_of q cq (set sqes place bytes) cqes parked Closed) moved
      ∙ ap (λ (p : ℕ). rings_of (record sq { places = sq.places ++ sq.next ∷ []; next = (sq.next + 1) % sq.entries }) cq (set sqes p bytes) cqes parked Closed) at_next
      ∙ moved_on
      ∙ ap (λ (x : List ℕ). record (rings_of sq cq sqes cqes parked stage) {
        queued = slots_at sqes sq.places ++ x ∷ [];
        place = (sq.next + 1) % sq.entries;
        slot = NoSlot;
      }) written
      ∙ ap (λ (r : Rings). record r {
        queued = r.queued ++ bytes_with_data given (slot_bytes old.slot) ∷ [];
        place = (r.place + 1) % r.entries;
        slot = NoSlot;
      }) view_is

  pub sound_after_queue : (sq' : RingList) (place given : ℕ) (item bytes : List ℕ) → open_place old ≡ Some place → is_prepared_slot old.slot ≡ true
      → given < 2 ^ 64 → sq' ≡ record sq { places = sq.places ++ sq.next ∷ []; next = (sq.next + 1) % sq.entries } → IsRingList sq'
      → parked ≡ false → item ≡ get_or sqes place item → bytes ≡ bytes_with_data given item
      → IsWellFormed sq' cq (set sqes place bytes) cqes parked Closed
  sound_after_queue sq' place given item bytes here prepared fits moved law out was with =
      let there : (slot_count old.slot ≡ 1) × (place ≡ old.place) = slot_count-open old.place place old.slot here in
      let at_next : place ≡ sq.next = there.1 ∙ sym place_is in
      let within : sq.next < length sqes = omega (arith, sound.sqes_len, sound.submissions.next_within) in
      let free : length sq.places < sq.entries = has_room there.0 in
      let item_is : get_or sqes sq.next [] ≡ item = sym (was ∙ ap (λ (p : ℕ). get_or sqes p item) at_next ∙ get_or_default sqes sq.next item [] within) in
      let spelling : IsSpelling item =
      subst (λ (xs : List ℕ). IsSpelling xs) item_is
      (IsSpelledSlot-bytes (get_or sqes sq.next []) stage (ap (λ (s : OpenSlot). is_prepared_slot s) slot_is ∙ prepared) sound.prepared) in
      let queued : IsSpelling bytes =
      (entry_with_data given spelling.0, subst (λ (xs : List ℕ). SpellsEntry (entry_with_data given spelling.0) xs) (sym with) (SpellsEntry-with_data given spelling.0 item fits spelling.1)) in
      let places_are : sq'.places ≡ sq.places ++ sq.next ∷ [] = ap (λ (q : RingList). q.places) moved in
      let entries_are : sq'.entries ≡ sq.entries = ap (λ (q : RingList). q.entries) moved in
      let items : slots_at (set sqes place bytes) sq'.places ≡ slots_at sqes sq.places ++ bytes ∷ [] =
      ap (λ (p : ℕ). slots_at (set sqes p bytes) sq'.places) at_next
      ∙ ap (λ (ps : List ℕ). slots_at (set sqes sq.next bytes) ps) places_are
      ∙ slots_at-push sqes sq.next bytes sq.places within (sound.submissions.fresh free) in
      record {
        submissions = law;
        completions = sound.completions;
        sqes_len = length-set sqes place bytes ∙ sound.sqes_len ∙ sym entries_are;
        cqes_len = sound.cqes_len;
        room = omega (arith, law.room);
        open_where_parked = λ is. cc;
        queue = subst (λ (xs : List (List ℕ)). All IsSpelling xs) (sym items) (All-push IsSpelling (slots_at sqes sq.places) bytes sound.queue queued);
        prepared = tt;
        spelled = sound.spelled;
      }

  -- the first entry off the queue
  pub sound_after_take : (sq' : RingList) → sq' ≡ record sq { places = drop 1 sq.places } → IsRingList sq' → IsWellFormed sq' cq sqes cqes parked stage
  sound_after_take sq' moved law =
      let places_are : sq'.places ≡ drop 1 sq.places = ap (λ (q : RingList). q.places) moved in
      let entries_are : sq.entries ≡ sq'.entries = sym (ap (λ (q : RingList). q.entries) moved) in
      let next_is : sq.next ≡ sq'.next = sym (ap (λ (q : RingList). q.next) moved) in
      let items : slots_at sqes sq'.places ≡ drop 1 (slots_at sqes sq.places) =
      ap (λ (ps : List ℕ). slots_at sqes ps) places_are ∙ slots_at-drop sqes 1 sq.places in
      let fewer : length sq'.places ≤ length sq.places = omega (arith, ap (λ (ps : List ℕ). length ps) places_are, length-drop 1 sq.places) in
      record {
        submissions = law;
        completions = sound.completions;
        sqes_len = sound.sqes_len ∙ entries_are;
        cqes_len = sound.cqes_len;
        room = omega (arith, sound.room);
        open_where_parked = sound.open_where_parked;
        queue = subst (λ (xs : List (List ℕ)). All IsSpelling xs) (sym items) (All-drop IsSpelling 1 (slots_at sqes sq.places) sound.queue);
        prepared = subst (λ (p : ℕ). IsSpelledSlot (slot_of (get_or sqes p []) stage)) next_is sound.prepared;
        spelled = sound.spelled;
      }

  -- the bytes at the i-th place are those of the i-th queued entry
  pub queued_is : (i place : ℕ) (bytes : List ℕ) → Some place ≡ slice_get sq.places i → bytes ≡ get_or sqes place bytes
      → Some bytes ≡ slice_get old.queued i
  queued_is i place bytes at was =
      let within : i < length sq.places = slice_get_within sq.places i place (sym at) in
      let place_at : get_or sq.places i place ≡ place = get_or_from_slice_get sq.places i place place (sym at) in
      let below : place < sq.entries = subst (λ (p : ℕ). p < sq.entries) place_at (sound.submissions.within i place within) in
      let here : get_or sqes place [] ≡ bytes = get_or_default sqes place [] bytes (omega (arith, sound.sqes_len)) ∙ sym was in
      sym (ap (λ (r : Rings). slice_get r.queued i) (sym view_is)
      ∙ slice_get-map (λ (p : ℕ). get_or sqes p []) sq.places i
      ∙ ap (λ (o : Option ℕ). option_map (λ (p : ℕ). get_or sqes p []) o) (sym at)
      ∙ ap (λ (x : List ℕ). Some x) here)

  -- the law of the rings
  pub hold_entries : HoldEntries old
  hold_entries = subst (λ (r : Rings). HoldEntries r) view_is (record { queue = sound.queue; prepared = sound.prepared })

  -- a completion after the others
  pub after_post : (cq' : RingList) (place : ℕ) (cqe : Cqe) (bytes : List ℕ) → SpellsCqe cqe bytes → length cq.places < cq.entries
      → place ≡ cq.next → cq' ≡ record cq { places = cq.places ++ cq.next ∷ []; next = (cq.next + 1) % cq.entries }
      → rings_of sq cq' sqes (set cqes place bytes) parked stage ≡ after_call (PostCall cqe) old
  after_post cq' place cqe bytes spells free there moved =
      let within : cq.next < length cqes = omega (arith, sound.cqes_len, sound.completions.next_within) in
      let items : slots_at (set cqes cq.next bytes) (cq.places ++ cq.next ∷ []) ≡ slots_at cqes cq.places ++ bytes ∷ [] =
      slots_at-push cqes cq.next bytes cq.places within (sound.completions.fresh free) in
      let read : map cqe_of (slots_at (set cqes cq.next bytes) (cq.places ++ cq.next ∷ [])) ≡ map cqe_of (slots_at cqes cq.places) ++ cqe ∷ [] =
      ap (λ (xs : List (List ℕ)). map cqe_of xs) items
      ∙ map_push cqe_of (slots_at cqes cq.places) bytes
      ∙ ap (λ (x : Cqe). map cqe_of (slots_at cqes cq.places) ++ x ∷ []) (cqe_of-spelled cqe bytes spells) in
      let head : get_or (cq.places ++ cq.next ∷ []) 0 ((cq.next + 1) % cq.entries) ≡ get_or cq.places 0 cq.next = head-push cq.places cq.next ((cq.next + 1) % cq.entries) in
      let moved_on : rings_of sq (record cq { places = cq.places ++ cq.next ∷ []; next = (cq.next + 1) % cq.entries }) sqes (set cqes cq.next bytes) parked stage
      ≡ after_call (PostCall cqe) (rings_of sq cq sqes cqes parked stage) = cc in
      ap (λ (q : RingList). rings_of sq q sqes (set cqes place bytes) parked stage) moved
      ∙ ap (λ (p : ℕ). rings_of sq (record cq { places = cq.places ++ cq.next ∷ []; next = (cq.next + 1) % cq.entries }) sqes (set cqes p bytes) parked stage) there
      ∙ moved_on
      ∙ ap (λ (r : Rings). after_call (PostCall cqe) r) view_is

  pub sound_after_post : (cq' : RingList) (place : ℕ) (cqe : Cqe) (bytes : List ℕ) → SpellsCqe cqe bytes → length cq.places < cq.entries
      → place ≡ cq.next → cq' ≡ record cq { places = cq.places ++ cq.next ∷ []; next = (cq.next + 1) % cq.entries } → IsRingList cq'
      → IsWellFormed sq cq' sqes (set cqes place bytes) parked stage
  sound_after_post cq' place cqe bytes spells free there moved law =
      let within : cq.next < length cqes = omega (arith, sound.cqes_len, sound.completions.next_within) in
      let places_are : cq'.places ≡ cq.places ++ cq.next ∷ [] = ap (λ (q : RingList). q.places) moved in
      let entries_are : cq'.entries ≡ cq.entries = ap (λ (q : RingList). q.entries) moved in
      let items : slots_at (set cqes cq.next bytes) (cq.places ++ cq.next ∷ []) ≡ slots_at cqes cq.places ++ bytes ∷ [] =
      slots_at-push cqes cq.next bytes cq.places within (sound.completions.fresh free) in
      let items' : slots_at (set cqes place bytes) cq'.places ≡ slots_at cqes cq.places ++ bytes ∷ [] =
      ap (λ (p : ℕ). slots_at (set cqes p bytes) cq'.places) there
      ∙ ap (λ (ps : List ℕ). slots_at (set cqes cq.next bytes) ps) places_are
      ∙ items in
      let is_read : SpellsCqe (cqe_of bytes) bytes = subst (λ (c : Cqe). SpellsCqe c bytes) (sym (cqe_of-spelled cqe bytes spells)) spells in
      let all : All (λ (b : List ℕ). SpellsCqe (cqe_of b) b) (slots_at cqes cq.places ++ bytes ∷ []) =
      All-push (λ (b : List ℕ). SpellsCqe (cqe_of b) b) (slots_at cqes cq.places) bytes sound.spelled is_read in
      record {
        submissions = sound.submissions;
        completions = law;
        sqes_len = sound.sqes_len;
        cqes_len = length-set cqes place bytes ∙ sound.cqes_len ∙ sym entries_are;
        room = sound.room;
        open_where_parked = sound.open_where_parked;
        queue = sound.queue;
        prepared = sound.prepared;
        spelled = subst (λ (xs : List (List ℕ)). All (λ (b : List ℕ). SpellsCqe (cqe_of b) b) xs) (sym items') all;
      }

  -- the first completion away
  pub after_seen : (cq' : RingList) → 0 < length old.completions → cq' ≡ record cq { places = drop 1 cq.places }
      → rings_of sq cq' sqes cqes parked stage ≡ after_call CqeSeenCall old
  after_seen cq' some moved =
      let count : length (map cqe_of (slots_at cqes cq.places)) ≡ length cq.places = length-map (slots_at cqes cq.places) cqe_of ∙ length-map cq.places (λ (p : ℕ). get_or cqes p []) in
      let same : length (map cqe_of (slots_at cqes cq.places)) ≡ length old.completions = ap (λ (r : Rings). length r.completions) view_is in
      let head : get_or (drop 1 cq.places) 0 cq.next ≡ (get_or cq.places 0 cq.next + 1) % cq.entries = head-drop cq sound.completions (omega arith) in
      let read : map cqe_of (slots_at cqes (drop 1 cq.places)) ≡ drop 1 (map cqe_of (slots_at cqes cq.places)) =
      ap (λ (xs : List (List ℕ)). map cqe_of xs) (slots_at-drop cqes 1 cq.places) ∙ sym (drop-map cqe_of 1 (slots_at cqes cq.places)) in
      let moved_on : rings_of sq (record cq { places = drop 1 cq.places }) sqes cqes parked stage ≡ after_call CqeSeenCall (rings_of sq cq sqes cqes parked stage) = cc in
      ap (λ (q : RingList). rings_of sq q sqes cqes parked stage) moved
      ∙ moved_on
      ∙ ap (λ (r : Rings). after_call CqeSeenCall r) view_is

  pub sound_after_seen : (cq' : RingList) → cq' ≡ record cq { places = drop 1 cq.places } → IsRingList cq' → IsWellFormed sq cq' sqes cqes parked stage
  sound_after_seen cq' moved law =
      let items : slots_at cqes cq'.places ≡ drop 1 (slots_at cqes cq.places) =
      ap (λ (q : RingList). slots_at cqes q.places) moved ∙ slots_at-drop cqes 1 cq.places in
      record {
        submissions = sound.submissions;
        completions = law;
        sqes_len = sound.sqes_len;
        cqes_len = sound.cqes_len ∙ sym (ap (λ (q : RingList). q.entries) moved);
        room = sound.room;
        open_where_parked = sound.open_where_parked;
        queue = sound.queue;
        prepared = sound.prepared;
        spelled = subst (λ (xs : List (List ℕ)). All (λ (b : List ℕ). SpellsCqe (cqe_of b) b) xs) (sym items)
            (All-drop (λ (b : List ℕ). SpellsCqe (cqe_of b) b) 1 (slots_at cqes cq.places) sound.spelled);
      }

  -- the bytes of the first completion are read as it
  pub first_is : (place : ℕ) (bytes : List ℕ) → Some place ≡ slice_get cq.places 0 → bytes ≡ get_or cqes place bytes
      → SpellsCqe (cqe_of bytes) bytes × (Some (cqe_of bytes) ≡ slice_get old.completions 0)
  first_is place bytes first was =
      let some : 0 < length cq.places = slice_get_within cq.places 0 place (sym first) in
      let place_first : get_or cq.places 0 place ≡ place = get_or_from_slice_get cq.places 0 place place (sym first) in
      let below : place < cq.entries = subst (λ (p : ℕ). p < cq.entries) place_first (sound.completions.within 0 place some) in
      let here : get_or cqes place [] ≡ bytes = get_or_default cqes place [] bytes (omega (arith, sound.cqes_len)) ∙ sym was in
      let item : slice_get (slots_at cqes cq.places) 0 ≡ Some bytes =
      slice_get-map (λ (p : ℕ). get_or cqes p []) cq.places 0
      ∙ ap (λ (o : Option ℕ). option_map (λ (p : ℕ). get_or cqes p []) o) (sym first)
      ∙ ap (λ (x : List ℕ). Some x) here in
      let first_item : get_or (slots_at cqes cq.places) 0 bytes ≡ bytes = get_or_from_slice_get (slots_at cqes cq.places) 0 bytes bytes item in
      let count : length (slots_at cqes cq.places) ≡ length cq.places = length-map cq.places (λ (p : ℕ). get_or cqes p []) in
      let spelled : SpellsCqe (cqe_of bytes) bytes =
      subst (λ (b : List ℕ). SpellsCqe (cqe_of b) b) first_item (sound.spelled 0 bytes (omega arith)) in
      let answer : slice_get old.completions 0 ≡ Some (cqe_of bytes) =
      ap (λ (r : Rings). slice_get r.completions 0) (sym view_is)
      ∙ slice_get-map cqe_of (slots_at cqes cq.places) 0
      ∙ ap (λ (o : Option (List ℕ)). option_map cqe_of o) item in
      (spelled, sym answer)
