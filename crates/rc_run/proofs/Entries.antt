-- Requests after entries, and their serial numbers in the table.
use Rattle.std.proofs.Common.{◌≡◌, ◌≢◌, ℕ, zero, suc, ◌+◌, ℤ, negsuc, Bool, List, [], ◌∷◌, ◌++◌, map, drop, Some, None, false, if◌then◌else◌, nat_eq, slice_get, option_map, Result, Ok, Err, ◌↔◌, refl, sym, ap, subst, ◌∙◌, arith, eq-eqb}
use Rattle.std.proofs.lemmas.Bool.Decides.{nat_tests}
use Rattle.std.proofs.lemmas.List.{map-append}
use Rattle.std.proofs.lemmas.Option.{same_Some, slice_get-map}
use Rattle.rc_entry.specs.declared.Entry.{Entry}
use Rattle.rc_entry.specs.declared.Entry.TheVariants.{Nop, Fsync, Read, Write}
use Rattle.rc_entry.specs.Spelling.{HasFields, SpellsEntry, opcode_fsync, opcode_nop, opcode_read, opcode_write, sqe_addr, sqe_fd, sqe_len, sqe_off, sqe_opcode, sqe_user_data, sync_flags}
use Rattle.rc_lang.specs.declared.request.Request.{Request}
use Rattle.rc_entry.specs.declared.EntryFault.{EntryFault}
use Rattle.rc_ring.specs.Rings.{NoSlot, OpenSlot, PreparedSlot, Rings, SubmitCall, VacantSlot, after_call, after_queueing, bytes_with_data, entry_with_data, slot_bytes}
use Rattle.rc_ring.specs.Spelled.{HoldEntries, IsSpelledSlot, IsSpelling}
use Rattle.rc_run.specs.declared.request_ring.Serial.{Serial}
use Rattle.rc_run.specs.Held.{AreDistinct, IsHeld, ring_of}
use Rattle.rc_run.specs.Requests.{after_data, buffer_at, data_of, data_of_entry, kind_of_opcode, named, request_by, request_in, request_of, slot_in, unnamed}
use Rattle.rc_world.specs.declared.world.Slot.TheVariants.{Closed, Prepared}

-- ---- the fields of an entry

abbrev made : Serial → (opcode : ℕ) → ℤ → (address len off u : ℕ) → Request
made s opcode fd address len off u = record { serial = s.serial; kind = kind_of_opcode opcode s.other; fd = fd; buffer = buffer_at address; len = len; off = off; user_data = u }

by_fields : (s : Serial) (opcode : ℕ) (fd : ℤ) (off address len flags u : ℕ) (bytes : List ℕ) → HasFields opcode fd off address len flags u bytes
    → request_by s bytes ≡ made s opcode fd address len off u
by_fields s opcode fd off address len flags u bytes h =
    ap (λ x. made s x (sqe_fd bytes) (sqe_addr bytes) (sqe_len bytes) (sqe_off bytes) (sqe_user_data bytes)) h.opcode_is
    ∙ ap (λ x. made s opcode x (sqe_addr bytes) (sqe_len bytes) (sqe_off bytes) (sqe_user_data bytes)) h.fd_is
    ∙ ap (λ x. made s opcode fd x (sqe_len bytes) (sqe_off bytes) (sqe_user_data bytes)) h.addr_is
    ∙ ap (λ x. made s opcode fd address x (sqe_off bytes) (sqe_user_data bytes)) h.len_is
    ∙ ap (λ x. made s opcode fd address len x (sqe_user_data bytes)) h.off_is
    ∙ ap (λ x. made s opcode fd address len off x) h.user_data_is

pub request_spelled : (s : Serial) (e : Entry) (bytes : List ℕ) → SpellsEntry e bytes → request_by s bytes ≡ request_of s e
request_spelled s (Nop u) bytes h = by_fields s opcode_nop (negsuc 0) 0 0 0 0 u bytes h
request_spelled s (Fsync fd datasync u) bytes h = by_fields s opcode_fsync fd 0 0 0 (sync_flags datasync) u bytes h
request_spelled s (Read fd address len off u) bytes h = by_fields s opcode_read fd off address len 0 u bytes h
request_spelled s (Write fd address len off u) bytes h = by_fields s opcode_write fd off address len 0 u bytes h

data_spelled : (e : Entry) (bytes : List ℕ) → SpellsEntry e bytes → sqe_user_data bytes ≡ data_of_entry e
data_spelled (Nop u) bytes h = h.user_data_is
data_spelled (Fsync fd datasync u) bytes h = h.user_data_is
data_spelled (Read fd address len off u) bytes h = h.user_data_is
data_spelled (Write fd address len off u) bytes h = h.user_data_is

-- the same request under a serial number and a user data
with_data : (u n : ℕ) (other : Bool) (e : Entry) → request_of (record { user_data = u; serial = n; other = other }) (entry_with_data u e) ≡ record (request_of (unnamed other) e) { serial = n; user_data = u }
with_data u n other (Nop w) = refl
with_data u n other (Fsync fd datasync w) = refl
with_data u n other (Read fd address len off w) = refl
with_data u n other (Write fd address len off w) = refl

pub request_with_data : (u n : ℕ) (other : Bool) (e : Entry) (bytes more : List ℕ) → SpellsEntry e bytes → SpellsEntry (entry_with_data u e) more
    → request_by (record { user_data = u; serial = n; other = other }) more ≡ record (request_by (unnamed other) bytes) { serial = n; user_data = u }
request_with_data u n other e bytes more h m =
    request_spelled (record { user_data = u; serial = n; other = other }) (entry_with_data u e) more m ∙ with_data u n other e
    ∙ ap (λ (q : Request). record q { serial = n; user_data = u }) (sym (request_spelled (unnamed other) e bytes h))

-- ---- serial numbers

abbrev data_in : List Serial → List ℕ
data_in serials = map (λ (s : Serial). s.user_data) serials

if_eq : (m n : ℕ) {A : Type 0} (x y : A) → m ≡ n → (if nat_eq m n then x else y) ≡ x
if_eq m n x y e = ap (λ b. if b then x else y) (eq-eqb m n e)

if_not : (m n : ℕ) {A : Type 0} (x y : A) → m ≢ n → (if nat_eq m n then x else y) ≡ y
if_not m n x y ne = let e : nat_eq m n ≡ false = grind (arith, nat_tests) in ap (λ b. if b then x else y) e

-- what is named stays so after others
named_found : (serials : List Serial) (s : Serial) (u k : ℕ) → slice_get (data_in serials) k ≡ Some u → named u (serials ++ s ∷ []) ≡ named u serials
named_found [] s u k e = absurd (cc)
named_found (t ∷ serials) s u zero e =
    let same : t.user_data ≡ u = same_Some _ _ e in
    if_eq t.user_data u t (named u (serials ++ s ∷ [])) same ∙ sym (if_eq t.user_data u t (named u serials) same)
named_found (t ∷ serials) s u (suc k) e = ap (λ n. if nat_eq t.user_data u then t else n) (named_found serials s u k e)

last_of : (xs : List ℕ) (u : ℕ) → (k : ℕ) × (slice_get (xs ++ u ∷ []) k ≡ Some u)
last_of [] u = (0, refl)
last_of (x ∷ xs) u = let h = last_of xs u in (suc h.0, h.1)

-- a new one is that of the last
pub named_new : (serials : List Serial) (s : Serial) → AreDistinct (data_in serials ++ s.user_data ∷ []) → named s.user_data (serials ++ s ∷ []) ≡ s
named_new [] s h = if_eq s.user_data s.user_data s (unnamed false) refl
named_new (t ∷ serials) s h =
    let at = last_of (data_in serials) s.user_data in
    if_not t.user_data s.user_data t (named s.user_data (serials ++ s ∷ [])) (λ e. h.0 at.0 (at.1 ∙ ap Some (sym e)))
    ∙ named_new serials s h.1

-- the requests of entries of which the same is known
same_requests : (old new : List Serial) (queue : List (List ℕ)) → ((k : ℕ) (u : ℕ) → slice_get (map sqe_user_data queue) k ≡ Some u → named u new ≡ named u old)
    → map (request_in new) queue ≡ map (request_in old) queue
same_requests old new [] h = refl
same_requests old new (b ∷ queue) h =
    let first : request_in new b ≡ request_in old b = ap (λ s. request_by s b) (h 0 (sqe_user_data b) refl) in
    ap (λ (q : Request). q ∷ map (request_in new) queue) first
    ∙ ap (λ qs. request_in old b ∷ qs) (same_requests old new queue (λ k u e. h (suc k) u e))

pub requests_push : (serials : List Serial) (s : Serial) (queue : List (List ℕ)) → data_in serials ≡ map sqe_user_data queue
    → map (request_in (serials ++ s ∷ [])) queue ≡ map (request_in serials) queue
requests_push serials s queue are = same_requests serials (serials ++ s ∷ []) queue (λ k u e. named_found serials s u k (ap (λ xs. slice_get xs k) are ∙ e))

pub data_of-requests : (serials : List Serial) (queue : List (List ℕ)) → data_of (map (request_in serials) queue) ≡ map sqe_user_data queue
data_of-requests serials [] = refl
data_of-requests serials (b ∷ queue) = ap (λ xs. sqe_user_data b ∷ xs) (data_of-requests serials queue)

tail_of : (x y : ℕ) (xs ys : List ℕ) → x ∷ xs ≡ y ∷ ys → xs ≡ ys
tail_of x y xs ys e = ap (drop 1) e

pub requests_drop : (n : ℕ) (serials : List Serial) (queue : List (List ℕ)) → data_in serials ≡ map sqe_user_data queue → AreDistinct (map sqe_user_data queue)
    → map (request_in (drop n serials)) (drop n queue) ≡ drop n (map (request_in serials) queue)
requests_drop zero serials queue are distinct = refl
requests_drop (suc n) [] [] are distinct = refl
requests_drop (suc n) [] (b ∷ queue) are distinct = absurd (cc)
requests_drop (suc n) (s ∷ serials) [] are distinct = absurd (cc)
requests_drop (suc n) (s ∷ serials) (b ∷ queue) are distinct =
    let rest = tail_of _ _ _ _ are in
    let head : s.user_data ≡ sqe_user_data b = same_Some _ _ (ap (λ xs. slice_get xs 0) are) in
    let same : map (request_in (s ∷ serials)) queue ≡ map (request_in serials) queue =
    same_requests serials (s ∷ serials) queue (λ k u e. if_not s.user_data u s (named u serials) (λ q. distinct.0 k (e ∙ ap Some (sym q ∙ head))))
    in
    requests_drop n serials queue rest distinct.1 ∙ ap (drop n) (sym same)

pub named_drop : (n : ℕ) (serials : List Serial) (queue : List (List ℕ)) → data_in serials ≡ map sqe_user_data queue → data_in (drop n serials) ≡ map sqe_user_data (drop n queue)
named_drop zero serials queue are = are
named_drop (suc n) [] [] are = refl
named_drop (suc n) [] (b ∷ queue) are = absurd (cc)
named_drop (suc n) (s ∷ serials) [] are = absurd (cc)
named_drop (suc n) (s ∷ serials) (b ∷ queue) are = named_drop n serials queue (tail_of _ _ _ _ are)

-- ---- entries that are decoded

-- bytes that spell an entry are decoded
pub decodes : (bytes : List ℕ) (r : Result Entry EntryFault) → ((e : Entry) → (r ≡ Ok e) ↔ SpellsEntry e bytes) → IsSpelling bytes → (f : EntryFault) → r ≡ Err f → ⊥
decodes bytes r h s f e = let ok = (h s.0).1 s.1 in absurd (cc)

-- the request that is read at a place
pub request_at : (serials : List Serial) (queue : List (List ℕ)) (i : ℕ) (bytes : List ℕ) (e : Entry) → Some bytes ≡ slice_get queue i → SpellsEntry e bytes
    → Some (request_of (named (data_of_entry e) serials) e) ≡ slice_get (map (request_in serials) queue) i
request_at serials queue i bytes e at spells =
    ap Some (sym (request_spelled (named (data_of_entry e) serials) e bytes spells))
    ∙ ap (λ u. Some (request_by (named u serials) bytes)) (sym (data_spelled e bytes spells))
    ∙ ap (option_map (request_in serials)) at ∙ sym (slice_get-map (request_in serials) queue i)

pub no_request_at : (serials : List Serial) (queue : List (List ℕ)) (i : ℕ) → None ≡ slice_get queue i → None ≡ slice_get (map (request_in serials) queue) i
no_request_at serials queue i at = ap (option_map (request_in serials)) at ∙ sym (slice_get-map (request_in serials) queue i)

-- ---- what the calls leave

pub handed_held : (old new : Rings) (serials rest : List Serial) (n : ℕ) → IsHeld old serials → rest ≡ drop n serials → new ≡ after_call (SubmitCall n) old → IsHeld new rest
handed_held old new serials rest n h r a =
    subst (λ x. IsHeld x rest) (sym a) (subst (λ x. IsHeld (after_call (SubmitCall n) old) x) (sym r) (record { parks = h.parks; named = named_drop n serials old.queued h.named }))

pub handed_is : (old new : Rings) (serials rest : List Serial) (other : Bool) (made n : ℕ) → IsHeld old serials → AreDistinct (data_of (map (request_in serials) old.queued)) → rest ≡ drop n serials
    → new ≡ after_call (SubmitCall n) old
    → ring_of new rest other made ≡ record (ring_of old serials other made) { queued = drop n (map (request_in serials) old.queued) }
handed_is old new serials rest other made n h distinct r a =
    ap (λ x. ring_of x rest other made) a ∙ ap (λ x. ring_of (after_call (SubmitCall n) old) x other made) r
    ∙ ap (λ qs. record (ring_of old serials other made) { queued = qs }) (requests_drop n serials old.queued h.named (subst AreDistinct (data_of-requests serials old.queued) distinct))

prepared_bytes : (other : Bool) (slot : OpenSlot) (q : Request) → slot_in other slot ≡ Prepared q → IsSpelledSlot slot
    → (e : Entry) × SpellsEntry e (slot_bytes slot) × (request_by (unnamed other) (slot_bytes slot) ≡ q)
prepared_bytes other NoSlot q e h = absurd (cc)
prepared_bytes other VacantSlot q e h = absurd (cc)
prepared_bytes other (PreparedSlot bytes) q e h = (h.0, h.1, same_prepared _ _ e)
  where
    same_prepared : (a b : Request) → Prepared a ≡ Prepared b → a ≡ b
    same_prepared a b x = cc

-- the prepared entry's bytes have the user data, once it is written into them
data_written : (e : Entry) (u : ℕ) (bytes : List ℕ) → SpellsEntry (entry_with_data u e) bytes → sqe_user_data bytes ≡ u
data_written (Nop v) u bytes h = h.user_data_is
data_written (Fsync fd datasync v) u bytes h = h.user_data_is
data_written (Read fd address len off v) u bytes h = h.user_data_is
data_written (Write fd address len off v) u bytes h = h.user_data_is

pub queued_held : (old new : Rings) (serials : List Serial) (other : Bool) (u n : ℕ) (q : Request) → IsHeld old serials → slot_in other old.slot ≡ Prepared q → HoldEntries old
    → new ≡ after_queueing (record old { parked = false }) u
    → ((e : Entry) → SpellsEntry e (slot_bytes old.slot) → SpellsEntry (entry_with_data u e) (bytes_with_data u (slot_bytes old.slot)))
    → IsHeld new (serials ++ record { user_data = u; serial = n; other = other } ∷ [])
queued_held old new serials other u n q h is law a spells =
    let p = prepared_bytes other old.slot q is law.prepared in
    let s : Serial = record { user_data = u; serial = n; other = other } in
    subst (λ x. IsHeld x (serials ++ s ∷ [])) (sym a) (record {
      parks = refl;
      named =
          map-append (λ (s : Serial). s.user_data) serials (s ∷ [])
          ∙ ap (λ xs. xs ++ u ∷ []) h.named
          ∙ ap (λ v. map sqe_user_data old.queued ++ v ∷ []) (sym (data_written p.0 u _ (spells p.0 p.1)))
          ∙ sym (map-append sqe_user_data old.queued (bytes_with_data u (slot_bytes old.slot) ∷ []));
    })

pub queued_is : (old new : Rings) (serials : List Serial) (other : Bool) (u made : ℕ) (q : Request) → IsHeld old serials → slot_in other old.slot ≡ Prepared q → HoldEntries old
    → AreDistinct (data_of (map (request_in serials) old.queued) ++ u ∷ [])
    → new ≡ after_queueing (record old { parked = false }) u
    → ((e : Entry) → SpellsEntry e (slot_bytes old.slot) → SpellsEntry (entry_with_data u e) (bytes_with_data u (slot_bytes old.slot)))
    → ring_of new (serials ++ record { user_data = u; serial = made + 1; other = other } ∷ []) other (made + 1) ≡ after_data (ring_of old serials other made) u q
queued_is old new serials other u made q h is law distinct a spells =
    let s : Serial = record { user_data = u; serial = made + 1; other = other } in
    let more = serials ++ s ∷ [] in
    let b = bytes_with_data u (slot_bytes old.slot) in
    let p = prepared_bytes other old.slot q is law.prepared in
    let are = data_of-requests serials old.queued ∙ sym h.named in
    let row : named (sqe_user_data b) more ≡ s =
    ap (λ v. named v more) (data_written p.0 u b (spells p.0 p.1)) ∙ named_new serials s (subst (λ xs. AreDistinct (xs ++ u ∷ [])) are distinct)
    in
    let one : request_in more b ≡ record q { serial = made + 1; user_data = u } =
    ap (λ x. request_by x b) row
    ∙ request_with_data u (made + 1) other p.0 (slot_bytes old.slot) b p.1 (spells p.0 p.1)
    ∙ ap (λ (x : Request). record x { serial = made + 1; user_data = u }) p.2
    in
    let all : map (request_in more) (old.queued ++ b ∷ []) ≡ map (request_in serials) old.queued ++ record q { serial = made + 1; user_data = u } ∷ [] =
    map-append (request_in more) old.queued (b ∷ [])
    ∙ ap (λ xs. xs ++ request_in more b ∷ []) (requests_push serials s old.queued h.named)
    ∙ ap (λ x. map (request_in serials) old.queued ++ x ∷ []) one
    in
    ap (λ x. ring_of x more other (made + 1)) a
    ∙ ap (λ qs. record (ring_of old serials other made) { slot = Closed; datasync = false; queued = qs; made = made + 1 }) all

-- The prepared entry gets its user data once it is handed out again.
pub record IsQueued (old new : Rings) (u : ℕ) : Type 0 where
  pub after : new ≡ after_queueing (record old { parked = false }) u
  pub spells : (e : Entry) → SpellsEntry e (slot_bytes old.slot) → SpellsEntry (entry_with_data u e) (bytes_with_data u (slot_bytes old.slot))

pub queued_so : (old resumed new : Rings) (u : ℕ) → resumed ≡ record old { parked = false } → new ≡ after_queueing resumed u
    → ((e : Entry) → SpellsEntry e (slot_bytes resumed.slot) → SpellsEntry (entry_with_data u e) (bytes_with_data u (slot_bytes resumed.slot)))
    → IsQueued old new u
queued_so old resumed new u r a spells = record {
  after = a ∙ ap (λ x. after_queueing x u) r;
  spells = subst (λ (x : Rings). (e : Entry) → SpellsEntry e (slot_bytes x.slot) → SpellsEntry (entry_with_data u e) (bytes_with_data u (slot_bytes x.slot))) r spells;
}
