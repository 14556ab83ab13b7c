-- Rings that are alike but for places stay so, and are answered alike.
use Rattle.std.proofs.Common.{◌≡◌, ℕ, ◌+◌, ◌-◌, List, [], ◌∷◌, ◌++◌, length, drop, refl, ap, sym, subst, ◌∙◌}
use Rattle.std.specs.Prelude.{◌==◌, slice_get}
use Rattle.std.specs.Option.{is_some}
use Rattle.rc_entry.specs.declared.Entry.{Entry}
use Rattle.rc_entry.specs.declared.Cqe.{Cqe}
use Rattle.rc_entry.proofs.OneSpelling.{same-entry}
use Rattle.rc_ring.specs.Rings.{empty_rings, Rings, OpenSlot, NoSlot, VacantSlot, PreparedSlot, RingCall, PrepCall, SetData64Call, ParkCall, ResumeCall, SubmitCall, PostCall, CqeSeenCall, after_call, Prepares, slot_bytes, bytes_with_data, slot_count, is_prepared_slot, place_if_open}
use Rattle.rc_ring.specs.Alike.{AreAlike, after_calls, call_answers}

-- a call
after_one : (call : RingCall) (a b : Rings) → AreAlike a b → AreAlike (after_call call a) (after_call call b)
after_one (SetData64Call user_data) a b h = record { entries = h.entries; completion_entries = h.completion_entries; queued = λ i. h.queued i ++ bytes_with_data user_data (slot_bytes (h.slot i)) ∷ []; completions = h.completions; slot = refl; parked = h.parked }
after_one ParkCall a b h = record { entries = h.entries; completion_entries = h.completion_entries; queued = h.queued; completions = h.completions; slot = h.slot; parked = refl }
after_one ResumeCall a b h = record { entries = h.entries; completion_entries = h.completion_entries; queued = h.queued; completions = h.completions; slot = h.slot; parked = refl }
after_one (SubmitCall count) a b h = record { entries = h.entries; completion_entries = h.completion_entries; queued = ap (λ (xs : List (List ℕ)). drop count xs) h.queued; completions = h.completions; slot = h.slot; parked = h.parked }
after_one (PostCall cqe) a b h = record { entries = h.entries; completion_entries = h.completion_entries; queued = h.queued; completions = ap (λ (cs : List Cqe). cs ++ cqe ∷ []) h.completions; slot = h.slot; parked = h.parked }
after_one CqeSeenCall a b h = record { entries = h.entries; completion_entries = h.completion_entries; queued = h.queued; completions = ap (λ (cs : List Cqe). drop 1 cs) h.completions; slot = h.slot; parked = h.parked }
after_one _ a b h = record { entries = h.entries; completion_entries = h.completion_entries; queued = h.queued; completions = h.completions; slot = refl; parked = h.parked }

pub alike_after : (call : RingCall) (a b c d : Rings) → AreAlike a b → c ≡ after_call call a → d ≡ after_call call b → AreAlike c d
alike_after call a b c d h left right =
    subst (λ (r : Rings). AreAlike c r) (sym right) (subst (λ (r : Rings). AreAlike r (after_call call b)) (sym left) (after_one call a b h))

-- any calls
pub stay_alike : (calls : List RingCall) (a b : Rings) → AreAlike a b → AreAlike (after_calls calls a) (after_calls calls b)
stay_alike [] a b h = h
stay_alike (call ∷ calls) a b h = stay_alike calls (after_call call a) (after_call call b) (after_one call a b h)

-- whether a slot is open doesn't hang on its place
open_at_any : (p q : ℕ) (slot : OpenSlot) → is_some (place_if_open p slot) ≡ is_some (place_if_open q slot)
open_at_any p q NoSlot = refl
open_at_any p q VacantSlot = refl
open_at_any p q (PreparedSlot bytes) = refl

pub answer_alike : (a b : Rings) → AreAlike a b → call_answers a ≡ call_answers b
answer_alike a b h =
    let is_open : is_some (place_if_open a.place a.slot) ≡ is_some (place_if_open b.place b.slot) =
    ap (λ (s : OpenSlot). is_some (place_if_open a.place s)) h.slot ∙ open_at_any a.place b.place b.slot in
    λ i. record {
      is_full = (length (h.queued i) + slot_count (h.slot i)) == h.entries i;
      is_open = is_open i;
      open_prepared = is_prepared_slot (h.slot i);
      parked = h.parked i;
      queued_sqe = λ k. slice_get (h.queued i) k;
      left = length (h.queued i);
      overflows = length (h.completions i) == h.completion_entries i;
      peek_cqe = slice_get (h.completions i) 0;
      sq_ready = length (h.queued i) + slot_count (h.slot i);
      sq_space_left = h.entries i - (length (h.queued i) + slot_count (h.slot i));
    }

-- rings opened at any counters answer the same calls alike
pub runs_alike : (calls : List RingCall) (entries completion_entries p q s t : ℕ)
    → call_answers (after_calls calls (empty_rings entries completion_entries p s)) ≡ call_answers (after_calls calls (empty_rings entries completion_entries q t))
runs_alike calls entries completion_entries p q s t =
    let a : Rings = empty_rings entries completion_entries p s in
    let b : Rings = empty_rings entries completion_entries q t in
    let opened : AreAlike a b = record { entries = refl; completion_entries = refl; queued = refl; completions = refl; slot = refl; parked = refl } in
    answer_alike (after_calls calls a) (after_calls calls b) (stay_alike calls a b opened)

-- a prep of one entry leaves the same bytes in both
pub preps_alike : (entry : Entry) (a b c d : Rings) → AreAlike a b → Prepares a c entry → Prepares b d entry → AreAlike c d
preps_alike entry a b c d h f g =
    let same : g.bytes ≡ f.bytes = same-entry entry g.bytes f.bytes g.spells f.spells in
    alike_after (PrepCall f.bytes) a b c d h f.after (g.after ∙ ap (λ (xs : List ℕ). after_call (PrepCall xs) b) same)
