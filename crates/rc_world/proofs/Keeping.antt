-- What steps change in a world, it keeps.
use Rattle.std.proofs.Common.{◌≡◌, ℕ, zero, suc, ◌+◌, ◌≤◌, inl, inr, Bool, true, false, if◌then◌else◌, List, [], ◌∷◌, ◌++◌, drop, length, length-append, take, Option, Some, None, slice_get, refl, sym, ap, subst, arith}
use Rattle.std.proofs.lemmas.Option.{same_Some}
use Rattle.rc_lang.specs.declared.request.Request.{Request}
use Rattle.rc_lang.specs.Program.{Program}
use Rattle.rc_world.specs.declared.world.Slot.{Slot}
use Rattle.rc_world.specs.declared.world.Slot.TheVariants.{Closed, Prepared}
use Rattle.rc_world.specs.Faults.{clashes}
use Rattle.rc_world.specs.Kept.{AllFit, IsFitting, IsKept, IsMemory, SlotFits}
use Rattle.rc_world.specs.Machine.{Pending, World, all_begin, bytes_brought, given_back, hands_over, is_read, slot_len, without}
use Rattle.rc_world.specs.WorldParts.{begun_buffers, begun_pending}
use Rattle.rc_world.proofs.Lists.{get_drop, get_push, get_take}
use Rattle.rc_world.proofs.Memory.{memory_begins, memory_done, memory_read}

pub kept_buffers : (w : World) → IsKept w → (buffers : List (Option (List ℕ))) → IsMemory w.program w.pending buffers → IsKept (record w { buffers = buffers })
kept_buffers w k buffers m = record { made = k.made; room = k.room; slot = k.slot; queued = k.queued; memory = m }

-- the prepared entry goes into the queue
slot_is : (program : Program) (s : Slot) (r : Request) → s ≡ Prepared r → SlotFits program s → IsFitting program r
slot_is program s r e h = subst (SlotFits program) e h

pub kept_queued : (w : World) → IsKept w → (r : Request) (serial user_data made : ℕ) → w.slot ≡ Prepared r
    → IsKept (record w { slot = Closed; queued = w.queued ++ record r { serial = serial; user_data = user_data } ∷ []; made = made })
kept_queued w k r serial user_data made e =
    let h = slot_is w.program w.slot r e k.slot in
    let full : length w.queued + slot_len w.slot ≤ w.program.entries = k.room in
    let one : slot_len w.slot ≡ 1 = ap slot_len e in
    let n : length (w.queued ++ record r { serial = serial; user_data = user_data } ∷ []) ≡ length w.queued + 1 = length-append w.queued (record r { serial = serial; user_data = user_data } ∷ []) in
    record {
      made = k.made;
      room = omega arith;
      slot = tt;
      queued = λ i q g. elim (get_push w.queued _ i q g) [
        | inl x ↦ k.queued i q x
        | inr x ↦ subst (λ y. IsFitting w.program y) x (record { exists = h.exists; room = h.room })
      ];
      memory = k.memory;
    }

-- ---- requests become pending

pub all_begun : (w : World) (rs : List Request) → all_begin w rs ≡ record w { pending = begun_pending w.pending w.buffers rs; buffers = begun_buffers w.buffers rs }
all_begun w [] = refl
all_begun w (r ∷ rs) = all_begun _ rs

pub memory_all : (program : Program) (ps : List Pending) (buffers : List (Option (List ℕ))) (rs : List Request) → IsMemory program ps buffers → AllFit program rs → IsMemory program (begun_pending ps buffers rs) (begun_buffers buffers rs)
memory_all program ps buffers [] m f = m
memory_all program ps buffers (r ∷ rs) m f = memory_all program _ _ rs (memory_begins program ps buffers m r (f 0 r refl)) (λ k q e. f (suc k) q e)

pub kept_handed : (w : World) → IsKept w → (n : ℕ) → IsKept (record w { queued = drop n w.queued; pending = begun_pending w.pending w.buffers (take n w.queued); buffers = begun_buffers w.buffers (take n w.queued) })
kept_handed w k n =
    let full : length w.queued + slot_len w.slot ≤ w.program.entries = k.room in
    let fewer : length (drop n w.queued) ≤ length w.queued = dropped n w.queued in
    record {
      made = k.made;
      room = omega arith;
      slot = k.slot;
      queued = λ i q g. let h = get_drop n w.queued i q g in k.queued h.0 q h.1;
      memory = memory_all w.program w.pending w.buffers (take n w.queued) k.memory (λ i q g. k.queued i q (get_take n w.queued i q g));
    }
  where
    dropped : (m : ℕ) (xs : List Request) → length (drop m xs) ≤ length xs
    dropped zero xs = omega arith
    dropped (suc m) [] = omega arith
    dropped (suc m) (x ∷ xs) = let h = dropped m xs in omega arith

pub handed_is : (w : World) (n : ℕ) → hands_over w n ≡ record w { queued = drop n w.queued; pending = begun_pending w.pending w.buffers (take n w.queued); buffers = begun_buffers w.buffers (take n w.queued) }
handed_is w n = all_begun (record w { queued = drop n w.queued }) (take n w.queued)

-- the same, as lists that the code has made
pub kept_handed_is : (w : World) → IsKept w → (n : ℕ) (queued : List Request) (pending : List Pending) (buffers : List (Option (List ℕ)))
    → queued ≡ drop n w.queued → pending ≡ begun_pending w.pending w.buffers (take n w.queued) → buffers ≡ begun_buffers w.buffers (take n w.queued)
    → IsKept (record w { queued = queued; pending = pending; buffers = buffers })
kept_handed_is w k n queued pending buffers q p b = rw (q, p, b) (kept_handed w k n)

pub handed_as : (w : World) (n : ℕ) (queued : List Request) (pending : List Pending) (buffers : List (Option (List ℕ)))
    → queued ≡ drop n w.queued → pending ≡ begun_pending w.pending w.buffers (take n w.queued) → buffers ≡ begun_buffers w.buffers (take n w.queued)
    → ◌≡◌ {A = World} (record w { queued = queued; pending = pending; buffers = buffers }) (hands_over w n)
handed_as w n queued pending buffers q p b = rw (q, p, b) (sym (handed_is w n))

-- ---- a request completes

module _ (w : World) (kept : IsKept w) (calm : clashes w.pending ≡ false) (k : ℕ) (p : Pending) (here : slice_get w.pending k ≡ Some p) (bytes : List ℕ) (many : length bytes ≡ bytes_brought p.request) (buffers : List (Option (List ℕ))) where
  not_read : (b : Bool) → is_read p.request.kind ≡ b → (if b then None else Some w.buffers) ≡ Some buffers → IsMemory w.program (without k w.pending) buffers
  not_read true f e = absurd (cc)
  not_read false f e = subst (λ bs. IsMemory w.program (without k w.pending) bs) (same_Some w.buffers buffers e) (memory_done w.program w.pending w.buffers kept.memory calm k p here f)

  with_stood : (stood : Option (List ℕ)) → p.bytes ≡ stood → given_back w p.request bytes stood ≡ Some buffers → IsMemory w.program (without k w.pending) buffers
  with_stood None q e = not_read (is_read p.request.kind) refl e
  with_stood (Some stood) q e = subst (λ bs. IsMemory w.program (without k w.pending) bs) (same_Some _ buffers e) (memory_read w.program w.pending w.buffers kept.memory calm k p here stood bytes q many)

  pub memory_given : given_back w p.request bytes p.bytes ≡ Some buffers → IsMemory w.program (without k w.pending) buffers
  memory_given e = with_stood p.bytes refl e
