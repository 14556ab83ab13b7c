-- Queued requests that become pending, one after another.
use Rattle.std.proofs.Common.{◌≡◌, ℕ, zero, suc, ◌+◌, ◌<◌, List, [], ◌∷◌, ◌++◌, drop, take, map, Option, Some, slice_get, vec_len, vec_capacity, sym, ap, subst, ◌∙◌, arith}
use Rattle.std.specs.Global.{Vec}
use Rattle.std.proofs.lemmas.List.{map-append}
use Rattle.rc_lang.specs.declared.request.Request.{Request}
use Rattle.rc_world.specs.Machine.{taken_bytes, without_taken}
use Rattle.rc_world.specs.WorldParts.{begun_buffers, begun_pending, view_bytes}
use Rattle.rc_run.specs.declared.machine.Pending.{Pending as PendingPart}
use Rattle.rc_run.specs.Machine.{pending_of}

-- The first i of these requests have become pending.
pub record IsBegun (pending0 : Vec PendingPart) (buffers0 : Vec (Option (Vec ℕ))) (requests : List Request) (i : ℕ) (pending : Vec PendingPart) (buffers : Vec (Option (Vec ℕ))) : Type 0 where
  pub pending_is : begun_pending (map pending_of pending.items) (map view_bytes buffers.items) (drop i requests) ≡ begun_pending (map pending_of pending0.items) (map view_bytes buffers0.items) requests
  pub buffers_is : begun_buffers (map view_bytes buffers.items) (drop i requests) ≡ begun_buffers (map view_bytes buffers0.items) requests
  pub len : vec_len pending ≡ vec_len pending0 + i
  pub capacity : vec_capacity pending ≡ vec_capacity pending0

drop_at : (n : ℕ) (xs : List Request) (i : ℕ) (r : Request) → i < n → slice_get xs i ≡ Some r → drop i (take n xs) ≡ r ∷ drop (suc i) (take n xs)
drop_at zero xs i r lt e = absurd (omega arith)
drop_at (suc n) [] i r lt e = absurd (cc)
drop_at (suc n) (x ∷ xs) zero r lt e = let same : x ≡ r = cc in ap (λ y. y ∷ take n xs) same
drop_at (suc n) (x ∷ xs) (suc i) r lt e = drop_at n xs i r (omega arith) e

pub begun_more : (pending0 : Vec PendingPart) (buffers0 : Vec (Option (Vec ℕ))) (xs : List Request) (n i : ℕ) (pending : Vec PendingPart) (buffers : Vec (Option (Vec ℕ)))
    → IsBegun pending0 buffers0 (take n xs) i pending buffers → (r : Request) → i < n → slice_get xs i ≡ Some r
    → (bytes : Option (Vec ℕ)) (more : Vec PendingPart) (less : Vec (Option (Vec ℕ)))
    → more.items ≡ pending.items ++ record { request = r; bytes = bytes } ∷ [] → vec_len more ≡ vec_len pending + 1 → vec_capacity more ≡ vec_capacity pending
    → view_bytes bytes ≡ taken_bytes (map view_bytes buffers.items) r → map view_bytes less.items ≡ without_taken (map view_bytes buffers.items) r
    → IsBegun pending0 buffers0 (take n xs) (i + 1) more less
begun_more pending0 buffers0 xs n i pending buffers h r lt at bytes more less items len capacity taken left =
    let ps = map pending_of pending.items in
    let bs = map view_bytes buffers.items in
    let next = drop_at n xs i r lt at in
    let rest = drop (suc i) (take n xs) in
    let one : suc i ≡ i + 1 = omega arith in
    let old : vec_len pending ≡ vec_len pending0 + i = h.len in
    let pushed : map pending_of more.items ≡ ps ++ record { request = r; bytes = taken_bytes bs r } ∷ [] =
    ap (map pending_of) items ∙ map-append pending_of pending.items (record { request = r; bytes = bytes } ∷ [])
    ∙ ap (λ x. ps ++ record { request = r; bytes = x } ∷ []) taken
    in
    subst (λ k. IsBegun pending0 buffers0 (take n xs) k more less) one (record {
      pending_is =
          ap (λ x. begun_pending x (map view_bytes less.items) rest) pushed
          ∙ ap (λ x. begun_pending (ps ++ record { request = r; bytes = taken_bytes bs r } ∷ []) x rest) left
          ∙ sym (ap (begun_pending ps bs) next) ∙ h.pending_is;
      buffers_is = ap (λ x. begun_buffers x rest) left ∙ sym (ap (begun_buffers bs) next) ∙ h.buffers_is;
      len = omega arith;
      capacity = capacity ∙ h.capacity;
    })
