-- What changes of the rings do to requests, and to sums over those in flight.
use Rattle.std.proofs.Common.{◌≡◌, ℕ, ◌+◌, Bool, true, false, List, [], ◌∷◌, ◌++◌, map, take, drop, Option, Some, refl, sym, ap, ◌∙◌, arith}
use Rattle.std.proofs.lemmas.Bool.{eq-eqb}
use Rattle.std.proofs.lemmas.List.{append-nil, append_assoc, map-append}
use Rattle.std.specs.Prelude.{slice_get, ℤ, if◌then◌else◌}
use Rattle.rc_lang.specs.declared.request.Request.{Request}
use Rattle.rc_world.specs.declared.controls.Look.{Look}
use Rattle.rc_world.specs.declared.controls.Look.TheVariants.{Unseen, Peeked, Got}
use Rattle.rc_world.specs.declared.event.Completion.{Completion}
use Rattle.rc_world.specs.Machine.{Pending, World, all_begin, begins, completion_of, taken_bytes, without, without_data, without_front}
use Rattle.rc_admit.specs.Worlds.{unreaped}
use Rattle.rc_admit.proofs.Lists.{sum_over, sum_over-append, sum_over-cut, sum_over-map, sum_over-without}

-- ---- the user data of requests and of completions

abbrev pub data_of : List Request → List ℕ
data_of rs = map (λ (r : Request). r.user_data) rs

abbrev pub data_in : List Completion → List ℕ
data_in cs = map (λ (c : Completion). c.user_data) cs

-- The front completion is that of the front request, which goes with it.
pub record FrontOf (xs : List Request) (c : Completion) (cs : List Completion) : Type 0 where
  pub request : Request
  pub others : List Request
  pub is : xs ≡ request ∷ others
  pub same : request.user_data ≡ c.user_data
  pub agree : data_of others ≡ data_in cs
  pub gone : without_data c.user_data xs ≡ others

pub front_is : (xs : List Request) (c : Completion) (cs : List Completion) → data_of xs ≡ c.user_data ∷ data_in cs → FrontOf xs c cs
front_is [] c cs e = absurd (cc)
front_is (r ∷ rs) c cs e =
    let d : r.user_data ≡ c.user_data = cc in
    record { request = r; others = rs; is = refl; same = d; agree = cc; gone = ap (λ (b : Bool). if b then rs else r ∷ without_data c.user_data rs) (eq-eqb r.user_data c.user_data d) }

-- ---- a front completion that is got

-- Its request was reaped.
abbrev pub is_reaped : Look → Bool
is_reaped Unseen = false
is_reaped Peeked = false
is_reaped Got = true

-- Where it isn't got, each completion is that of a request that isn't reaped,
pub all_unreaped : (look : Look) (cs : List Completion) → is_reaped look ≡ false → unreaped look cs ≡ cs
all_unreaped Unseen cs e = refl
all_unreaped Peeked cs e = refl
all_unreaped Got cs e = absurd (cc)

-- and the call that reaps takes its request.
pub front_goes : (look : Look) (u : ℕ) (rs : List Request) → is_reaped look ≡ false → without_front look u rs ≡ without_data u rs
front_goes Unseen u rs e = refl
front_goes Peeked u rs e = refl
front_goes Got u rs e = absurd (cc)

pub agree_more : (rs : List Request) (cs : List Completion) (r : Request) (res : ℤ) → data_of rs ≡ data_in cs → data_of (rs ++ r ∷ []) ≡ data_in (cs ++ completion_of r res ∷ [])
agree_more rs cs r res e = map-append (λ (r : Request). r.user_data) rs (r ∷ []) ∙ (ap (λ xs. xs ++ r.user_data ∷ []) e ∙ sym (map-append (λ (c : Completion). c.user_data) cs (completion_of r res ∷ [])))

-- ---- requests that begin

-- They become pending, and nothing else changes but buffers.
pub record Begun (w : World) (rs : List Request) : Type 0 where
  pub pending : List Pending
  pub buffers : List (Option (List ℕ))
  pub are : map (λ (x : Pending). x.request) pending ≡ rs
  pub is : all_begin w rs ≡ record w { pending = w.pending ++ pending; buffers = buffers }

pub begun : (w : World) (rs : List Request) → Begun w rs
begun w [] = record { pending = []; buffers = w.buffers; are = refl; is = ap (λ (ps : List Pending). record w { pending = ps }) (sym (append-nil w.pending)) }
begun w (r ∷ rs) =
    let x : Pending = record { request = r; bytes = taken_bytes w.buffers r } in
    let n = begun (begins w r) rs in
    record {
      pending = x ∷ n.pending;
      buffers = n.buffers;
      are = ap (λ qs. r ∷ qs) n.are;
      is = n.is ∙ ap (λ (ps : List Pending). record w { pending = ps; buffers = n.buffers }) (append_assoc w.pending (x ∷ []) n.pending);
    }

-- ---- sums over requests

module _ (f : Request → ℕ) where
  abbrev pub of_pending : Pending → ℕ
  of_pending x = f x.request

  -- what is summed over the requests in flight
  abbrev pub in_flight : World → ℕ
  in_flight w = sum_over f w.queued + sum_over of_pending w.pending + sum_over f w.completed

  pub taken_sum : (n : ℕ) (queued : List Request) (pending ps : List Pending) → map (λ (x : Pending). x.request) ps ≡ take n queued → sum_over f (drop n queued) + sum_over of_pending (pending ++ ps) ≡ sum_over f queued + sum_over of_pending pending
  taken_sum n queued pending ps are =
      let a : sum_over of_pending (pending ++ ps) ≡ sum_over of_pending pending + sum_over of_pending ps = sum_over-append of_pending pending ps in
      let b : sum_over f (take n queued) + sum_over f (drop n queued) ≡ sum_over f queued = sum_over-cut f n queued in
      let c : sum_over of_pending ps ≡ sum_over f (map (λ (x : Pending). x.request) ps) = sum_over-map f (λ (x : Pending). x.request) ps in
      let d : sum_over f (map (λ (x : Pending). x.request) ps) ≡ sum_over f (take n queued) = ap (sum_over f) are in
      omega arith

  pub completed_sum : (k : ℕ) (pending : List Pending) (completed : List Request) (x : Pending) → slice_get pending k ≡ Some x → sum_over of_pending (without k pending) + sum_over f (completed ++ x.request ∷ []) ≡ sum_over of_pending pending + sum_over f completed
  completed_sum k pending completed x e =
      let a : sum_over of_pending (without k pending) + f x.request ≡ sum_over of_pending pending = sum_over-without of_pending k pending x e in
      let b : sum_over f (completed ++ x.request ∷ []) ≡ sum_over f completed + (f x.request + 0) = sum_over-append f completed (x.request ∷ []) in
      omega arith
