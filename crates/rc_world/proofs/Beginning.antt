-- Requests become pending one after another.
use Rattle.std.proofs.Common.{◌≡◌, ℕ, ◌+◌, ◌-◌, ◌<◌, ◌≤◌, Bool, ◌||◌, List, [], ◌∷◌, ◌++◌, drop, get_or, length, map, Option, sym, ap, ◌∙◌, arith, vec_len}
use Rattle.std.specs.Global.{Vec}
use Rattle.std.specs.List.{list_any}
use Rattle.std.specs.Vec.{vec_capacity}
use Rattle.std.proofs.lemmas.List.{drop_more, map-append}
use Rattle.rc_lang.specs.declared.request.Request.{Request}
use Rattle.rc_world.specs.declared.world.Pending.{Pending as PendingPart}
use Rattle.rc_world.specs.Faults.{clash, clashes}
use Rattle.rc_world.specs.Machine.{Pending, taken_bytes, without_taken}
use Rattle.rc_world.proofs.Lists.{any_map}
use Rattle.rc_world.proofs.Memory.{clashes_push}
use Rattle.rc_world.specs.WorldParts.{begun_buffers, begun_pending, view_pending}

-- The first n of the requests are pending.
pub record IsBegun (old : Vec PendingPart) (before : Vec (Option (List ℕ))) (requests : List Request) (n : ℕ) (pending : Vec PendingPart) (buffers : Vec (Option (List ℕ))) (has_clash : Bool) : Type 0 where
  pub lists : begun_pending (map view_pending pending.items) buffers.items (drop n requests) ≡ begun_pending (map view_pending old.items) before.items requests
  pub left : begun_buffers buffers.items (drop n requests) ≡ begun_buffers before.items requests
  pub clash : has_clash ≡ clashes (map view_pending pending.items)
  pub room : vec_len pending + (length requests - n) ≤ vec_capacity pending

-- The next one, which is r, becomes pending too.
module _ (old : Vec PendingPart) (before : Vec (Option (List ℕ))) (requests : List Request) (n : ℕ) (pending : Vec PendingPart) (buffers : Vec (Option (List ℕ))) (has_clash : Bool) (b : IsBegun old before requests n pending buffers has_clash)
    (d : Request) (lt : n < length requests) (next : Vec PendingPart) (left : Vec (Option (List ℕ))) (clashed : Bool) (bytes : Option (List ℕ)) where
  pub begun_more : next.items ≡ pending.items ++ record { request = get_or requests n d; bytes = bytes } ∷ [] → bytes ≡ taken_bytes buffers.items (get_or requests n d)
      → left.items ≡ without_taken buffers.items (get_or requests n d)
      → clashed ≡ (has_clash || list_any (λ (p : PendingPart). clash (get_or requests n d) p.request) pending.items)
      → vec_len next ≡ vec_len pending + 1 → vec_capacity pending ≤ vec_capacity next → IsBegun old before requests (n + 1) next left clashed
  begun_more items taken gone c len cap =
      let rest : drop n requests ≡ get_or requests n d ∷ drop (n + 1) requests = drop_more requests n d lt in
      let viewed : map view_pending next.items ≡ map view_pending pending.items ++ record { request = get_or requests n d; bytes = taken_bytes buffers.items (get_or requests n d) } ∷ [] =
      ap (map view_pending) items ∙ map-append view_pending pending.items (record { request = get_or requests n d; bytes = bytes } ∷ [])
      ∙ ap (λ (x : Option (List ℕ)). map view_pending pending.items ++ record { request = get_or requests n d; bytes = x } ∷ []) taken in
      let room : vec_len pending + (length requests - n) ≤ vec_capacity pending = b.room in
      record {
        lists =
            ap (λ ps. begun_pending ps left.items (drop (n + 1) requests)) viewed
            ∙ ap (λ bs. begun_pending (map view_pending pending.items ++ record { request = get_or requests n d; bytes = taken_bytes buffers.items (get_or requests n d) } ∷ []) bs (drop (n + 1) requests)) gone
            ∙ sym (ap (begun_pending (map view_pending pending.items) buffers.items) rest)
            ∙ b.lists;
        left = ap (λ bs. begun_buffers bs (drop (n + 1) requests)) gone ∙ sym (ap (begun_buffers buffers.items) rest) ∙ b.left;
        clash =
            c ∙ ap (λ x. x || list_any (λ (p : PendingPart). clash (get_or requests n d) p.request) pending.items) b.clash
            ∙ ap (λ x. clashes (map view_pending pending.items) || x) (sym (any_map view_pending (λ (p : Pending). clash (get_or requests n d) p.request) pending.items))
            ∙ sym (clashes_push (map view_pending pending.items) (record { request = get_or requests n d; bytes = taken_bytes buffers.items (get_or requests n d) }))
            ∙ sym (ap clashes viewed);
        room = omega arith;
      }
