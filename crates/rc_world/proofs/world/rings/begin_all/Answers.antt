use Rattle.std.specs.Result.{is_ok}
use Rattle.std.proofs.Common.{◌+◌, ◌<◌, ◌++◌, ◌∷◌, [], ◌||◌, if◌then◌else◌, get_or, length, pos, vec_len, sym, ap, ◌∙◌}
use Rattle.std.specs.List.{list_any}
use Rattle.rc_world.specs.declared.world.Pending.{Pending as PendingPart}
use Rattle.rc_lang.specs.declared.request.Kind.TheVariants.{Nop}
use Rattle.rc_world.specs.Faults.{clash}
use Rattle.rc_world.specs.Machine.{new_request}
use Rattle.rc_world.proofs.Beginning.{begun_more}
use Rattle.rc_world.proofs.world.rings.begin_all.Goals as goal
use Rattle.rc_world.proofs.world.rings.begin_all.Goals.{then-has_clash, else-has_clash}

pub loop-request-preserved : goal.loop-request-preserved
loop-request-preserved c =
    let lt : c.loop-request.request-index < length c.args.requests.now = c.loop-request-test.true in
    let r = get_or c.args.requests.now c.loop-request.request-index (new_request Nop (pos 0) 0 0 0) in
    let items = c.push.ensures.items ∙ ap (λ x. if is_ok x then c.loop-request.pending.items ++ record { request = r; bytes = c.taken_bytes-bytes.result } ∷ [] else c.loop-request.pending.items) c.unwrap.ensures in
    let len = c.push.ensures.len ∙ ap (λ x. if is_ok x then vec_len c.loop-request.pending + 1 else vec_len c.loop-request.pending) c.unwrap.ensures in
    let more = begun_more _ _ _ _ _ _ _ c.loop-request.invariant _ lt c.push.new.self c.taken_bytes-bytes.new.buffers c.if-has_clash.has_clash c.taken_bytes-bytes.result items c.taken_bytes-bytes.ensures.bytes c.taken_bytes-bytes.ensures.buffers in
    elim c.if-has_clash.branch [
      | then-has_clash w ↦ more (w.has_clash-is ∙ w.if-has_clash.true ∙ sym (ap (λ x. x || list_any (λ (p : PendingPart). clash r p.request) c.loop-request.pending.items) w.if-has_clash.true)) len c.push.ensures.capacity
      | else-has_clash w ↦
          more
          (w.has_clash-is ∙ w.clashes_with-has_clash.ensures ∙ ap (λ xs. list_any (λ (p : PendingPart). clash r p.request) xs) w.deref.ensures.value
          ∙ sym (ap (λ x. x || list_any (λ (p : PendingPart). clash r p.request) c.loop-request.pending.items) w.if-has_clash.false))
          len c.push.ensures.capacity
    ]
