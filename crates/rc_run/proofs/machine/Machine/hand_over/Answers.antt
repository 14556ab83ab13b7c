use Rattle.std.proofs.Common.{w32, map, take, drop, refl, ap, ◌∙◌}
use Rattle.std.proofs.lemmas.Int.{to_z-of_z}
use Rattle.rc_world.specs.Machine.{World, count_in, hands_over}
use Rattle.rc_world.specs.WorldParts.{begun_pending, view_bytes}
use Rattle.rc_world.proofs.Keeping.{handed_as}
use Rattle.rc_run.specs.Machine.{pending_of, world_of}
use Rattle.rc_run.specs.Requests.{RequestRing}
use Rattle.rc_run.proofs.machine.Machine.hand_over.Goals as goal

pub returns-clause-ok : goal.returns-clause-ok
returns-clause-ok c =
    let m = c.args.self.now in
    let n = c.count_in-count.result in
    let count = c.count_in-count.ensures ∙ ap count_in (to_z-of_z w32 c.args.taken c.ranges.taken) in
    let ps = map pending_of c.begin_all.new.pending.items in
    let bs = map view_bytes c.begin_all.new.buffers.items in
    let pending = c.begin_all.ensures.pending ∙ ap (λ xs. begun_pending (map pending_of xs) (map view_bytes m.buffers.items) (take n m.ring.queued)) c.reserve.ensures.items in
    let with : RequestRing → World = λ r. record (world_of m) { slot = r.slot; queued = r.queued; pending = ps; completions = r.completions; made = r.made; buffers = bs } in
    ap with c.hand_over.ensures
    ∙ handed_as (world_of m) n (drop n m.ring.queued) ps bs refl pending c.begin_all.ensures.buffers
    ∙ ap (hands_over (world_of m)) count
