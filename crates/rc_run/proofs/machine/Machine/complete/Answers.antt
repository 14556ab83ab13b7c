use Rattle.std.proofs.Common.{◌++◌, ◌∷◌, [], map, w32, ℤ, Some, refl, sym, ap, ◌∙◌}
use Rattle.std.proofs.lemmas.Int.{to_z-of_z}
use Rattle.rc_world.specs.declared.event.Event.TheVariants.{ByKernel}
use Rattle.rc_world.specs.Machine.{World, completion_of}
use Rattle.rc_world.specs.WorldParts.{view_bytes}
use Rattle.rc_world.proofs.Lists.{map_without}
use Rattle.rc_world.proofs.Removing.{asks_buffer, asks_bytes}
use Rattle.rc_run.specs.Machine.{pending_of, world_of}
use Rattle.rc_run.specs.Requests.{RequestRing}
use Rattle.rc_run.proofs.Completes.{asks_count, brought_enough, completed_so, enough, there, view_at}
use Rattle.rc_run.proofs.machine.Machine.complete.Goals as goal

pub give_back-requires : goal.give_back-requires
give_back-requires c =
    let m = c.args.self.now in
    let w = world_of m in
    let r = c.remove-kept.result in
    let p = pending_of r in
    let here = view_at m.pending.items c.args.place r c.requires.place c.remove-kept.ensures.value in
    record {
      there = asks_buffer r.bytes r.request.buffer m.buffers.items (there w c.requires.kept c.args.place c.args.res c.args.bytes.now p here c.requires.step);
      enough = asks_bytes r.bytes r.request.len r.request.len refl (enough w c.requires.kept c.args.place c.args.res c.args.bytes.now p here c.requires.step);
      brought = asks_count r.bytes r.request.len c.args.bytes.now (brought_enough w c.requires.kept c.args.place c.args.res c.args.bytes.now p here c.requires.step (c.requires.enough p here));
    }

pub returns-clause-step : goal.returns-clause-step
returns-clause-step c =
    let m = c.args.self.now in
    let p = c.remove-kept.result in
    let lt = c.requires.place in
    let here = view_at m.pending.items c.args.place p lt c.remove-kept.ensures.value in
    let read = to_z-of_z w32 c.args.res c.ranges.res in
    let pending = ap (map pending_of) c.remove-kept.ensures.items ∙ map_without pending_of c.args.place m.pending.items in
    let bs = map view_bytes c.give_back.new.buffers.items in
    let with : RequestRing → World = λ r. record (world_of m) { slot = r.slot; queued = r.queued; pending = map pending_of c.remove-kept.new.self.items; completed = c.push_reserved.new.self.items; completions = r.completions; made = r.made; buffers = bs } in
    let ring = ap with (c.post.ensures ∙ ap (λ (z : ℤ). record m.ring { completions = m.ring.completions ++ record { user_data = p.request.user_data; res = z } ∷ [] }) read) in
    completed_so (world_of m) c.requires.kept c.args.place c.args.res c.args.bytes.now (pending_of p) here c.requires.step
    (map pending_of c.remove-kept.new.self.items) c.push_reserved.new.self.items (m.ring.completions ++ completion_of p.request c.args.res ∷ []) bs pending c.push_reserved.ensures.items refl c.give_back.ensures
    ∙ ap (λ v. Some (ByKernel (completion_of p.request c.args.res), v)) (sym ring)
    ∙ ap (λ (z : ℤ). Some (ByKernel (record { user_data = p.request.user_data; res = z }), with c.post.new.self)) (sym read)
