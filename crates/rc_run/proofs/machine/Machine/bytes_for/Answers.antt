use Rattle.std.proofs.Common.{rules, ◌≡◌, ◌≤◌, None, [], length, map, sym, ap, subst, ◌∙◌}
use Rattle.std.specs.Prelude.{unwrap_or}
use Rattle.std.proofs.lemmas.List.{get_or_past, length-map}
use Rattle.std.proofs.lemmas.Option.{same_Some}
use Rattle.rc_world.specs.Machine.{bytes_of}
use Rattle.rc_world.specs.WorldParts.{view_bytes}
use Rattle.rc_run.specs.Lives.{bytes_by, bytes_for}
use Rattle.rc_run.specs.Machine.{pending_of, world_of}
use Rattle.rc_run.proofs.Completes.{view_at}
use Rattle.rc_run.proofs.machine.Machine.bytes_for.Goals as goal

pub returns-in-None : goal.returns-in-None
returns-in-None c p at =
    let m = c.args.self.now in
    let w = world_of m in
    let r = c.index-pending.result.now in
    let same = same_Some _ _ (sym (view_at m.pending.items c.args.place r c.requires c.index-pending.ensures) ∙ at) in
    let past : length m.buffers.items ≤ r.request.buffer = search rules in
    let none : bytes_of w r.request.buffer ≡ None = get_or_past (map view_bytes m.buffers.items) r.request.buffer None (subst (λ n. n ≤ r.request.buffer) (sym (length-map m.buffers.items view_bytes)) past) in
    c.new-in-None.ensures.items ∙ sym (ap (λ o. unwrap_or o []) none) ∙ sym (ap (bytes_by w (pending_of r)) c.in-Write.is) ∙ ap (bytes_for w) same
