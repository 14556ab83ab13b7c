use Rattle.std.proofs.Common.{rules, ◌≡◌, true, None, if◌then◌else◌, map, slice_set, sym, ap, ◌∙◌}
use Rattle.std.proofs.lemmas.List.{map-set}
use Rattle.rc_world.specs.Machine as machine
use Rattle.rc_world.specs.WorldParts.{view_bytes}
use Rattle.rc_run.proofs.machine.rings.taken_bytes.Goals as goal

pub returns-in-Some-clause-buffers : goal.returns-in-Some-clause-buffers
returns-in-Some-clause-buffers c =
    let old = map view_bytes c.args.buffers.now.items in
    let e : machine.is_read c.args.request.kind ≡ true = search rules in
    map-set view_bytes c.args.buffers.now.items c.args.request.buffer c.take.new.self
    ∙ ap (λ b. slice_set old c.args.request.buffer (view_bytes b)) c.take.ensures.after
    ∙ sym (ap (λ b. if b then slice_set old c.args.request.buffer None else old) e)
