use Rattle.std.proofs.Common.{ℕ, Some, map, replicate, sym, ap, subst, ◌∙◌}
use Rattle.rc_lang.specs.Program.{Buffer}
use Rattle.rc_world.specs.Faults.{clashes}
use Rattle.rc_world.specs.Kept.{IsKept}
use Rattle.rc_world.specs.WorldParts.{view_pending}
use Rattle.rc_world.proofs.Starting.{kept_start, started, zeroes}
use Rattle.rc_world.proofs.world.World.start.Goals as goal

pub invariant_of-result : goal.invariant_of-result
invariant_of-result c =
    let none = ap (map view_pending) c.new-2.ensures.items in
    let buffers = c.in_ok-zeroed.ensures ∙ zeroes c.buffers.result.now ∙ ap (map (λ (b : Buffer). Some (replicate {A = ℕ} b.bytes 0))) c.buffers.ensures.value in
    let e = started c.args.program.now c.in_ok-start.field-0 _ _ _ _ _ c.in_ok-start.ensures.start c.new.ensures.items none c.new-3.ensures.items c.new-4.ensures.items buffers in
    (subst IsKept (sym e) (kept_start c.args.program.now c.buffers.ensures.made), sym (ap clashes none))

pub returns : goal.returns
returns c =
    let none = ap (map view_pending) c.new-2.ensures.items in
    let buffers = c.in_ok-zeroed.ensures ∙ zeroes c.buffers.result.now ∙ ap (map (λ (b : Buffer). Some (replicate {A = ℕ} b.bytes 0))) c.buffers.ensures.value in
    started c.args.program.now c.in_ok-start.field-0 _ _ _ _ _ c.in_ok-start.ensures.start c.new.ensures.items none c.new-3.ensures.items c.new-4.ensures.items buffers
