use Rattle.std.proofs.Common.{◌≡◌, ◌≤◌, length, refl, sym, ap, ◌∙◌, arith}
use Rattle.std.proofs.lemmas.List.{length-map}
use Rattle.rc_lang.specs.Parts.{view_thread}
use Rattle.rc_world.specs.Harm.{line_of}
use Rattle.rc_world.specs.Machine.{World}
use Rattle.rc_world.proofs.Harmless.{harmless_all, harmless_at, harmless_more}
use Rattle.rc_world.proofs.world.World.has_harmful_thread.Goals as goal

pub loop-thread-preserved : goal.loop-thread-preserved
loop-thread-preserved c =
    let w = c.args.self.now in
    let i = c.loop-thread.thread in
    harmless_more w i c.loop-thread.invariant (harmless_at w i (line_of w i) refl (sym c.harms_next.ensures ∙ c.if-harms_next.false))

pub returns : goal.returns
returns c =
    let count : length c.threads-part-items.result.now ≡ length c.args.self.now.program.threads =
    sym (length-map c.threads-part-items.result.now view_thread) ∙ ap length c.threads-part-items.ensures.value ∙ ap (λ (w : World). length w.program.threads) c.self.view_is in
    let le : length c.args.self.now.program.threads ≤ c.loop-thread.thread = omega arith in
    harmless_all c.args.self.now c.loop-thread.thread le c.loop-thread.invariant
