use Rattle.std.proofs.Common.{ℤ, w32, Some, IsSome, ap, sym, subst, ◌∙◌}
use Rattle.std.proofs.lemmas.Int.{to_z-of_z}
use Rattle.rc_world.specs.Changes.{standing_at}
use Rattle.rc_world.specs.Machine.{in_rings, stmt_answer}
use Rattle.rc_world.proofs.WorldSteps.{at_line, small_here, step_done, step_ready, step_some}
use Rattle.rc_run.specs.declared.machine.Machine.{Machine}
use Rattle.rc_run.specs.Machine.{world_of}
use Rattle.rc_run.proofs.machine.Machine.step.Goals as goal

pub rings-requires-clause-exists : goal.rings-requires-clause-exists
rings-requires-clause-exists c = let w = world_of c.args.self.now in (at_line w.program w.controls c.args.thread c.args.line c.requires.line).exists

pub rings-requires-clause-small : goal.rings-requires-clause-small
rings-requires-clause-small c = small_here (world_of c.args.self.now) c.requires.kept c.args.thread c.args.given c.args.line c.requires.line

pub rings-requires-clause-step : goal.rings-requires-clause-step
rings-requires-clause-step c =
    let w = world_of c.args.self.now in
    subst (λ (z : ℤ). IsSome (in_rings w (standing_at w.controls c.args.thread) z c.args.line.stmt)) (sym (to_z-of_z w32 c.args.given c.ranges.given))
    (step_some w c.requires.kept c.args.thread c.args.given c.args.line c.requires.line c.requires.step).0

pub advance-requires : goal.advance-requires
advance-requires c =
    let w = world_of c.args.self.now in
    let l = c.args.line in
    let read = to_z-of_z w32 c.args.given c.ranges.given in
    let rings = ap (λ z. in_rings w (standing_at w.controls c.args.thread) z l.stmt) (sym read) ∙ c.in_ok-rings.ensures.ok in
    let answer = c.answer-answer.ensures ∙ ap (λ z. stmt_answer w z l.stmt) read in
    step_ready w c.requires.kept c.args.thread c.args.given l c.requires.line (world_of c.rings.new.self) rings c.answer-answer.result answer c.requires.step

pub returns-clause-ok : goal.returns-clause-ok
returns-clause-ok c =
    let w = world_of c.args.self.now in
    let l = c.args.line in
    let read = to_z-of_z w32 c.args.given c.ranges.given in
    let rings = ap (λ z. in_rings w (standing_at w.controls c.args.thread) z l.stmt) (sym read) ∙ c.in_ok-rings.ensures.ok in
    let answer = c.answer-answer.ensures ∙ ap (λ z. stmt_answer w z l.stmt) read in
    step_done w c.requires.kept c.args.thread c.args.given l c.requires.line (world_of c.rings.new.self) rings c.answer-answer.result answer c.advance.result c.advance.new.self.controls c.advance.ensures.step
    ∙ ap (λ (m : Machine). Some (c.advance.result, world_of m)) (sym c.advance.ensures.rest)
