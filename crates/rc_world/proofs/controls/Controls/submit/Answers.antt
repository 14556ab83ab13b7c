use Rattle.std.proofs.Common.{◌≡◌, FitsSigned, w32, w64, Some, rules, sym, ap, ◌∙◌}
use Rattle.std.proofs.lemmas.Int.{to_z-of_z}
use Rattle.rc_world.specs.declared.event.Action.TheVariants.{Submitted}
use Rattle.rc_world.specs.Changes.{standing_at, with_variable}
use Rattle.rc_world.specs.Controls.{made, sets_variable, submits}
use Rattle.rc_world.proofs.Threads.{sets_is}
use Rattle.rc_world.proofs.controls.Controls.submit.Goals as goal

pub returns : goal.returns
returns c =
    let old = c.args.self.now in
    let fits : FitsSigned w64 c.from.result = search rules in
    let plain : c.from.result ≡ c.in-Number.taken = search rules in
    let taken = to_z-of_z w64 c.from.result fits ∙ plain in
    let small : FitsSigned w32 c.in-Number.taken = search rules in
    let read = to_z-of_z w32 c.in-Number.taken small in
    let set = c.set.ensures ∙ ap (with_variable old c.args.thread c.args.x) taken in
    ap (λ a. made c.args.program.now old c.args.thread (submits old (standing_at old c.args.thread) c.args.x a)) c.in-Number.is
    ∙ ap (λ v. made c.args.program.now old c.args.thread (Some (sets_variable old (standing_at old c.args.thread) c.args.x c.in-Number.taken (Submitted v)))) (sym read)
    ∙ sets_is c.args.program.now old c.set.new.self c.args.thread c.args.x c.in-Number.taken _ set c.requires.exists
    ∙ c.pass.ensures
