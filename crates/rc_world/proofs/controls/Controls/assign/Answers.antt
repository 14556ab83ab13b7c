use Rattle.std.proofs.Common.{Some, w64, sym, ap, ◌∙◌}
use Rattle.std.proofs.lemmas.Int.{to_z-of_z}
use Rattle.rc_world.specs.declared.event.Action.TheVariants.{VariableSet}
use Rattle.rc_world.specs.Changes.{standing_at, with_variable}
use Rattle.rc_world.specs.Controls.{made, sets_variable}
use Rattle.rc_world.proofs.Threads.{sets_is}
use Rattle.rc_world.proofs.controls.Controls.assign.Goals as goal

pub returns : goal.returns
returns c =
    let old = c.args.self.now in
    let read = to_z-of_z w64 c.args.value c.ranges.value in
    let set = c.set.ensures ∙ ap (with_variable old c.args.thread c.args.x) read in
    ap (λ v. made c.args.program.now old c.args.thread (Some (sets_variable old (standing_at old c.args.thread) c.args.x c.args.value (VariableSet v)))) (sym read)
    ∙ sets_is c.args.program.now old c.set.new.self c.args.thread c.args.x c.args.value _ set c.requires.exists
    ∙ c.pass.ensures
