use Rattle.std.proofs.Common.{◌≡◌, rules, subst}
use Rattle.rc_lang.specs.declared.lines.Op.TheVariants.{Load}
use Rattle.rc_lang.specs.declared.lines.Stmt.TheVariants.{Do}
use Rattle.rc_world.specs.Changes.{StandsAt}
use Rattle.rc_world.proofs.Jumps.{if_below, op_small}
use Rattle.rc_world.proofs.controls.Controls.go_astray.Goals as goal

pub branch-self-requires-clause-end : goal.branch-self-requires-clause-end
branch-self-requires-clause-end c = (if_below _ _ _ _ _ (subst (StandsAt c.args.program.now c.args.self.now c.args.thread c.args.place) c.in-If-Take.is c.requires.here)).few

pub load-requires-clause-variable : goal.load-requires-clause-variable
load-requires-clause-variable c =
    let load : c.args.stmt ≡ Do (Load c.in-Do-Load.x c.in-Do-Load.field-0-1 c.in-Do-Load.field-0-2) = search rules in
    op_small _ _ _ _ _ (subst (StandsAt c.args.program.now c.args.self.now c.args.thread c.args.place) load c.requires.here)
