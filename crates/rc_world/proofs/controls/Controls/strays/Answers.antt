use Rattle.std.proofs.Common.{sym, ◌∙◌}
use Rattle.rc_world.specs.Changes.{standing_at}
use Rattle.rc_world.proofs.Straying.{no_stray, some_stray}
use Rattle.rc_world.proofs.controls.Controls.strays.Goals as goal

pub returns-in-Some : goal.returns-in-Some
returns-in-Some c =
    let P = c.args.program.now in
    let old = c.args.self.now in
    c.may_stray.ensures P old c.args.thread 0 (standing_at old c.args.thread) ∙ sym (some_stray P old c.args.thread 0 c.in-Some.line (sym c.line.ensures.value ∙ c.in-Some.is))

pub returns-in-None : goal.returns-in-None
returns-in-None c = sym (no_stray c.args.program.now c.args.self.now c.args.thread 0 (sym c.line.ensures.value ∙ c.in-None.is))
