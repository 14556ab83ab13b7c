use Rattle.std.proofs.Common.{◌∙◌, ap}
use Rattle.rc_world.specs.Controls.{next_line}
use Rattle.rc_world.specs.Machine.{World}
use Rattle.rc_follow.proofs.Added.{makes_call}
use Rattle.rc_follow.proofs.visible.make.Goals as goal

pub returns-in_ok-note : goal.returns-in_ok-note
returns-in_ok-note c is P =
    makes_call P c.args.ground.noted.now c.args.node.now c.calls.new.node c.note.new.self c.args.ground.thread c.args.ground.call c.line-line.result
    (c.in_ok-calls.ensures.calls c.if-branch.true)
    c.in_ok-calls.ensures.made
    (c.line-line.ensures ∙ ap (λ (w : World). next_line w.program w.controls c.args.ground.thread) c.world.ensures)
    c.in_ok-note.ensures
