use Rattle.std.proofs.Common.{◌∙◌, ap, arith}
use Rattle.rc_rules.specs.States.{State}
use Rattle.rc_rules.specs.States.{label_of, sides_of}
use Rattle.rc_follow.proofs.Held.{le_held, strongest_here}
use Rattle.rc_follow.proofs.rights.shares_at.Goals as goal

pub returns : goal.returns
returns c = (
  c.loop-step.labels.thread,
  c.loop-step.invariant.thread,
  (
    sides_of c.loop-step.labels.state,
    strongest_here c.args.program.now c.args.spot.thread c.loop-step.labels c.args.spot.place c.loop-step.invariant.program c.loop-step.invariant.number (omega arith) c.state.ensures.strongest,
    le_held c.loop-step.labels.state c.args.spot.zero _ c.shares.result c.args.spot.buffer (c.on.ensures.label ∙ ap (λ (s : State). label_of s c.args.spot.zero) c.state.ensures.value) c.shares.ensures,
  ),
)
