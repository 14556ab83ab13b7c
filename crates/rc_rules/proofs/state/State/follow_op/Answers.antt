use Rattle.std.proofs.Common.{◌∙◌, sym}
use Rattle.rc_rules.proofs.Both.{computes_only}
use Rattle.rc_rules.proofs.state.State.follow_op.Goals as goal

pub returns-then-only_computes : goal.returns-then-only_computes
returns-then-only_computes c = computes_only c.args.self.now c.args.op.now (sym c.only_computes.ensures ∙ c.if-only_computes.true)
