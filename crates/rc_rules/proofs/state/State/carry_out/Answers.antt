use Rattle.rc_rules.proofs.Both.{carried_kept}
use Rattle.rc_rules.proofs.state.State.carry_out.Goals as goal

pub invariant_of-self : goal.invariant_of-self
invariant_of-self c = carried_kept c.args.releases c.self.inside.flag c.self.inside.zero c.self.inside.other c.carry_out.new.self c.carry_out-2.new.self c.self.invariant c.carry_out.ensures.label c.carry_out-2.ensures.label c.carry_out.ensures.of c.carry_out-2.ensures.of
