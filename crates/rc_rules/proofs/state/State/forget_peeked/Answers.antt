use Rattle.rc_rules.proofs.Both.{forgot_kept}
use Rattle.rc_rules.proofs.state.State.forget_peeked.Goals as goal

pub invariant_of-self : goal.invariant_of-self
invariant_of-self c = forgot_kept c.self.inside.flag c.self.inside.zero c.self.inside.other c.forget_peeked.new.self c.forget_peeked-2.new.self c.self.invariant c.forget_peeked.ensures.label c.forget_peeked-2.ensures.label c.forget_peeked.ensures.of c.forget_peeked-2.ensures.of
