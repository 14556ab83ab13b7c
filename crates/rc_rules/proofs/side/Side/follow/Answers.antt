use Rattle.rc_rules.proofs.Moves.{follow_free, went}
use Rattle.rc_rules.proofs.side.Side.follow.Goals as goal

pub invariant_of-self-2 : goal.invariant_of-self-2
invariant_of-self-2 c = follow_free c.self.inside.holding c.follow.new.holding c.self.inside.mode c.in_ok-self-inside.field-0 c.args.self.now c.in-Some.mode c.args.rule c.self.view_is c.in-Some.is c.self.invariant c.requires c.in_ok-self-inside.ensures.1 c.in_ok-self-inside.ensures.2

pub returns : goal.returns
returns c = went c.self.inside.holding c.follow.new.holding c.self.inside.mode c.in_ok-self-inside.field-0 c.args.self.now c.in-Some.mode c.args.rule c.self.view_is c.in-Some.is c.in_ok-self-inside.ensures.0 c.in_ok-self-inside.ensures.1 c.in_ok-self-inside.ensures.2
