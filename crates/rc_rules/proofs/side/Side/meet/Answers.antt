use Rattle.rc_split.specs.Holdings.{bag}
use Rattle.rc_rules.proofs.Meets.{both_free, joined}
use Rattle.rc_rules.proofs.Moves.{mode_free}
use Rattle.rc_rules.proofs.side.Side.meet.Goals as goal

pub invariant_of-self : goal.invariant_of-self
invariant_of-self c =
    let s = c.self.inside in
    both_free s.holding.program c.meet.new.self.program (bag s.holding) (bag c.other.inside.holding) (bag c.meet.new.self) c.in-Some-mode.mine c.in-Some.theirs c.both.result (mode_free s.holding s.mode c.in-Some-mode.mine c.in-Some-mode.is c.self.invariant) c.meet.ensures.of c.meet.ensures.each c.both.ensures

pub returns-clause-strongest : goal.returns-clause-strongest
returns-clause-strongest c = joined c.self.inside.holding c.other.inside.holding c.meet.new.self c.self.inside.mode c.other.inside.mode c.args.self.now c.args.other.now c.in-Some-mode.mine c.in-Some.theirs c.both.result c.self.view_is c.other.view_is c.in-Some-mode.is c.in-Some.is c.requires.slot c.requires.lock c.meet.ensures.each c.both.ensures
