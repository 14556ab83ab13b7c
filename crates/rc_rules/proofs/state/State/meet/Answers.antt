use Rattle.std.proofs.Common.{true, false}
use Rattle.rc_rules.proofs.Both.{locks, met_kept, others_agree}
use Rattle.rc_rules.proofs.state.State.meet.Goals as goal

pub meet-requires-clause-lock : goal.meet-requires-clause-lock
meet-requires-clause-lock c = locks c.args.self.now c.args.other.now c.self.inside.flag c.other.inside.flag c.self.inside.zero c.self.inside.other c.other.inside.zero c.other.inside.other c.self.view_is c.other.view_is c.requires.alike true true

pub meet-requires-2-clause-lock : goal.meet-requires-2-clause-lock
meet-requires-2-clause-lock c = locks c.args.self.now c.args.other.now c.self.inside.flag c.other.inside.flag c.self.inside.zero c.self.inside.other c.other.inside.zero c.other.inside.other c.self.view_is c.other.view_is c.requires.alike false false

pub meet-requires-2-clause-slot : goal.meet-requires-2-clause-slot
meet-requires-2-clause-slot c = others_agree c.args.self.now c.args.other.now c.self.inside.flag c.other.inside.flag c.self.inside.zero c.self.inside.other c.other.inside.zero c.other.inside.other c.self.view_is c.other.view_is c.in_ok-may_meet.ensures.0

pub invariant_of-self : goal.invariant_of-self
invariant_of-self c = met_kept c.args.self.now c.args.other.now c.self.inside.flag c.other.inside.flag c.self.inside.zero c.self.inside.other c.other.inside.zero c.other.inside.other c.meet.new.self c.meet-2.new.self c.self.view_is c.other.view_is c.self.invariant c.other.invariant c.requires.alike c.in_ok-may_meet.ensures.0 c.meet.ensures.strongest c.meet-2.ensures.strongest c.meet.ensures.of c.meet-2.ensures.of
