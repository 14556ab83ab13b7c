use Rattle.rc_verify.proofs.Peeking.{lost}
use Rattle.rc_verify.proofs.arms.peek_into.Goals as goal

pub returns-then-eq : goal.returns-then-eq
returns-then-eq c = lost c.args.state.now c.flag_lost.new.self c.args.variable (cc (c.if-eq.true, c.eq.ensures, c.flag.ensures)) c.flag_lost.ensures
