use Rattle.rc_verify.proofs.Beginning.{starts}
use Rattle.rc_verify.proofs.walk.Walk.new.Goals as goal

pub returns : goal.returns
returns c = λ t is. starts c.args.program.now c.args.thread t c.first.result c.new.result c.new-2.result c.none.result c.requires.made is c.first.ensures c.new.ensures c.new-2.ensures c.none.ensures
