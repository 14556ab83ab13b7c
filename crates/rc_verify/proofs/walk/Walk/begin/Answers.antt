use Rattle.rc_verify.proofs.Beginning.{starts}
use Rattle.rc_verify.proofs.walk.Walk.begin.Goals as goal

pub returns : goal.returns
returns c = λ t is. starts c.args.program.now c.args.thread t c.first-self.result c.clear.new.self c.clear-2.new.self c.close.new.self c.requires.made is c.first-self.ensures c.clear.ensures c.clear-2.ensures c.close.ensures
