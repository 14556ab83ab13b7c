use Rattle.rc_read.proofs.FirstFault.{has_answer, one_answer}
use Rattle.rc_read.proofs.laws.each_text_has_one_answer.Goals as goal

pub returns-clause-some : goal.returns-clause-some
returns-clause-some c = has_answer

pub returns-clause-one : goal.returns-clause-one
returns-clause-one c = one_answer
