use Rattle.rc_rules.specs.Causes.{premise_number}
use Rattle.rc_verify.proofs.Threads.{header_refused}
use Rattle.rc_verify.proofs.verify.judge_thread.Goals as goal

pub returns-in-Err-clause-judged : goal.returns-in-Err-clause-judged
returns-in-Err-clause-judged c = λ t e. header_refused c.args.program.now c.threads.result.now c.args.thread (premise_number c.in-Err.cause) c.index-threads-thread.result t c.threads.ensures.value c.requires.there e c.in-Err.ensures.tests
