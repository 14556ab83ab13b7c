use Rattle.rc_lang.proofs.Views.{is_thread}
use Rattle.rc_rules.proofs.Headers.{thread_at}
use Rattle.rc_rules.proofs.state.header.Goals as goal

pub returns-clause-made : goal.returns-clause-made
returns-clause-made c = (is_thread c.args.program.now c.args.thread _ c.threads.ensures.made (thread_at c.args.program.now c.threads.result.now c.args.thread c.index-threads-thread.result c.threads.ensures.value c.requires)).items
