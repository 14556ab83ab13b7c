use Rattle.rc_lang.specs.Parts.{view_thread}
use Rattle.rc_verify.proofs.Beginning.{reaches_seen, thread_is}
use Rattle.rc_verify.proofs.labels.Labels.new.Goals as goal

pub invariant_of-result : goal.invariant_of-result
invariant_of-result c =
    let is = thread_is c.args.program.now c.threads.result.now c.args.thread c.index-threads-thread.result c.threads.ensures.value c.requires c.index-threads-thread.is in
    reaches_seen c.view.result c.args.program.now c.args.thread (view_thread c.index-threads-thread.result) 0 c.new.result c.view.ensures.program c.view.ensures.thread (c.new.ensures _ is)

pub returns-clause-thread : goal.returns-clause-thread
returns-clause-thread c = thread_is c.args.program.now c.threads.result.now c.args.thread c.index-threads-thread.result c.threads.ensures.value c.requires c.index-threads-thread.is
