use Rattle.std.proofs.Common.{◌≡◌, ◌<◌, Some, length, slice_get, subst, sym}
use Rattle.rc_lang.specs.Parts.{view_thread}
use Rattle.rc_verify.specs.Labels.{Labels}
use Rattle.rc_verify.proofs.Beginning.{reaches_seen, thread_is}
use Rattle.rc_verify.proofs.labels.Labels.begin.Goals as goal

pub begin-requires-clause-made : goal.begin-requires-clause-made
begin-requires-clause-made c = c.threads.ensures.made

pub invariant_of-self : goal.invariant_of-self
invariant_of-self c =
    let P = c.self.inside.view.program.now in
    let is = thread_is P c.threads.result.now c.args.thread c.index-threads-thread.result c.threads.ensures.value (subst (λ (v : Labels). c.args.thread < length v.program.threads) (sym c.self.view_is) c.requires) c.index-threads-thread.is in
    reaches_seen c.view-self-inside.result P c.args.thread (view_thread c.index-threads-thread.result) 0 c.begin.new.self c.view-self-inside.ensures.program c.view-self-inside.ensures.thread (c.begin.ensures _ is)

pub returns-clause-thread : goal.returns-clause-thread
returns-clause-thread c = subst (λ (v : Labels). slice_get v.program.threads c.args.thread ≡ Some (view_thread c.index-threads-thread.result)) c.self.view_is (thread_is c.self.inside.view.program.now c.threads.result.now c.args.thread c.index-threads-thread.result c.threads.ensures.value (subst (λ (v : Labels). c.args.thread < length v.program.threads) (sym c.self.view_is) c.requires) c.index-threads-thread.is)
