use Rattle.std.proofs.Common.{ap, ◌∙◌}
use Rattle.rc_rules.specs.Causes.{premise_number}
use Rattle.rc_verify.specs.Labels.{Labels}
use Rattle.rc_verify.proofs.Beginning.{thread_is}
use Rattle.rc_verify.proofs.Told.{all_labelled, goes_end, line_refused, named}
use Rattle.rc_verify.proofs.verify.walk_thread.Goals as goal

pub returns-in-Ok-false-clause-walked : goal.returns-in-Ok-false-clause-walked
returns-in-Ok-false-clause-walked c = λ t that.
    let is = thread_is c.args.program.now c.threads.result.now c.args.thread c.index-threads-thread.result c.threads.ensures.value c.requires.there c.index-threads-thread.is in
    all_labelled c.args.program.now c.args.thread _ t c.loop-cause.labels is that (named c.args.program.now c.args.thread c.loop-cause.labels c.loop-cause.invariant.0 c.loop-cause.invariant.1) c.loop-cause.invariant.2 (goes_end _ _ c.in-Ok-false.field-0 c.in-Ok-false.field-0-test c.in-Ok-false.ensures.goes)

pub returns-in-Err-clause-walked : goal.returns-in-Err-clause-walked
returns-in-Err-clause-walked c = λ t that.
    let is = thread_is c.args.program.now c.threads.result.now c.args.thread c.index-threads-thread.result c.threads.ensures.value c.requires.there c.index-threads-thread.is in
    line_refused c.args.program.now c.args.thread c.place.result (premise_number c.in-Err.cause) _ t c.loop-cause.labels c.index.result.now is that (named c.args.program.now c.args.thread c.loop-cause.labels c.loop-cause.invariant.0 c.loop-cause.invariant.1) c.loop-cause.invariant.2 (c.place.ensures ∙ ap (λ (v : Labels). v.place) c.in-Err.ensures.goes.0) c.index.ensures c.in-Err.ensures.goes.1
