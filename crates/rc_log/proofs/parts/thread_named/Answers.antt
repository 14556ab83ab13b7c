use Rattle.std.proofs.Common.{rules}
use Rattle.rc_log.proofs.Lists.{place_of_thread}
use Rattle.rc_log.proofs.parts.thread_named.Goals as goal

pub returns-in_err-place-clause-value : goal.returns-in_err-place-clause-value
returns-in_err-place-clause-value c =
    let e = place_of_thread c.threads.result.now c.args.program.now.threads c.args.name.now c.threads.ensures.value in
    let k = c.in_err-place.ensures.value in
    search rules

pub returns-clause-value : goal.returns-clause-value
returns-clause-value c =
    let e = place_of_thread c.threads.result.now c.args.program.now.threads c.args.name.now c.threads.ensures.value in
    let k = c.in_ok-place.ensures.value in
    search rules
