use Rattle.std.proofs.Common.{rules}
use Rattle.rc_world.proofs.Pieces.{place_of_thread}
use Rattle.rc_world.proofs.schedule.thread_named.Goals as goal

pub returns-in_err-place : goal.returns-in_err-place
returns-in_err-place c =
    let e = place_of_thread c.threads.result.now c.args.program.now.threads c.args.name.now c.threads.ensures.value in
    let k = c.in_err-place.ensures.value in
    search rules

pub returns : goal.returns
returns c =
    let e = place_of_thread c.threads.result.now c.args.program.now.threads c.args.name.now c.threads.ensures.value in
    let k = c.in_ok-place.ensures.value in
    search rules
