use Rattle.std.proofs.Common.{◌≡◌, ap, arith, get_or}
use Rattle.rc_lang.specs.Views.{seen}
use Rattle.rc_split.proofs.Given.{first_few, kept_with, next_few}
use Rattle.rc_split.proofs.begun.credits_of_threads.Goals as goal

pub overflow_add-given : goal.overflow_add-given
overflow_add-given c =
    let threads = c.threads-threads.result.now in
    let thread = c.thread-item.result in
    let here : kept_with thread ≡ kept_with (get_or threads c.loop-thread.thread-index thread) = ap kept_with c.thread-item.is in
    let few = next_few (seen c.args.view) c.requires threads c.threads-threads.ensures c.loop-thread.thread-index thread c.loop-thread-test.true in
    omega (arith, c.loop-thread.invariant, here, few)

pub returns-clause-few : goal.returns-clause-few
returns-clause-few c = omega (arith, c.loop-thread.invariant, first_few (seen c.args.view) c.requires c.threads-threads.result.now c.threads-threads.ensures c.loop-thread.thread-index)
