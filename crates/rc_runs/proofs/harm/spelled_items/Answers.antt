use Rattle.rc_runs.proofs.Shown.{spelled}
use Rattle.rc_runs.proofs.harm.spelled_items.Goals as goal

pub returns-in_ok-spelled-in-Ok : goal.returns-in_ok-spelled-in-Ok
returns-in_ok-spelled-in-Ok c =
    let read = rw c.deref.ensures.value at c.in_ok-spelled-in-Ok.ensures in
    spelled c.args.program.now c.args.moves.now c.in-Ok.moves.items c.in_ok-spelled-in-Ok.spelled.items.items c.in-Ok.ensures read.items
