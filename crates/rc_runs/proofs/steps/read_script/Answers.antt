use Rattle.rc_read.specs.Answer.{answer_of}
use Rattle.rc_runs.proofs.Stepped.{ok_such, reads_moved}
use Rattle.rc_runs.proofs.steps.read_script.Goals as goal

pub returns-in-Moves : goal.returns-in-Moves
returns-in-Moves c =
    let moves = rw c.deref.ensures.value at c.read_moved.ensures in
    rw c.in-Moves.is (ok_such _ _ c.read_moved.result (reads_moved (answer_of c.args.text.now) c.in-Moves.moves.items) moves)
