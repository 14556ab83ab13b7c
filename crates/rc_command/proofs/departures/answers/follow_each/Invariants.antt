use Rattle.std.proofs.Common.{◌≡◌, ℕ, List, take}
use Rattle.std.specs.Borrow.{Bor}
use Rattle.rc_console.specs.Files.{Said, together}
use Rattle.rc_command.specs.Following.{SaysLog, SaysLogs, said_of}
use Rattle.rc_command.proofs.departures.answers.follow_each.Given as goal

abbrev pub invariant-loop-name : goal.invariant-loop-name
invariant-loop-name g l = record {
  program : l.follower.program ≡ l.fn.follower.program;
  says : (each : List Said) × SaysLogs (λ (name : Bor (List ℕ)). SaysLog (g.T.Logs.opens l.texts) l.asked.json name.now) (take l.name-index l.asked.logs.items) l.initial.follower l.follower each
      × (said_of l.answer ≡ together each);
}
