use Rattle.std.proofs.Common.{◌≡◌, None}
use Rattle.rc_log.specs.Waiting.{left}
use Rattle.rc_command.specs.Logs.{Under}
use Rattle.rc_command.proofs.departures.following.follow_lines.Given as goal

abbrev pub invariant-loop-number : goal.invariant-loop-number
invariant-loop-number g l = record {
  program : l.follower.program ≡ l.fn.follower.program;
  under : Under l.fn.follower (left g.R.Read.remaining l.fn.log) (left g.R.Read.remaining l.log) l.follower None;
}
