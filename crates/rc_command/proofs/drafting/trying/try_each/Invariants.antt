use Rattle.std.proofs.Common.{◌≡◌, take}
use Rattle.rc_command.specs.Drafting.{AreEnds, IsTried, recorded_names}
use Rattle.rc_command.proofs.drafting.trying.try_each.Given as goal

abbrev pub invariant-loop-log : goal.invariant-loop-log
invariant-loop-log g l = record {
  program : l.follower.program ≡ l.fn.follower.program;
  ends : AreEnds (IsTried (g.T.Logs.opens l.texts) l.fn.follower.program) (recorded_names (take l.log-index l.logs)) l.ends.items;
}
