use Rattle.std.proofs.Common.{ℕ, List, Option, subst}
use Rattle.rc_command.specs.Logs.{Stops}
use Rattle.rc_command.proofs.Under.{said_rightly}
use Rattle.rc_command.proofs.departures.following.follow_log.Goals as goal

pub returns-clause-reached : goal.returns-clause-reached
returns-clause-reached g c =
    let left = c.follow_lines.new.follower in
    let stops = subst (λ (bytes : Option (List ℕ)). Stops c.args.follower.now bytes left c.in_ok-ending.ending) c.in_ok-log.ensures c.in_ok-ending.ensures.stops in
    let said = said_rightly c.args.follower.now (g.R.Read.remaining c.args.reader) left c.in_ok-ending.ending c.in_ok-ending-2.ending stops c.in_ok-ending-2.ensures in
    (left, said.0, said.1, c.end.ensures)
