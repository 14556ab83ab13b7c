use Rattle.std.proofs.Common.{Ok, subst}
use Rattle.rc_log.specs.declared.reader.Next.{Next}
use Rattle.rc_log.specs.Lines.{Gives}
use Rattle.rc_log.specs.Waiting.{given, left}
use Rattle.rc_command.proofs.Under.{under_end, under_full}
use Rattle.rc_command.proofs.departures.following.follow_next.Goals as goal

pub returns-in-Ok-End-clause-under : goal.returns-in-Ok-End-clause-under
returns-in-Ok-End-clause-under g c old bytes u =
    under_end old bytes (left g.R.Read.remaining c.args.log.now) (left g.R.Read.remaining c.next_line.new.self) (given c.next_line.new.self.pending) c.args.follower.now c.calls.result u
    (subst (λ (n : Next). Gives (left g.R.Read.remaining c.args.log.now) (left g.R.Read.remaining c.next_line.new.self) (given c.next_line.new.self.pending) (Ok n)) c.in-Ok-End.field-0-is c.in-Ok-End.ensures)

pub returns-in-Ok-Full-clause-under : goal.returns-in-Ok-Full-clause-under
returns-in-Ok-Full-clause-under g c old bytes u =
    under_full old bytes (left g.R.Read.remaining c.args.log.now) (left g.R.Read.remaining c.next_line.new.self) (given c.next_line.new.self.pending) c.args.follower.now c.calls-in-Ok-Full.result u
    (subst (λ (n : Next). Gives (left g.R.Read.remaining c.args.log.now) (left g.R.Read.remaining c.next_line.new.self) (given c.next_line.new.self.pending) (Ok n)) c.in-Ok-Full.field-0-is c.in-Ok-Full.ensures)
