use Rattle.rc_command.proofs.Following.{of_ended}
use Rattle.rc_command.proofs.departures.answers.follow_one.Goals as goal

pub returns-in-Ok-follow_log-clause-answer : goal.returns-in-Ok-follow_log-clause-answer
returns-in-Ok-follow_log-clause-answer g c =
    of_ended (g.T.Logs.opens c.args.texts.now) c.args.json c.args.name.now c.args.follower.now c.follow_log.new.follower c.args.answer.now c.print.new.self c.print.result
    _ c.in-Ok-follow_log.ending c.in-Ok.ensures c.in-Ok-follow_log.ensures.reached c.print.ensures
