use Rattle.rc_command.proofs.Following.{all_said}
use Rattle.rc_command.proofs.departures.answers.follow_all.Goals as goal

pub returns : goal.returns
returns g c =
    all_said (g.T.Logs.opens c.args.texts.now) c.args.asked.now c.args.program.now c.in_ok-follower.follower c.follow_each.new.follower c.in_ok-answer.answer c.list_unmade.new.answer
    c.in_ok-follower.ensures.program c.in_ok-follower.ensures.reached c.in_ok-answer.ensures.answer c.in_ok-list_unmade.ensures
