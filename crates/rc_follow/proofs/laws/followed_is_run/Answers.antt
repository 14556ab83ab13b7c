use Rattle.rc_follow.proofs.Followed.{followed_is_run}
use Rattle.rc_follow.proofs.laws.followed_is_run.Goals as goal

pub returns : goal.returns
returns c = followed_is_run
