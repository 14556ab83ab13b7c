-- What a follower answers to a line.
use Rattle.std.specs.Prelude.{◌≡◌, ◌++◌, Bool, true, false, [], ◌∷◌, List}
use Rattle.rc_log.specs.declared.call.Said.{Said}
use Rattle.rc_follow.specs.declared.follower.Answer.{Answer}
use Rattle.rc_follow.specs.declared.follower.Answer.TheVariants.{Followed}
use Rattle.rc_follow.specs.Follower.{Follower, Follows, GoesOn}

abbrev pub is_followed : Answer → Bool
is_followed Followed = true
is_followed _ = false

-- It goes on, or stays as it was.
abbrev pub Answers : Follower → Said → Follower → Answer → Type 0
Answers old said new Followed = GoesOn old said new
Answers old said new _ = new ≡ old

-- One more line is followed, or it isn't said.
abbrev pub FollowsMore : List Said → Said → Follower → Answer → Type 0
FollowsMore lines said new Followed = Follows (lines ++ said ∷ []) new
FollowsMore lines said new _ = Unit {0}
