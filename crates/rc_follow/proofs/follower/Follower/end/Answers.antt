use Rattle.std.proofs.Common.{◌≡◌, arith, length, subst}
use Rattle.rc_follow.specs.Follower.{Follower, with_ways}
use Rattle.rc_follow.proofs.Followed.{ends_with}
use Rattle.rc_follow.proofs.follower.Follower.end.Goals as goal

pub returns : goal.returns
returns c =
    let end : c.len-end.result ≡ length c.self.inside.reached.items = omega (arith, c.len-end.ensures) in
    let old : Follower = record { program = c.self.inside.rights; noted = c.self.inside.noted; ways = c.self.inside.worlds.items; reached = c.self.inside.reached.items } in
    subst (λ (f : Follower). record { program = c.self.inside.rights; noted = c.self.inside.noted; ways = c.self.inside.worlds.items; reached = c.reach.new.reached.items } ≡ with_ways f) c.self.view_is
    (ends_with old c.reach.new.reached.items c.deref.result.now c.len-end.result end c.deref.ensures.value c.reach.ensures)
