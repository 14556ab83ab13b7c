use Rattle.std.proofs.Common.{subst}
use Rattle.rc_follow.specs.Ways.{Way}
use Rattle.rc_follow.specs.Searches.{Visits}
use Rattle.rc_follow.proofs.Added.{visits_both}
use Rattle.rc_follow.proofs.search.visit_made.Goals as goal

pub returns : goal.returns
returns c P =
    let made : Visits P c.args.ground.noted.now c.args.node c.args.ground.thread c.args.ground.call c.args.found.now c.keep_made-2.new.found =
    subst (λ (v : Way). Visits P c.args.ground.noted.now v c.args.ground.thread c.args.ground.call c.args.found.now c.keep_made-2.new.found) c.in_ok-again.ensures (c.in_ok-keep_made-2.ensures P) in
    visits_both P c.args.ground.noted.now c.args.node c.args.ground.thread c.args.ground.call c.args.found.now c.keep_made-2.new.found c.look_on.new.found made (c.in_ok-look_on.ensures P)
