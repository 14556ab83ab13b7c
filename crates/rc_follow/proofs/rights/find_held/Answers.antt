use Rattle.std.proofs.Common.{get_or, false}
use Rattle.std.proofs.lemmas.List.Elements.{All-get_or}
use Rattle.rc_follow.specs.declared.rights.Held.{Held}
use Rattle.rc_follow.specs.RightsKnown.{IsHeld}
use Rattle.rc_follow.proofs.Held.{beq_same, held_same}
use Rattle.rc_follow.proofs.rights.find_held.Goals as goal

pub returns-then-held-spot-4 : goal.returns-then-held-spot-4
returns-then-held-spot-4 c P all =
    let none : Held = record { spot = record { thread = 0; place = 0; zero = false; buffer = 0 }; shares = 0 } in
    held_same P (get_or c.args.known.now c.loop-held.held-index none) c.args.spot c.if-held-spot.true c.if-held-spot-2.true (beq_same _ _ c.if-held-spot-3.true) c.if-held-spot-4.true
    (All-get_or (IsHeld P) c.args.known.now c.loop-held.held-index none c.loop-held-test.true all)
