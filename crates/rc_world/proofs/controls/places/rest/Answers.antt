use Rattle.std.proofs.Common.{◌<◌, length, sym, ◌∙◌, arith}
use Rattle.rc_lang.specs.Program.{lines_of}
use Rattle.rc_world.proofs.Settling.{hops, rests, sets_out}
use Rattle.rc_world.proofs.controls.places.rest.Goals as goal

pub loop-next-init : goal.loop-next-init
loop-next-init c = sets_out c.args.program.now c.args.thread c.args.start

pub loop-next-smaller : goal.loop-next-smaller
loop-next-smaller c =
    let h = hops c.args.program.now c.hop.ensures.made c.args.thread c.args.start c.loop-next.place c.in-Some.next c.loop-next.ends_arm c.in-Some.ends c.loop-next.invariant (sym c.hop.ensures.value ∙ c.in-Some.is) in
    let here : c.loop-next.place < length (lines_of c.args.program.now c.args.thread) = h.here in
    let falls : c.loop-next.place < c.in-Some.next = h.falls in
    omega arith

pub loop-next-preserved : goal.loop-next-preserved
loop-next-preserved c =
    (hops c.args.program.now c.hop.ensures.made c.args.thread c.args.start c.loop-next.place c.in-Some.next c.loop-next.ends_arm c.in-Some.ends c.loop-next.invariant (sym c.hop.ensures.value ∙ c.in-Some.is)).way

pub returns-clause-place : goal.returns-clause-place
returns-clause-place c =
    (rests c.args.program.now c.args.thread c.args.start c.loop-next.place c.loop-next.ends_arm c.loop-next.invariant (sym c.hop.ensures.value ∙ c.in_default.is)).0

pub returns-clause-arm : goal.returns-clause-arm
returns-clause-arm c =
    (rests c.args.program.now c.args.thread c.args.start c.loop-next.place c.loop-next.ends_arm c.loop-next.invariant (sym c.hop.ensures.value ∙ c.in_default.is)).1
