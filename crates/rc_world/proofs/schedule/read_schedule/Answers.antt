use Rattle.std.proofs.Common.{◌≡◌, sym, rules, length, eqb, tests}
use Rattle.std.proofs.lemmas.List.{length_push}
use Rattle.std.proofs.lemmas.Iterator.Consumers.{YieldsList-turn, YieldsList-end}
use Rattle.std.proofs.lemmas.Iterator.Splits.{YieldsList-from_slice_split}
use Rattle.rc_world.specs.Schedule as spec
use Rattle.rc_world.proofs.Pieces.{reads_all, takes_item, stops_at, ends_with_all}
use Rattle.rc_world.proofs.schedule.read_schedule.Goals as goal

pub loop-piece-init : goal.loop-piece-init
loop-piece-init c = reads_all c.args.program.now c.new-items.result.items c.args.schedule.now c.new-items.ensures.items (search rules)

pub loop-piece-preserved : goal.loop-piece-preserved
loop-piece-preserved c =
    let yields = YieldsList-from_slice_split _ (λ b. eqb b 44) c.args.schedule.now (search rules) (search rules) (search rules) (λ x b q k. search (rules, tests)) in
    let t = YieldsList-turn yields c.loop-piece.yielded _ c.loop-piece.yielded_by _ _ c.in-Some.piece c.in-Some.is c.next.ensures.steps in
    takes_item (spec.item_of c.args.program.now) c.loop-piece.items.items _ _ _ _ c.in-Some.piece.now c.in-Some-item_of.item _ t (sym c.in-Some-item_of.ensures) c.in_ok-push-in-Some-item_of.ensures.items (length_push c.loop-piece.yielded c.in-Some.piece) c.loop-piece.invariant

pub returns-in-None-item_of : goal.returns-in-None-item_of
returns-in-None-item_of c =
    let count : c.len.result ≡ length c.loop-piece.items.items = search rules in
    let yields = YieldsList-from_slice_split _ (λ b. eqb b 44) c.args.schedule.now (search rules) (search rules) (search rules) (λ x b q k. search (rules, tests)) in
    let t = YieldsList-turn yields c.loop-piece.yielded _ c.loop-piece.yielded_by _ _ c.in-Some.piece c.in-Some.is c.next.ensures.steps in
    stops_at (spec.item_of c.args.program.now) c.loop-piece.items.items _ _ c.len.result c.in-Some.piece.now _ t (sym c.in-None-item_of.ensures) count c.loop-piece.invariant

pub returns : goal.returns
returns c =
    let yields = YieldsList-from_slice_split _ (λ b. eqb b 44) c.args.schedule.now (search rules) (search rules) (search rules) (λ x b q k. search (rules, tests)) in
    let t = YieldsList-end yields c.loop-piece.yielded _ c.loop-piece.yielded_by _ _ c.in-None.is c.next.ensures.steps in
    ends_with_all (spec.item_of c.args.program.now) c.loop-piece.items.items _ _ _ t.1 c.loop-piece.invariant
