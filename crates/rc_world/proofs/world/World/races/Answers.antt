use Rattle.std.proofs.Common.{rules, refl, ◌<◌, ◌≤◌, ◌≡◌, ◌+◌, Option, None, drop, length, option_map, sym, ap, ◌∙◌, arith}
use Rattle.rc_world.specs.Faults.{races}
use Rattle.rc_world.specs.Machine.{World}
use Rattle.rc_world.specs.WorldParts.{view_access}
use Rattle.rc_world.specs.declared.world.faults.statements.Access.{Access}
use Rattle.rc_world.proofs.Heads.{no_races, races_end, races_found, races_more}
use Rattle.rc_world.proofs.world.World.races.Goals as goal

pub returns-then-is_none : goal.returns-then-is_none
returns-then-is_none c =
    let none : c.args.access ≡ None = search rules in
    sym (ap (λ (a : Option Access). races c.args.self.now c.args.thread (option_map view_access a)) none ∙ no_races c.args.self.now (c.args.thread + 1) (drop (c.args.thread + 1) c.args.self.now.controls.threads))

pub loop-other-init : goal.loop-other-init
loop-other-init c = refl

pub returns-then-conflicts : goal.returns-then-conflicts
returns-then-conflicts c =
    let count = c.count-other-end.ensures.count ∙ ap (λ (w : World). length w.controls.threads) c.self.view_is in
    let lt : c.loop-other.other < length c.args.self.now.controls.threads = omega arith in
    sym (c.loop-other.invariant ∙ races_found c.args.self.now (option_map view_access c.args.access) c.args.self.now.controls.threads c.loop-other.other lt (search rules))

pub loop-other-preserved : goal.loop-other-preserved
loop-other-preserved c =
    let count = c.count-other-end.ensures.count ∙ ap (λ (w : World). length w.controls.threads) c.self.view_is in
    let lt : c.loop-other.other < length c.args.self.now.controls.threads = omega arith in
    c.loop-other.invariant ∙ races_more c.args.self.now (option_map view_access c.args.access) c.args.self.now.controls.threads c.loop-other.other lt (search rules)

pub returns : goal.returns
returns c =
    let count = c.count-other-end.ensures.count ∙ ap (λ (w : World). length w.controls.threads) c.self.view_is in
    let le : length c.args.self.now.controls.threads ≤ c.loop-other.other = omega arith in
    sym (c.loop-other.invariant ∙ races_end c.args.self.now (option_map view_access c.args.access) c.args.self.now.controls.threads c.loop-other.other le)
