use Rattle.std.proofs.Common.{refl, ◌<◌, ◌≤◌, length, slice_get, sym, ap, ◌∙◌, arith}
use Rattle.std.proofs.lemmas.List.{drop_all}
use Rattle.rc_world.specs.Faults.{faults_by}
use Rattle.rc_world.proofs.Heads.{kinds_found, kinds_more}
use Rattle.rc_world.proofs.world.World.first_fault.Goals as goal

pub loop-kind-init : goal.loop-kind-init
loop-kind-init c = refl

pub returns-in-Some : goal.returns-in-Some
returns-in-Some c =
    let lt : c.loop-kind.kind-index < length c.args.kinds.now = omega arith in
    sym (c.loop-kind.invariant ∙ kinds_found c.args.self.now c.args.kinds.now c.loop-kind.kind-index _ c.in-Some.fault lt (sym c.fault_of_kind.ensures ∙ c.in-Some.is))

pub loop-kind-preserved : goal.loop-kind-preserved
loop-kind-preserved c =
    let lt : c.loop-kind.kind-index < length c.args.kinds.now = omega arith in
    c.loop-kind.invariant ∙ kinds_more c.args.self.now c.args.kinds.now c.loop-kind.kind-index _ lt (sym c.fault_of_kind.ensures ∙ c.in_default.is)

pub returns : goal.returns
returns c =
    let le : length c.args.kinds.now ≤ c.loop-kind.kind-index = omega arith in
    sym (c.loop-kind.invariant ∙ ap (λ kinds. slice_get (faults_by c.args.self.now kinds) 0) (drop_all c.loop-kind.kind-index c.args.kinds.now le))
