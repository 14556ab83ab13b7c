use Rattle.std.proofs.Common.{rules, ◌<◌, ◌≤◌, ◌≡◌, false, length, slice_get, sym, ap, ◌∙◌, if◌then◌else◌, [], ◌∷◌, ◌++◌, arith}
use Rattle.rc_world.specs.Faults.{faults_from, in_kernel}
use Rattle.rc_world.specs.Machine.{World}
use Rattle.rc_world.specs.declared.fault.Party.TheVariants.{InKernel}
use Rattle.rc_world.proofs.Heads.{faults_end, faults_found, faults_more}
use Rattle.rc_world.proofs.world.World.fault_of_kind.Goals as goal

pub loop-thread-init : goal.loop-thread-init
loop-thread-init c =
    let none : in_kernel c.args.self.now c.args.kind ≡ false = search rules in
    ap (λ b. slice_get ((if b then record { kind = c.args.kind; party = InKernel } ∷ [] else []) ++ faults_from c.args.self.now c.args.kind 0 c.args.self.now.controls.threads) 0) none

pub returns-in-Some : goal.returns-in-Some
returns-in-Some c =
    let count = c.count-thread-end.ensures.count ∙ ap (λ (w : World). length w.controls.threads) c.self.view_is in
    let lt : c.loop-thread.thread < length c.args.self.now.controls.threads = omega arith in
    sym (c.loop-thread.invariant ∙ faults_found c.args.self.now c.args.kind c.args.self.now.controls.threads c.loop-thread.thread c.in-Some.fault lt (sym c.fault_at.ensures ∙ c.in-Some.is))

pub loop-thread-preserved : goal.loop-thread-preserved
loop-thread-preserved c =
    let count = c.count-thread-end.ensures.count ∙ ap (λ (w : World). length w.controls.threads) c.self.view_is in
    let lt : c.loop-thread.thread < length c.args.self.now.controls.threads = omega arith in
    c.loop-thread.invariant ∙ faults_more c.args.self.now c.args.kind c.args.self.now.controls.threads c.loop-thread.thread lt (sym c.fault_at.ensures ∙ c.in_default.is)

pub returns : goal.returns
returns c =
    let count = c.count-thread-end.ensures.count ∙ ap (λ (w : World). length w.controls.threads) c.self.view_is in
    let le : length c.args.self.now.controls.threads ≤ c.loop-thread.thread = omega arith in
    sym (c.loop-thread.invariant ∙ faults_end c.args.self.now c.args.kind c.args.self.now.controls.threads c.loop-thread.thread le)
