use Rattle.std.proofs.Common.{◌≡◌, ◌+◌, ◌<◌, ◌≤◌, FitsSigned, w64, length, negsuc, rules, sym, ap, ◌∙◌, arith}
use Rattle.std.proofs.lemmas.Int.{to_z-of_z}
use Rattle.rc_lang.specs.Program.{end_at, lines_of}
use Rattle.rc_world.specs.declared.controls.Look.TheVariants.{Peeked as InView}
use Rattle.rc_world.specs.declared.event.Action.TheVariants.{Peeked, PeekedNone}
use Rattle.rc_world.specs.Changes.{standing_at, with_variable}
use Rattle.rc_world.specs.Controls.{Controls, arm_for, made, none_arm, peeks}
use Rattle.rc_world.proofs.Jumps.{peek_below, peek_small}
use Rattle.rc_world.proofs.Threads.{set_and_gone}
use Rattle.rc_world.proofs.controls.Controls.peek.Goals as goal

pub none_arm-arm-requires-clause-start : goal.none_arm-arm-requires-clause-start
none_arm-arm-requires-clause-start c = let b = peek_below _ _ _ _ _ c.requires.here in let lt : c.args.place < end_at c.args.program.now c.args.thread c.args.place = b.below in omega arith

pub none_arm-arm-requires-clause-end : goal.none_arm-arm-requires-clause-end
none_arm-arm-requires-clause-end c =
    let b = peek_below _ _ _ _ _ c.requires.here in let lt : end_at c.args.program.now c.args.thread c.args.place < length (lines_of c.args.program.now c.args.thread) = b.within in omega arith

pub set-requires-clause-variable : goal.set-requires-clause-variable
set-requires-clause-variable c = peek_small _ _ _ _ _ c.requires.here

pub overflow_add-arm : goal.overflow_add-arm
overflow_add-arm c =
    let b = peek_below _ _ _ _ _ c.requires.here in
    let few : end_at c.args.program.now c.args.thread c.args.place ≤ 4096 = b.few in
    let le : c.none_arm-arm.result ≤ end_at c.args.program.now c.args.thread c.args.place = c.none_arm-arm.ensures.below in
    omega arith

pub arm_for-arm-requires-clause-start : goal.arm_for-arm-requires-clause-start
arm_for-arm-requires-clause-start c = let b = peek_below _ _ _ _ _ c.requires.here in let lt : c.args.place < end_at c.args.program.now c.args.thread c.args.place = b.below in omega arith

pub arm_for-arm-requires-clause-end : goal.arm_for-arm-requires-clause-end
arm_for-arm-requires-clause-end c =
    let b = peek_below _ _ _ _ _ c.requires.here in let lt : end_at c.args.program.now c.args.thread c.args.place < length (lines_of c.args.program.now c.args.thread) = b.within in omega arith

pub set-requires-in-Front-clause-variable : goal.set-requires-in-Front-clause-variable
set-requires-in-Front-clause-variable c = peek_small _ _ _ _ _ c.requires.here

pub overflow_add-arm-in-Front : goal.overflow_add-arm-in-Front
overflow_add-arm-in-Front c =
    let b = peek_below _ _ _ _ _ c.requires.here in
    let few : end_at c.args.program.now c.args.thread c.args.place ≤ 4096 = b.few in
    let le : c.arm_for-arm.result ≤ end_at c.args.program.now c.args.thread c.args.place = c.arm_for-arm.ensures.below in
    omega arith

pub returns-in-Plain : goal.returns-in-Plain
returns-in-Plain c =
    let P = c.args.program.now in
    let old = c.args.self.now in
    let i = c.args.thread in
    let place = ap (λ j. none_arm P i j + 1) c.requires.here.place in
    ap (λ a. made P old i (peeks P old i (standing_at old i) c.args.x a)) c.in-Plain.is
    ∙ set_and_gone P old _ c.go.new.self i _ _ c.args.x (negsuc 10) old.holders old.look PeekedNone c.requires.here.exists c.set.ensures c.go.ensures
    (ap (λ n. n + 1) c.none_arm-arm.ensures.value ∙ sym place)

pub returns-in-Front : goal.returns-in-Front
returns-in-Front c =
    let P = c.args.program.now in
    let old = c.args.self.now in
    let i = c.args.thread in
    let cqe = c.in-Front.completion in
    let place = ap (λ j. arm_for P i j cqe.user_data + 1) c.requires.here.place in
    let fits : FitsSigned w64 c.from.result = search rules in
    let plain : c.from.result ≡ cqe.res = search rules in
    let set = c.set-in-Front.ensures ∙ ap (with_variable old i c.args.x) (to_z-of_z w64 c.from.result fits ∙ plain) in
    ap (λ a. made P old i (peeks P old i (standing_at old i) c.args.x a)) c.in-Front.is
    ∙ set_and_gone P old _ c.go-in-Front.new.self i _ _ c.args.x cqe.res old.holders InView (Peeked cqe) c.requires.here.exists
    (ap (λ (k : Controls). record { threads = k.threads; holders = k.holders; look = InView; pools = k.pools }) (c.self.view_is ∙ set)) c.go-in-Front.ensures
    (ap (λ n. n + 1) c.arm_for-arm.ensures.value ∙ sym place)
