use Rattle.std.proofs.Common.{◌≡◌, ◌<◌, ◌≤◌, length, Some, sym, ap, ◌∙◌, arith}
use Rattle.rc_lang.specs.Program.{lines_of, end_at, stmt_of}
use Rattle.rc_lang.proofs.Lookups.{stands_within}
use Rattle.rc_world.proofs.Laid.{arm_leads, else_leads, laid}
use Rattle.rc_world.proofs.controls.places.hop.Goals as goal

pub overflow_add-result : goal.overflow_add-result
overflow_add-result c =
    let here = ap stmt_of (sym c.line_at.ensures.value ∙ c.in_ok-line_at.was) ∙ ap (λ s. Some s) c.in-Else.is in
    let b = else_leads _ _ (laid c.args.program.now c.line_at.ensures.made c.args.thread) c.args.place _ here in
    let e : c.end_at.result ≡ end_at c.args.program.now c.args.thread c.args.place = c.end_at.ensures.value in
    let few : end_at c.args.program.now c.args.thread c.args.place ≤ 4096 = b.few in
    omega arith

pub overflow_add-result-in-EndIf : goal.overflow_add-result-in-EndIf
overflow_add-result-in-EndIf c =
    let here = ap stmt_of (sym c.line_at.ensures.value ∙ c.in_ok-line_at.was) ∙ ap (λ s. Some s) c.in-EndIf.is in
    let lt : c.args.place < length (lines_of c.args.program.now c.args.thread) = stands_within _ c.args.place _ here in
    let few : length (lines_of c.args.program.now c.args.thread) ≤ 4096 = (laid c.args.program.now c.line_at.ensures.made c.args.thread).few in
    omega arith

pub overflow_add-result-in-EndArm : goal.overflow_add-result-in-EndArm
overflow_add-result-in-EndArm c =
    let here = ap stmt_of (sym c.line_at.ensures.value ∙ c.in_ok-line_at.was) ∙ ap (λ s. Some s) c.in-EndArm.is in
    let b = arm_leads _ _ (laid c.args.program.now c.line_at.ensures.made c.args.thread) c.args.place c.in-EndArm.peek here in
    let e : c.end_at-in-EndArm.result ≡ end_at c.args.program.now c.args.thread c.in-EndArm.peek = c.end_at-in-EndArm.ensures.value in
    let few : end_at c.args.program.now c.args.thread c.in-EndArm.peek ≤ 4096 = b.few in
    omega arith
