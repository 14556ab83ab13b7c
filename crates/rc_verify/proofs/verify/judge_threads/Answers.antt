use Rattle.std.proofs.Common.{◌<◌, arith, length, subst, sym}
use Rattle.std.proofs.lemmas.Option.{slice_get_within}
use Rattle.rc_split.specs.Bags.{IsWithin}
use Rattle.rc_split.specs.Holdings.{Holds}
use Rattle.rc_rules.specs.Causes.{premise_number}
use Rattle.rc_rules.specs.Labellings.{given_to}
use Rattle.rc_rules.specs.Rules.{limit}
use Rattle.rc_verify.proofs.Threads.{PassTo, begins_within, line_passes, passed_within, refused_at, parts_length}
use Rattle.rc_verify.proofs.verify.judge_threads.Goals as goal

pub loop-thread-init : goal.loop-thread-init
loop-thread-init c = record { of = c.new-labels.ensures.of; few = omega arith; held = c.requires.held; within = begins_within c.args.program.now c.requires.pools; passed = λ k t lt e. absurd (omega (arith, lt)) }

pub returns-in-Err : goal.returns-in-Err
returns-in-Err c = refused_at c.args.program.now c.loop-thread.thread c.in-Err.refusal.line (premise_number c.in-Err.refusal.cause) (omega (arith, c.loop-thread-test.true, parts_length c.args.program.now c.threads-count.result.now c.threads-count.ensures.value)) c.requires.pools c.loop-thread.invariant.passed (λ t e. c.in-Err.ensures.judged t e)

pub loop-thread-preserved : goal.loop-thread-preserved
loop-thread-preserved c =
    let P = c.args.program.now in
    let lt : c.loop-thread.thread < length P.threads = omega (arith, c.loop-thread-test.true, parts_length P c.threads-count.result.now c.threads-count.ensures.value) in
    record {
      of = c.in_default.ensures.same;
      few = c.line_end-thread.ensures.within;
      held = subst (λ n. Holds c.judge_thread.new.held P (given_to P n)) (sym c.line_end-thread.ensures.value) c.in_default.ensures.held;
      within = subst (λ n. IsWithin (given_to P n) (limit P)) (sym c.line_end-thread.ensures.value) (passed_within P c.loop-thread.thread lt (λ t e. c.in_default.ensures.judged t e));
      passed = subst (PassTo P) (sym c.line_end-thread.ensures.value) (line_passes P c.threads-count.ensures.made c.loop-thread.thread c.loop-thread.invariant.passed (λ t e. c.in_default.ensures.judged t e));
    }

pub returns : goal.returns
returns c = λ i thread e. c.loop-thread.invariant.passed i thread (let lt = slice_get_within c.args.program.now.threads i thread e in omega (arith, lt, c.loop-thread-test.false, parts_length c.args.program.now c.threads-count.result.now c.threads-count.ensures.value)) e
