use Rattle.std.proofs.Common.{◌≡◌, ℕ, ◌+◌, ◌<◌, false, length, ap, subst, sym, ◌∙◌, arith}
use Rattle.std.proofs.lemmas.List.{length-map}
use Rattle.rc_lang.specs.Program.{Program}
use Rattle.rc_world.specs.Items.{next_of}
use Rattle.rc_world.specs.Machine.{World}
use Rattle.rc_world.specs.Trace.{has_ended}
use Rattle.rc_runs.proofs.Closed.{one_goes_on}
use Rattle.rc_runs.proofs.stuck.have_all_ended.Goals as goal

pub returns-then-goes_on : goal.returns-then-goes_on
returns-then-goes_on c = λ _.
    let w : World = c.args.world.now in
    let many : length c.threads-count.result.now ≡ length w.program.threads = sym (length-map c.threads-count.result.now _) ∙ ap length (c.threads-count.ensures.value ∙ ap (λ (p : Program). p.threads) c.program.ensures) in
    let within : c.loop-thread.thread < length w.program.threads = omega (arith, many, c.loop-thread-test.true) in
    let goes : has_ended (next_of w.program w.controls (0 + c.loop-thread.thread)) ≡ false = subst (λ (j : ℕ). has_ended (next_of w.program w.controls j) ≡ false) (omega arith) (c.goes_on.ensures c.if-goes_on.true) in
    one_goes_on w w.program.threads 0 c.loop-thread.thread within goes
