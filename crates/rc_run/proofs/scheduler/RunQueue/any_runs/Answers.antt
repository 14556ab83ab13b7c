use Rattle.std.proofs.Common.{◌≡◌, ◌≤◌, ◌∙◌, List, ap, arith, length, rules, sym}
use Rattle.std.proofs.lemmas.List.{length-map}
use Rattle.rc_lang.specs.Parts.{view_thread}
use Rattle.rc_lang.specs.Program.{Program, Thread}
use Rattle.rc_run.proofs.Dispatching.{nobody_runs}
use Rattle.rc_run.proofs.scheduler.RunQueue.any_runs.Goals as goal

pub returns : goal.returns
returns c =
    let s = c.args.live.now in
    let same : s.world.program ≡ c.program.result.now = sym (c.program.ensures.value ∙ c.admitted.ensures) in
    let many : length s.world.program.threads ≡ length c.threads-thread-end.result.now =
    ap (λ (P : Program). length P.threads) same ∙ ap (λ (ts : List Thread). length ts) (sym c.threads-thread-end.ensures.value) ∙ length-map c.threads-thread-end.result.now view_thread in
    let end : length c.threads-thread-end.result.now ≤ c.loop-thread.thread = search rules in
    (λ h. absurd (cc), λ a. absurd (nobody_runs s c.args.self.now c.loop-thread.thread (omega (arith, many, end)) c.loop-thread.invariant a))
