use Rattle.std.proofs.Common.{ℕ, Some, map, replicate, ap, ◌∙◌}
use Rattle.std.specs.Arc.{arc_value}
use Rattle.rc_lang.specs.Program.{Buffer, Program}
use Rattle.rc_world.specs.Controls.{start_controls}
use Rattle.rc_world.proofs.Starting.{zeroes}
use Rattle.rc_run.specs.Machine.{pending_of}
use Rattle.rc_run.proofs.Starts.{starts}
use Rattle.rc_run.proofs.machine.Machine.start.Goals as goal

pub returns-clause-start : goal.returns-clause-start
returns-clause-start c =
    let same = c.program-program.ensures.value ∙ c.deref.ensures in
    let none = ap (map pending_of) c.new-2.ensures.items in
    let buffers = c.in_ok-buffers.ensures ∙ zeroes c.buffers.result.now ∙ ap (map (λ (b : Buffer). Some (replicate {A = ℕ} b.bytes 0))) (c.buffers.ensures.value ∙ ap (λ (P : Program). P.buffers) same) in
    starts (arc_value c.args.admitted) c.in_ok-controls.controls c.in_ok-ring.ring _ _ _ _ _ (c.in_ok-controls.ensures.start ∙ ap start_controls same) c.in_ok-ring.ensures none c.new-3.ensures.items buffers
