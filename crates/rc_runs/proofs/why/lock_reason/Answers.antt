use Rattle.std.proofs.Common.{ap, sym, ◌∙◌}
use Rattle.std.proofs.lemmas.Bool.{false≢true}
use Rattle.std.specs.Prelude.{is_none}
use Rattle.rc_world.specs.Controls.{are_free, next_line}
use Rattle.rc_runs.proofs.Waits.{waits_for_some}
use Rattle.rc_runs.proofs.why.lock_reason.Goals as goal

-- Somebody has a lock that is wanted.
pub returns-in_err-holder : goal.returns-in_err-holder
returns-in_err-holder c =
    let w = c.args.world.now in
    let held = waits_for_some w.controls.holders (next_line w.program w.controls c.args.thread) c.args.wanted c.requires in
    absurd (false≢true (sym held ∙ ap (are_free c.args.wanted) (sym c.holders-holders.ensures) ∙ c.taken_by.ensures.free ∙ ap is_none c.in_err-holder.was))
