use Rattle.std.proofs.Common.{slice_get, ap, ◌∙◌}
use Rattle.rc_lang.specs.declared.lines.Stmt.TheVariants.{If}
use Rattle.rc_lang.proofs.Reading.{list_alone}
use Rattle.rc_split.specs.Pools.{includes, pool_of}
use Rattle.rc_world.specs.Controls.{variables_in}
use Rattle.rc_runs.specs.Stuck.{stmt_moves}
use Rattle.rc_runs.proofs.stuck.quiet.test_moves.Goals as goal

pub returns-in-Take : goal.returns-in-Take
returns-in-Take c =
    let w = c.args.world.now in
    let read = list_alone w.program c.may_take.ensures.made c.args.thread (variables_in (slice_get w.controls.threads c.args.thread)) c.in-Take.k in
    λ no. ap (λ test. stmt_moves w c.args.thread (If test)) c.in-Take.is ∙ ap (includes w.program (pool_of w.controls.pools c.in-Take.pool)) read ∙ c.may_take.ensures.value no
