use Rattle.std.proofs.Common.{subst}
use Rattle.rc_lang.specs.Kept.{IsProgram}
use Rattle.rc_run.specs.Lives.{Live}
use Rattle.rc_run.proofs.Calms.{calm}
use Rattle.rc_run.proofs.live.Live.look.Goals as goal

pub returns : goal.returns
returns c =
    let s = c.args.self.now in
    let laws = c.safe_worlds.ensures in
    let made = subst (λ (l : Live). IsProgram l.world.program) c.self.view_is c.program.ensures.made in
    calm s.history s.world made c.promise.ensures.safe c.promise.ensures.run laws.under_lock laws.entry_suits laws.has_room laws.data_is_fresh laws.data_is_one laws.no_kernel_clash c.no_deadlock.ensures
