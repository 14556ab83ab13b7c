use Rattle.std.proofs.Common.{subst}
use Rattle.rc_lang.specs.declared.request.Request.{Request}
use Rattle.rc_run.specs.Lives.{IsNotOut}
use Rattle.rc_run.proofs.live.Live.post.Goals as goal

pub returns-in-None-clause-not_out : goal.returns-in-None-clause-not_out
returns-in-None-clause-not_out c = subst (λ (r : Request). IsNotOut c.args.self.now r) c.request.ensures.value c.in-None.ensures.none
