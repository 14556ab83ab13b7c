use Rattle.rc_verify.proofs.Told.{told_view}
use Rattle.rc_verify.proofs.labels.Labels.state.Goals as goal

pub returns-clause-of : goal.returns-clause-of
returns-clause-of c = (told_view _ _ _ _ _ _ c.args.self.now c.self.view_is c.self.invariant).0

pub returns-clause-strongest : goal.returns-clause-strongest
returns-clause-strongest c = (told_view _ _ _ _ _ _ c.args.self.now c.self.view_is c.self.invariant).1
