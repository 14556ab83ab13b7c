use Rattle.rc_lang.proofs.Views.{is_view}
use Rattle.rc_lang.proofs.view.View.entries.Goals as goal

pub returns-clause-made : goal.returns-clause-made
returns-clause-made c = is_view c.args.self.program.now c.args.self.thread c.entries.ensures.made
