use Rattle.rc_rewrite.proofs.Lines.{as_it_is}
use Rattle.rc_rewrite.proofs.keeps.unchanged.Goals as goal

pub returns : goal.returns
returns c = as_it_is c.args.source.now c.in_ok-text.text.items c.in_ok-text.ensures.items c.requires
