use Rattle.rc_rewrite.proofs.Lines.{other_items}
use Rattle.rc_rewrite.proofs.keeps.read_filled.Goals as goal

pub returns-in-Ok : goal.returns-in-Ok
returns-in-Ok c = other_items c.args.source.now c.in_ok-text.text.items c.in-Ok.field-0 c.requires c.in_ok-text.ensures (rw c.deref.ensures.value at c.in-Ok.ensures)
