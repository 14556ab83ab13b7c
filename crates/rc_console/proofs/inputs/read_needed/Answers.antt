use Rattle.rc_console.proofs.Needed.{needed_enough, needed_whole, no_write_enough, no_write_whole}
use Rattle.rc_console.proofs.inputs.read_needed.Goals as goal

pub returns-in-Whole-clause-text : goal.returns-in-Whole-clause-text
returns-in-Whole-clause-text g c = rw c.in-Whole.is (needed_whole (g.I.Source.state c.args.source.now) (g.I.Source.state c.read_text.new.reader) c.read_text.result c.read_text.ensures.text)

pub returns-in-Whole-clause-fault : goal.returns-in-Whole-clause-fault
returns-in-Whole-clause-fault g c = no_write_whole (g.I.Source.state c.args.source.now) (g.I.Source.state c.read_text.new.reader) c.read_text.result c.read_text.ensures.text

pub returns-in-Enough-clause-text : goal.returns-in-Enough-clause-text
returns-in-Enough-clause-text g c = rw c.in-Enough.is (needed_enough (g.I.Source.state c.args.source.now) (g.I.Source.state c.read_model.new.reader) c.read_model.result c.read_model.ensures.text)

pub returns-in-Enough-clause-fault : goal.returns-in-Enough-clause-fault
returns-in-Enough-clause-fault g c = no_write_enough (g.I.Source.state c.args.source.now) (g.I.Source.state c.read_model.new.reader) c.read_model.result c.read_model.ensures.text
