use Rattle.std.proofs.Common.{sym, subst}
use Rattle.std.specs.Prelude.{option_copied as named, Bool}
use Rattle.rc_console.specs.Answers.{Does}
use Rattle.rc_command.specs.Answers.{SaysSearchOf}
use Rattle.rc_command.proofs.performing.searched.Goals as goal

pub returns-then-asked : goal.returns-then-asked
returns-then-asked g c =
    subst (λ (stuck : Bool). Does (SaysSearchOf stuck (named c.args.file) c.args.text.now c.args.asked) g.S.Sink.state c.args.sink.now c.stuck_in.new.sink c.stuck_in.result) (sym c.if-asked.true) c.stuck_in.ensures

pub returns-else-asked : goal.returns-else-asked
returns-else-asked g c =
    subst (λ (stuck : Bool). Does (SaysSearchOf stuck (named c.args.file) c.args.text.now c.args.asked) g.S.Sink.state c.args.sink.now c.found_in.new.sink c.found_in.result) (sym c.if-asked.false) c.found_in.ensures
