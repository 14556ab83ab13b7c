use Rattle.std.proofs.Common.{refl, sym, subst, ◌∙◌}
use Rattle.std.specs.Prelude.{option_copied as named}
use Rattle.rc_console.proofs.Answers.{does_as, does_nothing}
use Rattle.rc_command.specs.Answers.{FindsStuck, IsStuckShownAs}
use Rattle.rc_command.proofs.performing.stuck_in.Goals as goal

pub returns-in_err-found : goal.returns-in_err-found
returns-in_err-found g c =
    does_nothing g.S.Sink.state c.args.sink.now c.args.sink.now (FindsStuck (named c.args.file) c.args.text.now c.args.asked) c.from_residual.result c.from_residual.ensures.1 refl

pub returns-in_err-answer : goal.returns-in_err-answer
returns-in_err-answer g c =
    does_nothing g.S.Sink.state c.args.sink.now c.args.sink.now (FindsStuck (named c.args.file) c.args.text.now c.args.asked) c.from_residual-in_err-answer.result c.from_residual-in_err-answer.ensures.1 refl

pub returns : goal.returns
returns g c =
    let found = c.in_ok-found.found in
    let shown = c.in_ok-answer.ensures in
    let written = rw c.deref.ensures.value at c.write_answer.ensures in
    does_as g.S.Sink.state c.args.sink.now c.write_answer.new.sink _ (FindsStuck (named c.args.file) c.args.text.now c.args.asked) c.write_answer.result
    (λ s text both. (found, c.in_ok-found.ensures, subst (λ t. IsStuckShownAs (named c.args.file) c.args.asked.form found t) (sym both.1) shown, both.0 ∙ c.stuck_status.ensures.status)) written
