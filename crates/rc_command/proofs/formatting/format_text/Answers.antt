use Rattle.std.proofs.Common.{◌≡◌, ℕ, List, refl, subst, sym}
use Rattle.rc_rewrite.specs.LaidOut.{IsLaidOut}
use Rattle.rc_command.specs.Answers.{SaysLaidOut}
use Rattle.rc_console.proofs.Answers.{does_as, does_nothing}
use Rattle.rc_command.proofs.formatting.format_text.Goals as goal

pub returns-in_err-laid : goal.returns-in_err-laid
returns-in_err-laid g c = does_nothing g.S.Sink.state c.args.sink.now c.args.sink.now (SaysLaidOut c.args.text.now) c.from_residual.result c.from_residual.ensures.1 refl

pub returns : goal.returns
returns g c =
    does_as g.S.Sink.state c.args.sink.now c.write_answer.new.sink (λ (s : ℕ) (text : List ℕ). (s ≡ 0) × (text ≡ c.in_ok-laid.laid.items)) (SaysLaidOut c.args.text.now) c.write_answer.result
    (λ s text both. (subst (λ (t : List ℕ). IsLaidOut c.args.text.now t) (sym both.1) c.in_ok-laid.ensures, both.0)) (rw c.deref.ensures.value at c.write_answer.ensures)
