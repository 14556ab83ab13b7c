use Rattle.std.proofs.Common.{◌≡◌, ℕ, List, refl, ◌∙◌}
use Rattle.rc_report.specs.Statuses.{status_of_end}
use Rattle.rc_console.proofs.Answers.{does_as, does_nothing}
use Rattle.rc_command.proofs.running.write_summary.Goals as goal

pub returns-in_err-lines : goal.returns-in_err-lines
returns-in_err-lines g c =
    does_nothing g.S.Sink.state c.args.sink.now c.args.sink.now (λ (status : ℕ) (text : List ℕ). status ≡ status_of_end c.args.end) c.from_residual.result c.from_residual.ensures.1 refl

pub returns-in_err-put_summary : goal.returns-in_err-put_summary
returns-in_err-put_summary g c =
    does_nothing g.S.Sink.state c.args.sink.now c.args.sink.now (λ (status : ℕ) (text : List ℕ). status ≡ status_of_end c.args.end) c.from_residual-in_err-put_summary.result c.from_residual-in_err-put_summary.ensures.1 refl

pub returns-in_err-put_stuck : goal.returns-in_err-put_stuck
returns-in_err-put_stuck g c =
    does_nothing g.S.Sink.state c.args.sink.now c.args.sink.now (λ (status : ℕ) (text : List ℕ). status ≡ status_of_end c.args.end) c.from_residual-in_err-put_stuck.result c.from_residual-in_err-put_stuck.ensures.1 refl

pub returns : goal.returns
returns g c =
    does_as g.S.Sink.state c.args.sink.now c.write_answer.new.sink (λ (s : ℕ) (text : List ℕ). (s ≡ c.status.result) × (text ≡ c.deref.result.now)) (λ (status : ℕ) (text : List ℕ). status ≡ status_of_end c.args.end)
    c.write_answer.result (λ s text both. both.0 ∙ c.status.ensures.status) c.write_answer.ensures
