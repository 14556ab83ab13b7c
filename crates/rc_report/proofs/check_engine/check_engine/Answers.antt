use Rattle.std.proofs.Common.{◌≡◌, ◌++◌, None, refl, subst, sym}
use Rattle.std.specs.Prelude.{IsErrAnd}
use Rattle.rc_report.specs.declared.engine_fault.EngineFault.{EngineFault}
use Rattle.rc_report.specs.Checks.{IsVerdict, TellsVerdict}
use Rattle.rc_report.specs.Files.{printed}
use Rattle.rc_report.specs.Streams.{Answers}
use Rattle.rc_report.proofs.Answered.{answers_no_read, answers_nothing, source_failed, source_gave}
use Rattle.rc_report.proofs.Settled.{same_answer}
use Rattle.rc_report.proofs.check_engine.check_engine.Goals as goal

pub returns-in_err-text-clause-answer : goal.returns-in_err-text-clause-answer
returns-in_err-text-clause-answer g c =
    let writer = c.args.writer.now in
    let r = c.from_residual.result in
    source_failed g.W.Sink.state writer writer (λ bytes. Answers (TellsVerdict None bytes c.args.json) g.W.Sink.state writer writer r) (g.R.Source.state c.args.reader.now) _ r
    c.from_residual.ensures.1 c.in_err-text.ensures.text refl
    (λ out bytes. answers_nothing (TellsVerdict None bytes c.args.json) g.W.Sink.state writer writer r (subst (λ (z : EngineFault). IsErrAnd r (λ y. y ≡ z)) out c.from_residual.ensures.1) refl)

pub returns-clause-answer : goal.returns-clause-answer
returns-clause-answer g c =
    let writer = c.args.writer.now in
    let after = c.check_bytes.new.writer in
    let r = c.check_bytes.result in
    let kept = c.in_ok-text.text.items in
    let read = c.in_ok-text.ensures.text in
    let answered : Answers (TellsVerdict None kept c.args.json) g.W.Sink.state writer after r = rw c.deref.ensures.value at c.check_bytes.ensures in
    let all : Answers (TellsVerdict None (kept ++ read.0) c.args.json) g.W.Sink.state writer after r =
    subst (λ answer. Answers (λ verdict text. IsVerdict answer verdict × (text ≡ printed None c.args.json verdict)) g.W.Sink.state writer after r) (sym (same_answer kept read.0 read.3)) answered in
    source_gave g.W.Sink.state writer after (λ bytes. Answers (TellsVerdict None bytes c.args.json) g.W.Sink.state writer after r) (g.R.Source.state c.args.reader.now) (g.R.Source.state c.read_model.new.reader) (kept ++ read.0) r
    read.1 read.2 (answers_no_read (TellsVerdict None kept c.args.json) g.W.Sink.state writer after r answered) all
