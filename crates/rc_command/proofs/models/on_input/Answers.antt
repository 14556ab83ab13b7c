use Rattle.std.proofs.Common.{None}
use Rattle.std.specs.Global.{Vec}
use Rattle.std.specs.Prelude.{ℕ}
use Rattle.rc_command.proofs.Commands.{all_within, input_done, input_failed, source_failed, text_was_read}
use Rattle.rc_command.specs.Answers.{Says}
use Rattle.rc_command.proofs.models.on_input.Goals as goal
use Rattle.std.proofs.Common.{refl}

pub returns-in_err-text-clause-answer : goal.returns-in_err-text-clause-answer
returns-in_err-text-clause-answer g c =
    input_failed g.S.Sink.state c.args.sink.now c.args.sink.now (g.I.Source.state c.args.source.now) c.args.command.now _ c.from_residual.result
    c.from_residual.ensures.1 c.in_err-text.ensures.fault refl

pub returns-in_err-text-clause-reads : goal.returns-in_err-text-clause-reads
returns-in_err-text-clause-reads g c =
    source_failed (Vec ℕ) c.args.command.now (g.I.Source.state c.args.source.now) (g.I.Source.state c.read_input.new.source) c.from_residual.result _
    c.from_residual.ensures.1 c.in_err-text.ensures.counts

pub returns-clause-reads : goal.returns-clause-reads
returns-clause-reads g c =
    text_was_read c.args.command.now (Says None c.args.command.now c.in_ok-text.text.items) g.S.Sink.state c.args.sink.now c.performed.new.sink (g.I.Source.state c.args.source.now) (g.I.Source.state c.read_input.new.source)
    c.in_ok-text.text c.performed.result c.in_ok-text.ensures.counts (rw c.deref.ensures.value at c.performed.ensures.answer)

pub returns-clause-bound : goal.returns-clause-bound
returns-clause-bound g c = all_within None c.args.command.now c.in_ok-text.text.items g.S.Sink.state c.args.sink.now c.performed.new.sink c.performed.result (rw c.deref.ensures.value at c.performed.ensures.answer)

pub returns-clause-answer : goal.returns-clause-answer
returns-clause-answer g c =
    input_done g.S.Sink.state c.args.sink.now c.performed.new.sink (g.I.Source.state c.args.source.now) c.args.command.now (g.I.Source.state c.read_input.new.source)
    c.in_ok-text.text c.extent.result c.performed.result c.extent.ensures c.in_ok-text.ensures.text (rw c.deref.ensures.value at c.performed.ensures.answer)
