use Rattle.std.proofs.Common.{◌≡◌, refl, subst, sym}
use Rattle.rc_report.specs.declared.engine_fault.EngineFault.TheVariants.{OutOfMemory}
use Rattle.rc_console.specs.declared.fault.CommandFault.TheVariants.{Engine}
use Rattle.rc_command.specs.Following.{said_of}
use Rattle.rc_command.specs.Drafting.{SaysDraft}
use Rattle.rc_command.proofs.Following.{whole_as, whole_nothing}
use Rattle.rc_command.proofs.drafting.answers.draft_logs.Goals as goal

pub returns-in_err-answer-clause-answer : goal.returns-in_err-answer-clause-answer
returns-in_err-answer-clause-answer g c =
    whole_nothing g.S.Sink.state c.args.sink.now c.args.sink.now g.E.Sink.state c.args.errors.now c.args.errors.now (SaysDraft (g.T.Logs.opens c.args.texts.now) c.args.asked.now)
    (Engine OutOfMemory) c.from_residual.result c.from_residual.ensures.1 tt refl refl

pub returns-clause-answer : goal.returns-clause-answer
returns-clause-answer g c =
    let says = SaysDraft (g.T.Logs.opens c.args.texts.now) c.args.asked.now in
    whole_as g.S.Sink.state c.args.sink.now c.tell_answer.new.sink g.E.Sink.state c.args.errors.now c.tell_answer.new.errors (λ said. said ≡ said_of c.in_ok-answer.answer) says c.tell_answer.result
    (λ said is. subst says (sym is) c.in_ok-answer.ensures) c.tell_answer.ensures.answer
