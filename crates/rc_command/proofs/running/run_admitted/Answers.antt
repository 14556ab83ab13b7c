use Rattle.std.proofs.Common.{◌≡◌, Bool, ℕ, List, true, false, refl, rules}
use Rattle.std.specs.Arc.{arc_value}
use Rattle.rc_lang.specs.Program.{Program}
use Rattle.rc_world.specs.declared.event.Event.{Event}
use Rattle.rc_report.specs.declared.trace.End.{End}
use Rattle.rc_report.specs.Statuses.{status_of_end}
use Rattle.rc_report.specs.Traces.{trace_text}
use Rattle.rc_console.proofs.Answers.{does_as}
use Rattle.rc_command.specs.Answers.{SaysRun, TellsRun}
use Rattle.rc_command.proofs.running.run_admitted.Goals as goal

of_summary : (summary : Bool) (program : Program) (events : List Event) (end : End) (text : List ℕ) → summary ≡ true → TellsRun summary program events end text
of_summary true program events end text e = tt
of_summary false program events end text e = absurd cc

of_trace : (summary : Bool) (program : Program) (events : List Event) (end : End) → summary ≡ false → TellsRun summary program events end (trace_text program events end)
of_trace true program events end e = absurd cc
of_trace false program events end e = refl

pub returns : goal.returns
returns g c =
    let events = c.in_ok-report.report.history.items in
    let last = c.in_ok-report.end in
    let theirs : arc_value c.in_ok-theirs.theirs ≡ c.args.admitted = search rules in
    let program : c.program-2.result.now ≡ c.args.admitted = search rules in
    let ended = rw theirs at c.in_ok-report.ensures.end in
    let wrote = rw (program, c.deref-3.ensures.value) at c.in_ok-trace_text.ensures in
    (trace_text c.args.admitted events last, (c.in_ok-report.report, last, ended, of_trace c.args.summary c.args.admitted events last c.if-summary.false, c.status.ensures.status), wrote)

pub returns-then-summary : goal.returns-then-summary
returns-then-summary g c =
    let events = c.in_ok-report.report.history.items in
    let last = c.in_ok-report.end in
    let theirs : arc_value c.in_ok-theirs.theirs ≡ c.args.admitted = search rules in
    let ended = rw theirs at c.in_ok-report.ensures.end in
    does_as g.S.Sink.state c.args.sink.now c.write_summary.new.sink (λ (status : ℕ) (text : List ℕ). status ≡ status_of_end last) (SaysRun c.args.admitted c.args.limit c.args.summary) c.write_summary.result
    (λ status text is. (c.in_ok-report.report, last, ended, of_summary c.args.summary c.args.admitted events last text c.if-summary.true, is)) c.write_summary.ensures
