use Rattle.std.proofs.Common.{ℕ, List, arith, take}
use Rattle.std.specs.Borrow.{Bor}
use Rattle.rc_command.specs.Checking.{ChecksFile}
use Rattle.rc_console.specs.Files.{Said, SaysAll}
use Rattle.rc_console.proofs.FileAnswers.{none_yet, one_more, one_stops}
use Rattle.rc_command.proofs.checking.check_files.Goals as goal

pub loop-name-init : goal.loop-name-init
loop-name-init g c = record {
  answer = none_yet (λ (name : Bor (List ℕ)). ChecksFile (g.T.Texts.gives c.args.texts.now) c.args.telling name.now) (g.S.Sink.state c.args.sink.now) (g.E.Sink.state c.args.errors.now) c.requires.told;
  bound = omega arith;
}

pub loop-name-preserved : goal.loop-name-preserved
loop-name-preserved g c = record {
  answer = one_more (λ (name : Bor (List ℕ)). ChecksFile (g.T.Texts.gives c.args.texts.now) c.args.telling name.now) c.args.files.now c.loop-name.name-index _
      (g.S.Sink.state c.args.sink.now) (g.S.Sink.state c.loop-name.sink) (g.S.Sink.state c.check_file.new.sink) (g.E.Sink.state c.args.errors.now) (g.E.Sink.state c.loop-name.errors) (g.E.Sink.state c.check_file.new.errors)
      c.loop-name.status c.in_ok-check_file.field-0 c.max-status.result c.loop-name-test.true c.max-status.ensures c.loop-name.invariant.answer c.in_ok-check_file.ensures.answer;
  bound = omega (arith, c.max-status.ensures, c.loop-name.invariant.bound, c.in_ok-check_file.ensures.bound);
}

pub returns-in_err-check_file-clause-answer : goal.returns-in_err-check_file-clause-answer
returns-in_err-check_file-clause-answer g c =
    let says = λ (name : Bor (List ℕ)). ChecksFile (g.T.Texts.gives c.args.texts.now) c.args.telling name.now in
    one_stops g.S.Sink.state g.E.Sink.state (SaysAll says (take c.loop-name.name-index c.args.files.now)) (λ (said : Said). Unit {0}) (SaysAll says c.args.files.now) c.args.sink.now c.loop-name.sink c.check_file.new.sink
    c.args.errors.now c.loop-name.errors c.check_file.new.errors c.loop-name.status _ c.from_residual.result c.from_residual.ensures.1 c.loop-name.invariant.answer c.in_err-check_file.ensures.answer
