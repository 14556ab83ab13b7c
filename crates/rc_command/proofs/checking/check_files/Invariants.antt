use Rattle.std.proofs.Common.{◌≤◌, take}
use Rattle.rc_command.specs.Checking.{ChecksFile}
use Rattle.rc_console.specs.Files.{Answered, SaysAll}
use Rattle.rc_command.proofs.checking.check_files.Given as goal

abbrev pub invariant-loop-name : goal.invariant-loop-name
invariant-loop-name g l = record {
  answer : Answered (SaysAll (λ name. ChecksFile (g.T.Texts.gives l.texts) l.telling name.now) (take l.name-index l.files))
      (g.S.Sink.state l.initial.sink) (g.S.Sink.state l.sink) (g.E.Sink.state l.initial.errors) (g.E.Sink.state l.errors) l.status;
  bound : l.status ≤ 3;
}
