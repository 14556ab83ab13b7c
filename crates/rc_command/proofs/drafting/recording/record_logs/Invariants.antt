use Rattle.std.proofs.Common.{take}
use Rattle.rc_command.specs.Drafting.{AreRecorded, texts_of}
use Rattle.rc_command.proofs.drafting.recording.record_logs.Given as goal

abbrev pub invariant-loop-name : goal.invariant-loop-name
invariant-loop-name g l = AreRecorded (texts_of (take l.name-index l.names)) l.logs.items
