use Rattle.std.proofs.Common.{◌≡◌, ◌++◌, drop}
use Rattle.rc_command.specs.Drafting.{note_lines}
use Rattle.rc_command.proofs.drafting.printed.put_notes.Given as goal

abbrev pub invariant-loop-note : goal.invariant-loop-note
invariant-loop-note l = l.told.items ++ note_lines (drop l.note-index l.notes) ≡ l.fn.told.items ++ note_lines l.notes
