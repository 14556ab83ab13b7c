use Rattle.std.proofs.Common.{◌≡◌, ◌++◌, drop, map}
use Rattle.serde_json.specs.View.{view}
use Rattle.rc_command.specs.Drafting.{note_string}
use Rattle.rc_command.proofs.drafting.object.note_strings.Given as goal

abbrev pub invariant-loop-note : goal.invariant-loop-note
invariant-loop-note l = map view l.strings.items ++ map note_string (drop l.note-index l.fn.notes) ≡ map note_string l.fn.notes
