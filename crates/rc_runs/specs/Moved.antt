-- What a model and its moves name: the steps of a program, or what can't be read.
use Rattle.std.specs.Prelude.{ℕ, ◌≡◌, List, Result, Ok, Err}
use Rattle.rc_lang.specs.Program.{Program}
use Rattle.rc_read.specs.Causes.{number_of_cause}
use Rattle.rc_report.specs.declared.step_engine.NoSteps.{NoSteps}
use Rattle.rc_report.specs.declared.step_engine.NoSteps.TheVariants.{Text, Schedule}
use Rattle.rc_world.specs.declared.event.Item.{Item}
use Rattle.rc_runs.specs.declared.moves.Move.{Move}
use Rattle.rc_runs.specs.declared.steps.Moved.{Moved}
use Rattle.rc_runs.specs.Moves.{moves_of}
use Rattle.rc_runs.specs.Spelling.{counts_of, schedule_of}

-- This can't be read, of the model or of the moves.
abbrev pub IsUnread : Result Program (ℕ × ℕ) → List ℕ → NoSteps → Type 0
IsUnread (Ok program) text (Text line cause) = ⊥
IsUnread (Ok program) text (Schedule i) = moves_of program text ≡ Err i
IsUnread (Err (line, number)) text (Text l cause) = (l ≡ line) × (number_of_cause cause ≡ number)
IsUnread (Err (line, number)) text (Schedule i) = ⊥

-- The program is the model's, the items are the schedule that the moves spell, and the counts are theirs.
pub record IsMoved (answer : Result Program (ℕ × ℕ)) (text : List ℕ) (moved : Moved) : Type 0 where
  pub program : answer ≡ Ok moved.steps.program
  pub moves : moves_of moved.steps.program text ≡ Ok moved.moves.items
  pub items : moved.steps.items.items ≡ schedule_of moved.steps.program moved.moves.items
  pub counts : moved.counts.items ≡ counts_of moved.steps.program moved.moves.items

abbrev pub ReadsMoved : Result Program (ℕ × ℕ) → List ℕ → Result Moved NoSteps → Type 0
ReadsMoved answer text (Ok moved) = IsMoved answer text moved
ReadsMoved answer text (Err unread) = IsUnread answer text unread

-- The schedule that moves spell, or the number of the first piece that names none.
abbrev pub spelled_or : Program → Result (List Move) ℕ → Result (List Item) ℕ
spelled_or program (Ok moves) = Ok (schedule_of program moves)
spelled_or program (Err i) = Err i

abbrev pub moved_items : Program → List ℕ → Result (List Item) ℕ
moved_items program text = spelled_or program (moves_of program text)
