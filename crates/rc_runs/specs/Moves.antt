-- Moves as text: what stands between commas, blanks and line feeds. Each is an item of a schedule, `NAME*N` or `NAME@L`.
use Rattle.std.specs.Prelude.{ℕ, ◌≡◌, ◌+◌, ◌-◌, ◌^◌, Bool, true, false, ◌&&◌, ◌||◌, ◌==◌, if◌then◌else◌, List, [], ◌∷◌, ◌++◌, length, filter_map, flat_map, position, Option, Some, None, is_none, nat_eq, option_map, option_and_then, Result, Ok, Err}
use Rattle.std.specs.Global.{Vec}
use Rattle.std.specs.List.{filter, list_any, slice_split}
use Rattle.rc_lang.specs.declared.lines.Line.{Line}
use Rattle.rc_lang.specs.declared.lines.Stmt.{Stmt}
use Rattle.rc_lang.specs.declared.lines.Stmt.TheVariants.{Else, EndIf, Case, Other, Nothing, EndArm, EndPeek}
use Rattle.rc_lang.specs.Numbers.{number_of}
use Rattle.rc_lang.specs.Program.{Program, lines_of}
use Rattle.rc_world.specs.declared.schedule.ScheduleFault.{ScheduleFault}
use Rattle.rc_world.specs.declared.schedule.ScheduleFault.TheVariants.{Unreadable, OutOfMemory}
use Rattle.rc_world.specs.Schedule.{halves, item_of, items_or, thread_named}
use Rattle.rc_runs.specs.declared.moves.Move.{Move}
use Rattle.rc_runs.specs.declared.moves.Move.TheVariants.{One, Steps, Until}

-- ---- the pieces of moves

-- Comma, space, tab and carriage return stand between pieces.
abbrev pub is_separator : ℕ → Bool
is_separator b = b == 44 || b == 32 || b == 9 || b == 13

-- what is before the first `#` of a line, where a comment begins
abbrev pub before_comment : List ℕ → Option (List ℕ × List ℕ) → List ℕ
before_comment line None = line
before_comment line (Some (words, comment)) = words

abbrev pub uncommented : List ℕ → List ℕ
uncommented line = before_comment line (halves 35 line)

abbrev pub is_some_piece : List ℕ → Bool
is_some_piece [] = false
is_some_piece (b ∷ bytes) = true

-- The pieces of a line. What is empty between two separators is no piece.
abbrev pub pieces_of_line : List ℕ → List (List ℕ)
pieces_of_line line = filter is_some_piece (slice_split is_separator (uncommented line))

-- The pieces of all lines.
abbrev pub pieces_of : List ℕ → List (List ℕ)
pieces_of text = flat_map pieces_of_line (slice_split (λ b. b == 10) text)

-- ---- the moves of the pieces

-- A thread stands at lines that are events alone. The closing braces of an if and of an arm, an else, and the first
-- lines of arms go with the step before them.
abbrev pub is_event : Stmt → Bool
is_event (Else o) = false
is_event (EndIf o) = false
is_event (Case o u) = false
is_event (Other o) = false
is_event (Nothing o) = false
is_event (EndArm o) = false
is_event (EndPeek o) = false
is_event _ = true

-- One of the lines has this number, and a thread can stand there.
abbrev pub has_stop : List Line → ℕ → Bool
has_stop lines n = list_any (λ (l : Line). nat_eq l.number n && is_event l.stmt) lines

-- `NAME*N`, of 1 to 65,536 steps
abbrev pub steps_of : Program → List ℕ → List ℕ → Option Move
steps_of program name count = option_and_then (λ i. option_map (λ n. Steps i n) (number_of 1 65536 count)) (thread_named program name)

-- `NAME@L`, of a line at which the thread can stand
abbrev pub until_line : Program → ℕ → ℕ → Option Move
until_line program i n = if has_stop (lines_of program i) n then Some (Until i n) else None

abbrev pub until_of : Program → List ℕ → List ℕ → Option Move
until_of program name line = option_and_then (λ i. option_and_then (until_line program i) (number_of 1 (2 ^ 32 - 1) line)) (thread_named program name)

-- a piece without a `*`, cut at its first `@`
abbrev pub without_star : Program → List ℕ → Option (List ℕ × List ℕ) → Option Move
without_star program piece None = option_map (λ item. One item) (item_of program piece)
without_star program piece (Some (name, line)) = until_of program name line

-- a piece that is cut at its first `*`
abbrev pub move_by : Program → List ℕ → Option (List ℕ × List ℕ) → Option Move
move_by program piece None = without_star program piece (halves 64 piece)
move_by program piece (Some (name, count)) = steps_of program name count

-- The move that a piece names, if it names one.
abbrev pub move_of : Program → List ℕ → Option Move
move_of program piece = move_by program piece (halves 42 piece)

-- The moves of pieces, or the number of the first one that names none, from 1.
abbrev pub moves_in : Program → List (List ℕ) → Result (List Move) ℕ
moves_in program pieces = items_or (position (λ piece. is_none (move_of program piece)) pieces) (filter_map (move_of program) pieces)

abbrev pub moves_of : Program → List ℕ → Result (List Move) ℕ
moves_of program text = moves_in program (pieces_of text)

-- what reading moves answers
abbrev pub ReadsMoves : Program → List ℕ → Result (Vec Move) ScheduleFault → Type 0
ReadsMoves program text (Ok moves) = moves_of program text ≡ Ok moves.items
ReadsMoves program text (Err (Unreadable n)) = moves_of program text ≡ Err n
ReadsMoves program text (Err OutOfMemory) = Unit {0}

-- What reading the pieces of one more line answers, after these moves.
abbrev pub ReadsMore : {X : Type 0} → Program → List (List ℕ) → List Move → List Move → Result X ScheduleFault → Type 0
ReadsMore program pieces old new (Ok x) = (more : List Move) × (moves_in program pieces ≡ Ok more) × (new ≡ old ++ more)
ReadsMore program pieces old new (Err (Unreadable n)) = (k : ℕ) × (moves_in program pieces ≡ Err k) × (n ≡ length old + k)
ReadsMore program pieces old new (Err OutOfMemory) = Unit {0}
