-- What a model is: a program, or the line and the number of a fault.
use Rattle.std.specs.Prelude.{ℕ, ◌+◌, List, [], ◌∷◌, Option, Some, None, Result, Ok, Err, Bool, true, false, if◌then◌else◌, is_none, max}
use Rattle.rc_lang.specs.Program.{Program}
use Rattle.rc_read.specs.declared.parts.Region.{Region}
use Rattle.rc_read.specs.declared.parts.Region.TheVariants.{Start, Second}
use Rattle.rc_read.specs.Sentences.{sentences, first_true, is_inside}
use Rattle.rc_read.specs.Sheets.{Sheet, empty}
use Rattle.rc_read.specs.Adds.{with_line}
use Rattle.rc_read.specs.Words.{text_lines}

-- The lines are judged in order. The first with a true sentence is answered, with the least number.
abbrev pub on_line : Option ℕ → ℕ → Result Sheet (ℕ × ℕ) → Result Sheet (ℕ × ℕ)
on_line None line rest = rest
on_line (Some n) line rest = Err (line, n)

abbrev pub judged : Sheet → List (List ℕ) → Result Sheet (ℕ × ℕ)
judged s [] = Ok s
judged s (line ∷ lines) = on_line (first_true (sentences s line)) (s.count + 1) (judged (with_line s line) lines)

-- The sheet above the first line with a true sentence, and without such a line that after all of them.
abbrev pub above_fault : Sheet → List (List ℕ) → Sheet
above_fault s [] = s
above_fault s (line ∷ lines) = if is_none (first_true (sentences s line)) then above_fault (with_line s line) lines else s

-- What was read is a program.
abbrev pub program_in : Sheet → Program
program_in s = record {
  version = s.head.version;
  entries = s.head.entries;
  completion_entries = s.head.completion_entries;
  left = s.head.left;
  files = s.files;
  buffers = s.buffers;
  tokens = s.tokens;
  pools = s.pools;
  stock = s.stock;
  threads = s.threads;
}

-- The faults of the model's end, at its last line: both head lines aren't there, or blocks are open.
abbrev pub lacks_head : Region → Bool
lacks_head Start = true
lacks_head Second = true
lacks_head _ = false

abbrev pub at_end : Sheet → Result Program (ℕ × ℕ)
at_end s =
    if lacks_head s.region then Err (max s.count 1, 2)
    else (if is_inside s.region then Err (s.count, 7) else Ok (program_in s))

abbrev pub ended : Result Sheet (ℕ × ℕ) → Result Program (ℕ × ℕ)
ended (Ok s) = at_end s
ended (Err f) = Err f

-- The answer of a model.
abbrev pub answer_of : List ℕ → Result Program (ℕ × ℕ)
answer_of bytes = ended (judged empty (text_lines bytes))
