-- Moves that are read piece by piece and line by line.
use Rattle.std.proofs.Common.{◌≡◌, ℕ, ◌+◌, ◌<◌, List, [], ◌∷◌, ◌++◌, length, drop, get_or, true, false, refl, sym, ap, subst, ◌∙◌, arith, eqb}
use Rattle.std.specs.Prelude.{Option, Some, None, Result, Ok, Err, flat_map}
use Rattle.std.specs.List.{filter}
use Rattle.std.proofs.lemmas.Bool.{eqb-true}
use Rattle.std.proofs.lemmas.List.{at_drop_more, at_drop_all}
use Rattle.std.specs.Global.{Vec}
use Rattle.std.specs.Prelude.{IsErrAnd}
use Rattle.rc_lang.specs.Program.{Program}
use Rattle.rc_world.proofs.Pieces.{read_more, read_on, read_on_is}
use Rattle.rc_runs.specs.declared.moves.Move.{Move}
use Rattle.rc_world.specs.declared.schedule.ScheduleFault.{ScheduleFault}
use Rattle.rc_world.specs.declared.schedule.ScheduleFault.TheVariants.{Unreadable, OutOfMemory}
use Rattle.rc_runs.specs.Moves.{ReadsMore, ReadsMoves, is_some_piece, move_of, moves_in, moves_of, pieces_of, pieces_of_line}

-- ---- the pieces of a line, some of them empty

-- what is read of pieces, of which the empty ones are none
abbrev pub read_some : Program → List Move → List (List ℕ) → Result (List Move) ℕ
read_some program moves pieces = read_on (move_of program) moves (filter is_some_piece pieces)

turn_is : (program : Program) (moves : List Move) (pieces : List (List ℕ)) (n : ℕ) (piece : List ℕ) → (n < length pieces) × (piece ≡ get_or pieces n piece) → read_some program moves (drop n pieces) ≡ read_some program moves (piece ∷ drop (n + 1) pieces)
turn_is program moves pieces n piece h =
    at_drop_more (read_some program moves) pieces n piece h.0 ∙ ap (λ (p : List ℕ). read_some program moves (p ∷ drop (n + 1) pieces)) (sym h.1)

an_empty : (program : Program) (moves : List Move) (piece : List ℕ) (pieces : List (List ℕ)) → eqb (length piece) 0 ≡ true → read_some program moves (piece ∷ pieces) ≡ read_some program moves pieces
an_empty program moves [] pieces e = refl
an_empty program moves (b ∷ bytes) pieces e = absurd (omega (arith, eqb-true (length (b ∷ bytes)) 0 e))

a_piece : (program : Program) (moves : List Move) (piece : List ℕ) (pieces : List (List ℕ)) → eqb (length piece) 0 ≡ false → read_some program moves (piece ∷ pieces) ≡ read_more moves (λ more. read_some program more pieces) (move_of program piece)
a_piece program moves [] pieces e = absurd cc
a_piece program moves (b ∷ bytes) pieces e = refl

pub skips_empty : (program : Program) (moves : List Move) (pieces : List (List ℕ)) (n m : ℕ) (piece : List ℕ) (whole : Result (List Move) ℕ) → (n < length pieces) × (piece ≡ get_or pieces n piece) → eqb (length piece) 0 ≡ true → m ≡ n + 1 →
    read_some program moves (drop n pieces) ≡ whole → read_some program moves (drop m pieces) ≡ whole
skips_empty program moves pieces n m piece whole h e next k =
    rw next (sym (an_empty program moves piece (drop (n + 1) pieces) e) ∙ sym (turn_is program moves pieces n piece h) ∙ k)

pub takes_piece : (program : Program) (moves new : List Move) (pieces : List (List ℕ)) (n m : ℕ) (piece : List ℕ) (move : Move) (whole : Result (List Move) ℕ) → (n < length pieces) × (piece ≡ get_or pieces n piece) → eqb (length piece) 0 ≡ false → m ≡ n + 1 →
    move_of program piece ≡ Some move → new ≡ moves ++ move ∷ [] → read_some program moves (drop n pieces) ≡ whole → read_some program new (drop m pieces) ≡ whole
takes_piece program moves new pieces n m piece move whole h e next is more k =
    rw (next, more)
    (sym (ap (read_more moves (λ more. read_some program more (drop (n + 1) pieces))) is) ∙ sym (a_piece program moves piece (drop (n + 1) pieces) e) ∙ sym (turn_is program moves pieces n piece h) ∙ k)

pub stops_at_piece : (program : Program) (moves : List Move) (pieces : List (List ℕ)) (n count : ℕ) (piece : List ℕ) (whole : Result (List Move) ℕ) → (n < length pieces) × (piece ≡ get_or pieces n piece) → eqb (length piece) 0 ≡ false →
    move_of program piece ≡ None → count ≡ length moves → read_some program moves (drop n pieces) ≡ whole → whole ≡ Err (count + 1)
stops_at_piece program moves pieces n count piece whole h e none is k =
    rw is (sym k ∙ turn_is program moves pieces n piece h ∙ a_piece program moves piece (drop (n + 1) pieces) e ∙ ap (read_more moves (λ more. read_some program more (drop (n + 1) pieces))) none)

pub ends_with_all : (program : Program) (moves : List Move) (pieces : List (List ℕ)) (n : ℕ) (whole : Result (List Move) ℕ) → n ≡ length pieces → read_some program moves (drop n pieces) ≡ whole → whole ≡ Ok moves
ends_with_all program moves pieces n whole e k = sym k ∙ at_drop_all (read_some program moves) pieces n (omega (arith, e))

-- ---- what reading on says of the moves of the pieces

abbrev pub joined : List Move → Result (List Move) ℕ → Result (List Move) ℕ
joined moves (Ok more) = Ok (moves ++ more)
joined moves (Err n) = Err (length moves + n)

joined_is : (program : Program) (moves : List Move) (pieces : List (List ℕ)) (r : Result (List Move) ℕ) → moves_in program pieces ≡ r → read_on (move_of program) moves pieces ≡ joined moves r
joined_is program moves pieces (Ok more) e = rw e at (read_on_is (move_of program) moves pieces)
joined_is program moves pieces (Err n) e = rw e at (read_on_is (move_of program) moves pieces)

pub reads_on : (program : Program) (moves : List Move) (pieces : List (List ℕ)) → read_on (move_of program) moves pieces ≡ joined moves (moves_in program pieces)
reads_on program moves pieces = joined_is program moves pieces (moves_in program pieces) refl

more_of : (moves new : List Move) (r : Result (List Move) ℕ) → joined moves r ≡ Ok new → (more : List Move) × (r ≡ Ok more) × (new ≡ moves ++ more)
more_of moves new (Ok more) e = (more, refl, cc)
more_of moves new (Err n) e = absurd cc

number_of : (moves : List Move) (k : ℕ) (r : Result (List Move) ℕ) → joined moves r ≡ Err k → (n : ℕ) × (r ≡ Err n) × (k ≡ length moves + n)
number_of moves k (Ok more) e = absurd cc
number_of moves k (Err n) e = (n, refl, cc)

-- All pieces of a line were read, or the reading stopped at one.
pub reads_line : (program : Program) (moves new : List Move) (pieces : List (List ℕ)) → read_on (move_of program) moves pieces ≡ Ok new → (more : List Move) × (moves_in program pieces ≡ Ok more) × (new ≡ moves ++ more)
reads_line program moves new pieces e = more_of moves new (moves_in program pieces) (sym (reads_on program moves pieces) ∙ e)

pub stops_in_line : (program : Program) (moves : List Move) (pieces : List (List ℕ)) (k : ℕ) → read_on (move_of program) moves pieces ≡ Err k → (n : ℕ) × (moves_in program pieces ≡ Err n) × (k ≡ length moves + n)
stops_in_line program moves pieces k e = number_of moves k (moves_in program pieces) (sym (reads_on program moves pieces) ∙ e)

-- ---- line by line

abbrev then_on : Result (List Move) ℕ → (List Move → Result (List Move) ℕ) → Result (List Move) ℕ
then_on (Ok more) rest = rest more
then_on (Err n) rest = Err n

abbrev on : Program → List Move → List (List ℕ) → Result (List Move) ℕ
on program moves pieces = read_on (move_of program) moves pieces

by_piece : (program : Program) (moves : List Move) (some rest : List (List ℕ)) (o : Option Move) → ((more : List Move) → on program more (some ++ rest) ≡ then_on (on program more some) (λ last. on program last rest)) →
    read_more moves (λ more. on program more (some ++ rest)) o ≡ then_on (read_more moves (λ more. on program more some) o) (λ last. on program last rest)
by_piece program moves some rest None h = refl
by_piece program moves some rest (Some move) h = h (moves ++ move ∷ [])

on_append : (program : Program) (moves : List Move) (some rest : List (List ℕ)) → on program moves (some ++ rest) ≡ then_on (on program moves some) (λ last. on program last rest)
on_append program moves [] rest = refl
on_append program moves (piece ∷ some) rest = by_piece program moves some rest (move_of program piece) (λ more. on_append program more some rest)

-- what is read of the lines from number n on
abbrev pub read_lines : Program → List Move → List (List ℕ) → Result (List Move) ℕ
read_lines program moves lines = on program moves (flat_map pieces_of_line lines)

line_is : (program : Program) (moves : List Move) (lines : List (List ℕ)) (n : ℕ) (line : List ℕ) → (n < length lines) × (line ≡ get_or lines n line) →
    read_lines program moves (drop n lines) ≡ then_on (joined moves (moves_in program (pieces_of_line line))) (λ last. read_lines program last (drop (n + 1) lines))
line_is program moves lines n line h =
    at_drop_more (read_lines program moves) lines n line h.0 ∙ ap (λ (l : List ℕ). read_lines program moves (l ∷ drop (n + 1) lines)) (sym h.1)
    ∙ on_append program moves (pieces_of_line line) (flat_map pieces_of_line (drop (n + 1) lines))
    ∙ ap (λ (r : Result (List Move) ℕ). then_on r (λ last. read_lines program last (drop (n + 1) lines))) (reads_on program moves (pieces_of_line line))

pub lines_begin : (program : Program) (text : List ℕ) (moves : List Move) (lines : List (List ℕ)) → moves ≡ [] → pieces_of text ≡ flat_map pieces_of_line lines → read_lines program moves lines ≡ moves_of program text
lines_begin program text moves lines none e =
    rw none (reads_on program [] (flat_map pieces_of_line lines) ∙ none_before (moves_in program (flat_map pieces_of_line lines)) ∙ ap (moves_in program) (sym e)) where
      none_before : (r : Result (List Move) ℕ) → joined [] r ≡ r
      none_before (Ok more) = refl
      none_before (Err n) = ap error (omega arith) where
        error : ℕ → Result (List Move) ℕ
        error k = Err k

pub takes_line : (program : Program) (moves new more : List Move) (lines : List (List ℕ)) (n m : ℕ) (line : List ℕ) (whole : Result (List Move) ℕ) → (n < length lines) × (line ≡ get_or lines n line) → m ≡ n + 1 →
    moves_in program (pieces_of_line line) ≡ Ok more → new ≡ moves ++ more → read_lines program moves (drop n lines) ≡ whole → read_lines program new (drop m lines) ≡ whole
takes_line program moves new more lines n m line whole h next read is k =
    rw (next, is)
    (sym (ap (λ (r : Result (List Move) ℕ). then_on (joined moves r) (λ last. read_lines program last (drop (n + 1) lines))) read) ∙ sym (line_is program moves lines n line h) ∙ k)

pub stops_at_line : (program : Program) (moves : List Move) (lines : List (List ℕ)) (n k j : ℕ) (line : List ℕ) (whole : Result (List Move) ℕ) → (n < length lines) × (line ≡ get_or lines n line) →
    moves_in program (pieces_of_line line) ≡ Err k → j ≡ length moves + k → read_lines program moves (drop n lines) ≡ whole → whole ≡ Err j
stops_at_line program moves lines n k j line whole h read is e =
    rw is (sym e ∙ line_is program moves lines n line h ∙ ap (λ (r : Result (List Move) ℕ). then_on (joined moves r) (λ last. read_lines program last (drop (n + 1) lines))) read)

pub lines_end : (program : Program) (moves : List Move) (lines : List (List ℕ)) (n : ℕ) (whole : Result (List Move) ℕ) → n ≡ length lines → read_lines program moves (drop n lines) ≡ whole → whole ≡ Ok moves
lines_end program moves lines n whole e k = sym k ∙ at_drop_all (read_lines program moves) lines n (omega (arith, e))

-- The reading of a line failed.
pub line_fails : (X : Type 0) (program : Program) (text : List ℕ) (moves new : List Move) (lines : List (List ℕ)) (n : ℕ) (line : List ℕ) (f : ScheduleFault) (r : Result (Vec Move) ScheduleFault) → (n < length lines) × (line ≡ get_or lines n line) →
    IsErrAnd r (λ e. e ≡ f) → ReadsMore {X = X} program (pieces_of_line line) moves new (Err f) → read_lines program moves (drop n lines) ≡ moves_of program text → ReadsMoves program text r
line_fails X program text moves new lines n line f (Ok read) h is fails k = absurd is
line_fails X program text moves new lines n line f (Err e) h is fails k = subst (λ (g : ScheduleFault). ReadsMoves program text (Err g)) (sym is) (by f fails) where
  by : (f : ScheduleFault) → ReadsMore {X = X} program (pieces_of_line line) moves new (Err f) → ReadsMoves program text (Err f)
  by (Unreadable j) (place, read, is) = stops_at_line program moves lines n place j line (moves_of program text) h read is k
  by OutOfMemory fails = tt
