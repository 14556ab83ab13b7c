use Rattle.std.proofs.Common.{◌≡◌, length, drop, eqb}
use Rattle.std.specs.List.{slice_split}
use Rattle.rc_runs.specs.Moves.{moves_of}
use Rattle.rc_runs.proofs.Reading.{read_lines}
use Rattle.rc_runs.proofs.moves.read_moves.Given as goal

abbrev pub invariant-loop-line : goal.invariant-loop-line
invariant-loop-line l = read_lines l.program l.read.items (drop (length l.yielded) (slice_split (λ b. eqb b 10) l.moves)) ≡ moves_of l.program l.moves
