use Rattle.std.proofs.Common.{◌≡◌, ◌≤◌, ◌+◌, ◌*◌, ◌++◌, ℕ, List, length}
use Rattle.std.specs.Io.KnownBytes.{Consumes}
use Rattle.rc_report.proofs.Settled.{IsEnough}
use Rattle.rc_report.proofs.reading.read_model.Given as goal

abbrev pub invariant-loop-turn : goal.invariant-loop-turn
invariant-loop-turn g l = record {
  kept : (rest : List ℕ) × Consumes (g.R.Source.state l.initial.reader).remaining (g.R.Source.state l.reader).remaining (l.model.items ++ rest) × IsEnough l.is_settled l.model.items rest × (l.turn ≤ length (l.model.items ++ rest));
  bound : length l.model.items ≤ 2097664 + 8 * l.turn;
  reads : (g.R.Source.state l.reader).reads ≡ (g.R.Source.state l.initial.reader).reads + l.turn;
  no_end : (g.R.Source.state l.reader).ends ≡ (g.R.Source.state l.initial.reader).ends;
  no_failure : (g.R.Source.state l.reader).failures ≡ (g.R.Source.state l.initial.reader).failures;
}
