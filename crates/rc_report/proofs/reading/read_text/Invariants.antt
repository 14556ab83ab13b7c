use Rattle.std.proofs.Common.{◌≡◌, ◌≤◌, ◌+◌, length}
use Rattle.std.specs.Io.KnownBytes.{Consumes}
use Rattle.rc_report.proofs.reading.read_text.Given as goal

abbrev pub invariant-loop-turn : goal.invariant-loop-turn
invariant-loop-turn g l = record {
  consumed : Consumes (g.R.Source.state l.initial.reader).remaining (g.R.Source.state l.reader).remaining l.text.items;
  long : l.turn ≤ length l.text.items;
  reads : (g.R.Source.state l.reader).reads ≡ (g.R.Source.state l.initial.reader).reads + l.turn;
  no_end : (g.R.Source.state l.reader).ends ≡ (g.R.Source.state l.initial.reader).ends;
  no_failure : (g.R.Source.state l.reader).failures ≡ (g.R.Source.state l.initial.reader).failures;
}
