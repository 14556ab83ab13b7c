use Rattle.std.proofs.Common.{◌≡◌, ◌+◌}
use Rattle.rc_lsp.proofs.stream.serve.Given as goal

abbrev pub invariant-loop-turn : goal.invariant-loop-turn
invariant-loop-turn g l = record {
  reads : (g.I.Source.state l.source).reads ≡ (g.I.Source.state l.initial.source).reads + l.turn;
  no_failed_read : (g.I.Source.state l.source).failures ≡ (g.I.Source.state l.initial.source).failures;
  no_failed_write : l.sink.failures ≡ l.initial.sink.failures;
}
