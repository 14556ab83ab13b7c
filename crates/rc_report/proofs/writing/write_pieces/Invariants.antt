use Rattle.std.proofs.Common.{take}
use Rattle.std.specs.List.{flat_map}
use Rattle.rc_report.specs.Streams.{Wrote}
use Rattle.rc_report.proofs.writing.write_pieces.Given as goal

abbrev pub invariant-loop-piece : goal.invariant-loop-piece
invariant-loop-piece g l = Wrote (g.W.Sink.state l.initial.writer) (g.W.Sink.state l.writer) (flat_map (λ p. p.now) (take l.piece-index l.pieces))
