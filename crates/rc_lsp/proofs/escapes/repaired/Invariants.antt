use Rattle.std.proofs.Common.{◌≡◌, ◌-◌, ◌++◌, length}
use Rattle.rc_lsp.specs.Escapes.{repaired, repaired_in}
use Rattle.rc_lsp.proofs.escapes.repaired.Given as goal

abbrev pub invariant-loop-turn : goal.invariant-loop-turn
invariant-loop-turn l = l.whole.items ++ repaired_in (length l.bytes - l.turn) l.rest ≡ repaired l.bytes
