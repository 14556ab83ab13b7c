use Rattle.std.proofs.Common.{◌≡◌, ℕ, List, ◌++◌, arith, drop, length, subst}
use Rattle.rc_lsp.specs.Escapes.{repaired}
use Rattle.rc_lsp.proofs.Pieces.{piece_more}
use Rattle.rc_lsp.proofs.escapes.repaired.Goals as goal

pub loop-turn-preserved : goal.loop-turn-preserved
loop-turn-preserved c =
    let rest = c.loop-turn.rest.now in
    let made = subst (λ (piece : List ℕ). c.extend_from_slice.new.self.items ≡ c.loop-turn.whole.items ++ piece) c.first_piece.ensures c.in_ok-extend_from_slice.ensures.items in
    let left = subst (λ (n : ℕ). c.after-rest.result.now ≡ drop n rest) c.piece_length.ensures c.after-rest.ensures in
    piece_more (length c.args.bytes.now) c.loop-turn.turn rest c.after-rest.result.now c.loop-turn.whole.items c.extend_from_slice.new.self.items (repaired c.args.bytes.now) (omega arith) made left c.loop-turn.invariant
