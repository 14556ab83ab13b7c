use Rattle.std.proofs.Common.{rules, ◌++◌, ◌<◌, ◌≤◌, inr, length, take, arith}
use Rattle.rc_report.proofs.Settled.{bound_kept, consumes_both, long_kept, piece_kept}
use Rattle.rc_report.proofs.reading.read_model.Goals as goal

pub loop-turn-preserved : goal.loop-turn-preserved
loop-turn-preserved g c =
    let kept = c.loop-turn.invariant.kept in
    let old = c.loop-turn.model.items in
    let new = c.keep.new.text.items in
    let piece = take c.in-Ok.count c.read.new.buffer in
    let said = c.in_ok-is_settled-in-Ok.ensures in
    let next = piece_kept c.loop-turn.is_settled c.in_ok-is_settled-in-Ok.is_settled old kept.0 piece new kept.2 said in
    let some : 0 < length piece = search rules in
    let short : length piece ≤ c.room_of-room.result = search rules in
    record {
      kept = (next.0, consumes_both _ _ _ (old ++ kept.0) piece (new ++ next.0) next.1 kept.1 c.in-Ok.ensures.1, next.2, long_kept old kept.0 piece new next.0 c.loop-turn.turn next.1 some kept.3);
      bound = bound_kept c.loop-turn.is_settled c.in_ok-is_settled-in-Ok.is_settled old piece new c.room_of-room.result c.loop-turn.turn said short (λ unsettled. omega (arith, c.room_of-room.ensures.few unsettled, c.len.ensures)) c.loop-turn.invariant.bound;
      reads = search rules;
      no_end = search rules;
      no_failure = search rules;
    }

pub returns-clause-counts : goal.returns-clause-counts
returns-clause-counts g c =
    let kept = c.loop-turn.invariant.kept in
    inr (record {
      reads = omega (arith, c.loop-turn.invariant.reads, c.loop-turn-test.false, c.loop-turn.auto.turn-end);
      no_end = c.loop-turn.invariant.no_end;
      no_failure = c.loop-turn.invariant.no_failure;
      bytes = c.loop-turn.model.items ++ kept.0;
      many = omega (arith, kept.3, c.loop-turn-test.false);
      given = kept.1;
    })
