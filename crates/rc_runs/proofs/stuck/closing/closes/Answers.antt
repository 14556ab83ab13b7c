use Rattle.std.proofs.Common.{◌≤◌, length, arith}
use Rattle.rc_runs.proofs.Closed.{closed_below, has_on, quiet_more}
use Rattle.rc_runs.proofs.stuck.closing.closes.Goals as goal

pub returns-then-number-len : goal.returns-then-number-len
returns-then-number-len c = λ _.
    let all : length c.loop-number.reached.worlds.items ≤ c.loop-number.number = omega (arith, c.len.ensures, c.if-number-len.true, c.loop-number.reached.worlds.ok.0) in
    closed_below c.args.kept.now c.loop-number.reached.worlds.items c.loop-number.number c.args.world.now all c.loop-number.invariant.quiet c.loop-number.invariant.there

pub loop-number-preserved : goal.loop-number-preserved
loop-number-preserved c =
    let before = c.loop-number.invariant in
    let grown = c.in_ok-close.ensures.grown in
    record {
      there = has_on c.args.kept.now _ _ c.args.world.now grown before.there;
      alike = grown.alike before.alike;
      quiet = quiet_more c.args.kept.now _ _ c.loop-number.number grown (omega (arith, c.len.ensures, c.if-number-len.false, c.loop-number.reached.worlds.ok.0)) before.quiet (c.in_ok-close.ensures.quiet c.if-not-branch.false);
    }
