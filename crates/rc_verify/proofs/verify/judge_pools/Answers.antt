use Rattle.std.proofs.Common.{◌≡◌, ◌≤◌, ◌∙◌, arith, length}
use Rattle.rc_rules.specs.Causes.{premise_number}
use Rattle.rc_verify.proofs.Threads.{all_pools, nothing_asked, pool_refused, pools_met, pools_within, stock_length}
use Rattle.rc_verify.proofs.verify.judge_pools.Goals as goal

pub loop-line-init : goal.loop-line-init
loop-line-init c = record { few = omega arith; held = record { of = c.requires.of; each = c.requires.each }; passed = nothing_asked c.args.program.now }

pub judge_pool-requires-clause-within : goal.judge_pool-requires-clause-within
judge_pool-requires-clause-within c = pools_within c.args.program.now c.loop-line.line c.loop-line.invariant.passed

pub returns-in-Err-clause-judged : goal.returns-in-Err-clause-judged
returns-in-Err-clause-judged c =
    let many = stock_length c.args.program.now c.stock-lines.result.now c.stock-lines.ensures.value in
    pool_refused c.args.program.now c.stock-lines.result.now c.loop-line.line (premise_number c.in-Err.cause) c.index-lines-line.result c.stock-lines.ensures.value (omega (arith, many, c.loop-line-test.true)) c.loop-line.invariant.passed c.in-Err.ensures.tests

pub returns-clause-judged : goal.returns-clause-judged
returns-clause-judged c =
    let many = stock_length c.args.program.now c.stock-lines.result.now c.stock-lines.ensures.value in
    let all : c.loop-line.line ≡ length c.args.program.now.stock = omega (arith, many, c.loop-line-test.false, c.loop-line.invariant.few) in
    pools_met c.args.program.now c.loop-line.line all c.loop-line.invariant.passed

pub returns-clause-held : goal.returns-clause-held
returns-clause-held c =
    let many = stock_length c.args.program.now c.stock-lines.result.now c.stock-lines.ensures.value in
    let all : length c.args.program.now.stock ≤ c.loop-line.line = omega (arith, many, c.loop-line-test.false) in
    record { of = c.loop-line.invariant.held.of; each = λ p. c.loop-line.invariant.held.each p ∙ all_pools c.args.program.now c.loop-line.line all p }
