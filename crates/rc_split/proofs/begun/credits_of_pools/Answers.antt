use Rattle.std.proofs.Common.{◌≡◌, ap, arith, get_or}
use Rattle.rc_lang.specs.Views.{seen}
use Rattle.rc_split.proofs.Given.{first_stock, stock_with, next_stock}
use Rattle.rc_split.proofs.begun.credits_of_pools.Goals as goal

pub overflow_add-given : goal.overflow_add-given
overflow_add-given c =
    let lines = c.stock-lines.result.now in
    let line = c.line-item.result in
    let here : stock_with line ≡ stock_with (get_or lines c.loop-line.line-index line) = ap stock_with c.line-item.is in
    let few = next_stock (seen c.args.view) c.requires lines c.stock-lines.ensures c.loop-line.line-index line c.loop-line-test.true in
    omega (arith, c.loop-line.invariant, here, few)

pub returns-clause-few : goal.returns-clause-few
returns-clause-few c = omega (arith, c.loop-line.invariant, first_stock (seen c.args.view) c.requires c.stock-lines.result.now c.stock-lines.ensures c.loop-line.line-index)
