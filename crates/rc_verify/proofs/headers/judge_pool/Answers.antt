use Rattle.std.proofs.Common.{◌+◌, inl, refl}
use Rattle.rc_rules.specs.Labellings.{given_to_pools}
use Rattle.rc_verify.proofs.Sums.{now_held, pooled_with, still_within, stock_items}
use Rattle.rc_verify.proofs.headers.judge_pool.Goals as goal

pub judge_and_hold-requires-clause-alone : goal.judge_and_hold-requires-clause-alone
judge_and_hold-requires-clause-alone c = λ h. inl refl

pub judge_and_hold-requires-clause-within : goal.judge_and_hold-requires-clause-within
judge_and_hold-requires-clause-within c = still_within c.args.program.now _ _ c.requires.held c.requires.within

pub judge_and_hold-requires-clause-items : goal.judge_and_hold-requires-clause-items
judge_and_hold-requires-clause-items c = stock_items _ _ _ _ c.stock.ensures.made c.stock.ensures.value c.requires.there

pub returns-clause-tests : goal.returns-clause-tests
returns-clause-tests c = c.judge_and_hold.ensures.judges _ (pooled_with _ _ _ c.index-stock-line.result _ c.stock.ensures.value c.requires.there c.requires.held)

pub returns-clause-held : goal.returns-clause-held
returns-clause-held c = now_held c.args.program.now c.args.held.now c.judge_and_hold.new.held (given_to_pools c.args.program.now c.args.line) (given_to_pools c.args.program.now (c.args.line + 1)) _ c.judge_and_hold.result c.requires.held (pooled_with _ _ _ c.index-stock-line.result _ c.stock.ensures.value c.requires.there c.requires.held) c.judge_and_hold.ensures.held
