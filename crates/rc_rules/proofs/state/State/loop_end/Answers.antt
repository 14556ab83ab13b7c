use Rattle.std.proofs.Common.{rules}
use Rattle.rc_rules.proofs.state.State.loop_end.Goals as goal

pub returns-in_err-checked : goal.returns-in_err-checked
returns-in_err-checked c = let h = rw c.from_ref.ensures.value at c.in_err-checked.ensures in search (h, rules)
