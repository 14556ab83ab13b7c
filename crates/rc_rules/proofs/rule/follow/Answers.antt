use Rattle.std.proofs.Common.{rules}
use Rattle.rc_rules.proofs.rule.follow.Goals as goal

pub returns-in_err-checked : goal.returns-in_err-checked
returns-in_err-checked c = let h = rw (c.lists_of.ensures, c.line_of.ensures) at c.in_err-checked.ensures in search (h, rules)
