use Rattle.std.proofs.Common.{map}
use Rattle.rc_lang.specs.Parts.{view_items}
use Rattle.rc_split.specs.Holdings.{bag}
use Rattle.rc_rules.proofs.Passing.{first_unmet}
use Rattle.rc_rules.proofs.needs.+all_met.Goals as goal

pub returns-then-not-is_met : goal.returns-then-not-is_met
returns-then-not-is_met t c = first_unmet c.args.holding.now.program (map view_items c.args.lists.now) c.args.zero (bag c.args.holding.now) c.args.mode c.requires.0 c.args.needs.now _ (c.in-Some.cause, c.in-Some.asks) c.in-len1-up.len_at_least c.in-Some.is c.requires.1 (λ h. let e = c.is_met.ensures.1 h in cc (e, c.if-not-is_met.true))
