use Rattle.std.proofs.Common.{subst, sym, ap}
use Rattle.rc_lang.specs.Parts.{view_items}
use Rattle.rc_split.specs.Holdings.{AreDeclaredOn}
use Rattle.rc_rules.specs.States.{Side}
use Rattle.rc_rules.proofs.Headers.{declared_on, once_on, small_on}
use Rattle.rc_rules.proofs.side.Side.enter.Goals as goal

pub hold_on-requires-clause-names : goal.hold_on-requires-clause-names
hold_on-requires-clause-names c = subst (λ P. AreDeclaredOn P c.args.zero (view_items c.args.items.now)) (sym (ap (λ (s : Side). s.program) c.self.view_is)) (declared_on c.args.self.now.program (view_items c.args.items.now) c.args.zero c.requires)

pub hold_on-requires-clause-once : goal.hold_on-requires-clause-once
hold_on-requires-clause-once c = λ u. once_on c.args.self.now.program (view_items c.args.items.now) c.args.zero u c.requires

pub hold_on-requires-clause-small : goal.hold_on-requires-clause-small
hold_on-requires-clause-small c = λ p. small_on c.args.self.now.program (view_items c.args.items.now) c.args.zero p c.requires
