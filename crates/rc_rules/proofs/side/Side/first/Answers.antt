use Rattle.std.proofs.Common.{subst, sym}
use Rattle.rc_lang.specs.Parts.{view_items}
use Rattle.rc_lang.specs.Views.{seen}
use Rattle.rc_split.specs.Holdings.{AreDeclared}
use Rattle.rc_rules.proofs.Headers.{names_declared, once, small}
use Rattle.rc_rules.proofs.side.Side.first.Goals as goal

pub hold-requires-clause-names : goal.hold-requires-clause-names
hold-requires-clause-names c = subst (λ P. AreDeclared P (view_items c.args.items.now)) (sym c.nothing-holding.ensures.of) (names_declared (seen c.args.view) (view_items c.args.items.now) c.requires)

pub hold-requires-clause-once : goal.hold-requires-clause-once
hold-requires-clause-once c = λ u. once (seen c.args.view) (view_items c.args.items.now) u c.requires

pub hold-requires-clause-small : goal.hold-requires-clause-small
hold-requires-clause-small c = λ p. small (seen c.args.view) (view_items c.args.items.now) p c.requires
