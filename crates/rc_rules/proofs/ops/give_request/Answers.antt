use Rattle.std.proofs.Common.{arith}
use Rattle.rc_split.specs.Bags.{TokenOf}
use Rattle.rc_rules.specs.Kinds.{kinds_at}
use Rattle.rc_rules.specs.States.{IsLine}
use Rattle.rc_rules.proofs.Lines.{line_few, line_is, line_token, one_at_most}
use Rattle.rc_rules.proofs.ops.give_request.Goals as goal

pub give_line-requires-clause-declared : goal.give_line-requires-clause-declared
give_line-requires-clause-declared c = line_is _ _ c.args.user_data _ c.token_of.ensures c.view.ensures.value c.view.ensures.made

pub give-requires-clause-fresh : goal.give-requires-clause-fresh
give-requires-clause-fresh c =
    let P = c.args.holding.now.program in
    let u = c.args.user_data in
    omega (arith, c.give_line.ensures.each (TokenOf u), c.requires.free.1, line_token P (kinds_at c.token_of.result) u)

pub give-requires-clause-small : goal.give-requires-clause-small
give-requires-clause-small c = λ p.
    let P = c.args.holding.now.program in
    let l : IsLine P c.token_of.result = line_is P _ c.args.user_data _ c.token_of.ensures c.view.ensures.value c.view.ensures.made in
    omega (arith, c.give_line.ensures.each p, c.requires.small p, line_few P (kinds_at c.token_of.result) p c.view.ensures.made l, one_at_most c.args.user_data p)
