use Rattle.std.proofs.Common.{refl, subst, sym, arith, rules}
use Rattle.rc_split.specs.Bags.{TokenOf, bag_of, plus}
use Rattle.rc_split.specs.Holdings.{AreDeclared, bag}
use Rattle.rc_lang.specs.Parts.{view_items}
use Rattle.rc_lang.proofs.Views.{own_view}
use Rattle.rc_rules.specs.Labellings.{header_premises}
use Rattle.rc_rules.specs.Premises.{Tests}
use Rattle.rc_rules.proofs.Headers.{names_declared}
use Rattle.rc_rules.proofs.Room.{limit_few}
use Rattle.rc_verify.specs.Headers.{times}
use Rattle.rc_verify.proofs.Sums.{all_within}
use Rattle.rc_verify.proofs.headers.judge_and_hold.Goals as goal

pub returns-in_err-judge_items-clause-judges : goal.returns-in_err-judge_items-clause-judges
returns-in_err-judge_items-clause-judges c = λ all same.
    let told : Tests c.judge_items.result (header_premises c.args.program.now all c.args.tokens_allowed) = c.judge_items.ensures all same in
    search rules

pub gain_copies-requires-clause-names : goal.gain_copies-requires-clause-names
gain_copies-requires-clause-names c = subst (λ P. AreDeclared P (view_items c.args.items.now)) (sym c.requires.of) (names_declared _ _ c.requires.items)

pub gain_copies-requires-clause-once : goal.gain_copies-requires-clause-once
gain_copies-requires-clause-once c = λ u. omega (arith, (c.in_ok-judge_items.ensures (plus (bag c.args.held.now) (times c.args.copies (bag_of (view_items c.args.items.now)))) (λ p. refl)).1.0 (TokenOf u))

pub gain_copies-requires-clause-small : goal.gain_copies-requires-clause-small
gain_copies-requires-clause-small c = λ p. omega (arith, all_within c.args.program.now (plus (bag c.args.held.now) (times c.args.copies (bag_of (view_items c.args.items.now)))) c.args.tokens_allowed (c.in_ok-judge_items.ensures (plus (bag c.args.held.now) (times c.args.copies (bag_of (view_items c.args.items.now)))) (λ q. refl)) p, limit_few c.args.program.now p (own_view c.args.program.now c.entries.ensures.made))
