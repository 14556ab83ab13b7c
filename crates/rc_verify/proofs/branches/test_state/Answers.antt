use Rattle.std.proofs.Common.{map, subst}
use Rattle.rc_lang.specs.Parts.{view_items}
use Rattle.rc_lang.specs.declared.lines.Test.TheVariants.{Take}
use Rattle.rc_rules.specs.States.{program_of}
use Rattle.rc_verify.specs.Branches.{MayTest}
use Rattle.rc_verify.proofs.Branching.{chosen, compared, taken_from}
use Rattle.rc_verify.proofs.Placing.{items_here}
use Rattle.rc_verify.proofs.branches.test_state.Goals as goal

pub returns-in-Compare : goal.returns-in-Compare
returns-in-Compare c = compared _ c.args.state.now c.take_branch.new.state c.args.test _ _ _ c.in-Compare.is c.take_branch.ensures

pub returns-in-Take : goal.returns-in-Take
returns-in-Take c =
    let may : MayTest (program_of c.args.state.now) (map view_items c.args.lists.now) (Take c.in-Take.pool c.in-Take.k) = subst (MayTest (program_of c.args.state.now) (map view_items c.args.lists.now)) c.in-Take.is c.requires.test in
    taken_from _ c.args.state.now c.take.new.self c.take.result c.args.test c.in-Take.pool c.in-Take.k _ c.in-Take.is (items_here c.args.lists.now c.in-Take.k c.index-lists-k.result may.0 c.index-lists-k.is) c.take.ensures

pub returns-in-Any : goal.returns-in-Any
returns-in-Any c = chosen _ c.args.state.now c.args.test c.in-Any.is
