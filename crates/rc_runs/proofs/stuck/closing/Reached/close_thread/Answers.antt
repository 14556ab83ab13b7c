use Rattle.std.proofs.Common.{arith}
use Rattle.rc_runs.proofs.Closed.{grown_on, leads_on, three_takes}
use Rattle.rc_runs.proofs.stuck.closing.Reached.close_thread.Goals as goal

pub follow-requires-2-clause-there : goal.follow-requires-2-clause-there
follow-requires-2-clause-there c = omega (arith, c.requires.there, c.in_ok-follow.ensures.grown.longer)

pub follow-requires-3-clause-there : goal.follow-requires-3-clause-there
follow-requires-3-clause-there c = omega (arith, c.requires.there, c.in_ok-follow.ensures.grown.longer, c.in_ok-follow-2.ensures.grown.longer)

pub returns-clause-grown : goal.returns-clause-grown
returns-clause-grown c =
    let first = c.in_ok-follow.ensures.grown in
    let second = c.in_ok-follow-2.ensures.grown in
    grown_on _ _ _ first (grown_on _ _ _ second c.in_ok-last.ensures.grown)

pub returns-clause-leads : goal.returns-clause-leads
returns-clause-leads c = λ yes w at.
    let kept = c.args.kept.now in
    let first = c.in_ok-follow.ensures.grown in
    let second = c.in_ok-follow-2.ensures.grown in
    let last = c.in_ok-last.ensures.grown in
    let usual = c.in_ok-follow.ensures.leads c.if-not-branch.false w at in
    let no = c.in_ok-follow-2.ensures.leads c.if-not-branch-2.false w (first.kept _ w at) in
    let yes_too = c.in_ok-last.ensures.leads yes w (second.kept _ w (first.kept _ w at)) in
    record {
      leads = three_takes kept w c.follow-3.new.self.worlds.items c.args.thread (leads_on kept _ _ w _ (grown_on _ _ _ second last) usual.leads) (leads_on kept _ _ w _ last no.leads) yes_too.leads;
      follows = usual.follows;
    }
