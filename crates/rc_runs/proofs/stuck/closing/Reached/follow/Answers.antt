use Rattle.std.proofs.Common.{refl, sym, subst, ◌∙◌}
use Rattle.std.proofs.lemmas.Option.{slice_get_read}
use Rattle.rc_runs.specs.Closing.{GoesOnly}
use Rattle.rc_runs.proofs.Closed.{all_like_next, led_at, led_there}
use Rattle.rc_runs.proofs.stuck.closing.Reached.follow.Goals as goal

pub know-requires : goal.know-requires
know-requires c =
    let goes = subst (GoesOnly c.index-world.result.now c.args.thread c.args.take) c.in-Some.is c.in_ok-after.ensures in
    let here = slice_get_read c.args.self.now.worlds.items _ c.args.number c.index-world.result.now refl c.requires.there c.index-world.ensures in
    all_like_next c.args.kept.now c.index-world.result.now c.in-Some.after c.args.thread c.args.take goes (c.line_moves.ensures c.if-line_moves.false) (sym c.follows.ensures ∙ c.if-not-follows.false) c.args.self.now.worlds.items c.args.number c.requires.alike here

pub returns-in_ok-know-in-Some-clause-leads : goal.returns-in_ok-know-in-Some-clause-leads
returns-in_ok-know-in-Some-clause-leads c = λ _.
    let goes = subst (GoesOnly c.index-world.result.now c.args.thread c.args.take) c.in-Some.is c.in_ok-after.ensures in
    let here = slice_get_read c.args.self.now.worlds.items _ c.args.number c.index-world.result.now refl c.requires.there c.index-world.ensures in
    led_at c.args.kept.now c.args.self.now.worlds.items c.know.new.self.worlds.items c.args.number c.index-world.result.now c.args.thread c.args.take here
    (led_there c.args.kept.now c.index-world.result.now c.in-Some.after c.args.thread c.args.take goes (c.line_moves.ensures c.if-line_moves.false) (sym c.follows.ensures ∙ c.if-not-follows.false) c.know.new.self.worlds.items c.in_ok-know-in-Some.ensures.there)
