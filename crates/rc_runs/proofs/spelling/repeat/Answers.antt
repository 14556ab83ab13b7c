use Rattle.std.proofs.Common.{◌≡◌, ◌-◌, suc, None, Some, ap, arith, sym, ◌∙◌, rules}
use Rattle.rc_runs.specs.Repeats.{is_there, where_made}
use Rattle.rc_runs.specs.Spelling.{after_step}
use Rattle.rc_runs.proofs.Repeats.{HasRun, begins, fails_there, steps_on, stops_after_all, stops_there}
use Rattle.rc_runs.proofs.spelling.repeat.Goals as goal

pub loop-left-init : goal.loop-left-init
loop-left-init c = record {
  along = begins (is_there c.args.goal) c.args.item c.args.world.now c.args.items.now.items c.args.most;
  made = c.requires;
}

pub loop-left-preserved : goal.loop-left-preserved
loop-left-preserved c =
    let left : c.loop-left.left ≡ suc (c.loop-left.left - 1) = omega arith in
    let step : after_step c.loop-left.world c.args.item ≡ Some c.make.new.world =
    c.in_ok-make.ensures.step ∙ ap (λ made. where_made made c.make.new.world) (sym c.is_made.ensures ∙ c.if-not-is_made.false) in
    record {
      along = steps_on (is_there c.args.goal) c.args.item c.args.world.now c.args.items.now.items c.args.most c.loop-left.world c.make.new.world c.loop-left.items.items c.push.new.self.items c.loop-left.left (c.loop-left.left - 1)
          left (sym c.is_there.ensures ∙ c.if-is_there.false) step c.in_ok-push.ensures.items c.loop-left.invariant.along;
      made = search rules;
    }

pub returns-then-is_there-clause-items : goal.returns-then-is_there-clause-items
returns-then-is_there-clause-items c =
    (stops_there (is_there c.args.goal) c.args.item c.args.world.now c.args.items.now.items c.args.most c.loop-left.world c.loop-left.items.items c.loop-left.left (sym c.is_there.ensures ∙ c.if-is_there.true) c.loop-left.invariant.along).items

pub returns-then-is_there-clause-world : goal.returns-then-is_there-clause-world
returns-then-is_there-clause-world c =
    (stops_there (is_there c.args.goal) c.args.item c.args.world.now c.args.items.now.items c.args.most c.loop-left.world c.loop-left.items.items c.loop-left.left (sym c.is_there.ensures ∙ c.if-is_there.true) c.loop-left.invariant.along).world

pub returns-then-not-is_made-clause-items : goal.returns-then-not-is_made-clause-items
returns-then-not-is_made-clause-items c =
    let left : c.loop-left.left ≡ suc (c.loop-left.left - 1) = omega arith in
    let step : after_step c.loop-left.world c.args.item ≡ None =
    c.in_ok-make.ensures.step ∙ ap (λ made. where_made made c.make.new.world) (sym c.is_made.ensures ∙ c.if-not-is_made.true) in
    (fails_there (is_there c.args.goal) c.args.item c.args.world.now c.args.items.now.items c.args.most c.loop-left.world c.loop-left.items.items c.push.new.self.items c.loop-left.left (c.loop-left.left - 1)
    left (sym c.is_there.ensures ∙ c.if-is_there.false) step c.in_ok-push.ensures.items c.loop-left.invariant.along).items

pub returns-then-not-is_made-clause-world : goal.returns-then-not-is_made-clause-world
returns-then-not-is_made-clause-world c =
    let left : c.loop-left.left ≡ suc (c.loop-left.left - 1) = omega arith in
    let step : after_step c.loop-left.world c.args.item ≡ None =
    c.in_ok-make.ensures.step ∙ ap (λ made. where_made made c.make.new.world) (sym c.is_made.ensures ∙ c.if-not-is_made.true) in
    (fails_there (is_there c.args.goal) c.args.item c.args.world.now c.args.items.now.items c.args.most c.loop-left.world c.loop-left.items.items c.push.new.self.items c.loop-left.left (c.loop-left.left - 1)
    left (sym c.is_there.ensures ∙ c.if-is_there.false) step c.in_ok-push.ensures.items c.loop-left.invariant.along).world

pub returns : goal.returns
returns c =
    let all : HasRun (is_there c.args.goal) c.args.item c.args.world.now c.args.items.now.items c.args.most (Some c.loop-left.world) c.loop-left.items.items =
    stops_after_all (is_there c.args.goal) c.args.item c.args.world.now c.args.items.now.items c.args.most c.loop-left.world c.loop-left.items.items c.loop-left.left (omega arith) c.loop-left.invariant.along in
    record { items = all.items; world = all.world; made = c.loop-left.invariant.made }
