use Rattle.std.proofs.Common.{◌∙◌, [], refl}
use Rattle.std.specs.Borrow.{Bor}
use Rattle.std.specs.Prelude.{ℕ, List}
use Rattle.rc_command.specs.Following.{SaysLog}
use Rattle.rc_command.proofs.Following.{one_more}
use Rattle.rc_command.proofs.departures.answers.follow_each.Goals as goal

pub loop-name-init : goal.loop-name-init
loop-name-init g c = record { program = refl; says = ([], refl, c.new-answer.ensures) }

pub loop-name-preserved : goal.loop-name-preserved
loop-name-preserved g c = record {
  program = c.follow_one.ensures.program ∙ c.loop-name.invariant.program;
  says = one_more (λ (name : Bor (List ℕ)). SaysLog (g.T.Logs.opens c.args.texts.now) c.args.asked.now.json name.now) c.args.asked.now.logs.items c.loop-name.name-index _
      c.args.follower.now c.loop-name.follower c.follow_one.new.follower c.loop-name.answer c.follow_one.new.answer (rw c.deref-name-items.ensures.value at c.loop-name-test.true) c.loop-name.invariant.says (rw c.deref-name-items.ensures.value at c.in_ok-follow_one.ensures.answer);
}
