use Rattle.std.proofs.Common.{Some, None, sym, ap, ◌∙◌}
use Rattle.std.proofs.lemmas.List.{append-nil}
use Rattle.rc_runs.specs.Choices as spec
use Rattle.rc_runs.proofs.Listed.{one_more}
use Rattle.rc_runs.proofs.choices.push_of_threads.Goals as goal
use Rattle.rc_runs.proofs.choices.push_of_threads.Goals.{in-Some+in_ok-push, in_default}

pub loop-thread-preserved : goal.loop-thread-preserved
loop-thread-preserved c =
    let f = spec.thread_choice c.args.world.now in
    let step = one_more c.loop-thread.thread f in
    elim c.match-thread_choice.branch [
      | in-Some+in_ok-push w ↦ step (Some w.in-Some.choice) c.args.listed.now.items c.loop-thread.listed.items c.match-thread_choice.listed.items c.loop-thread.invariant (sym w.in-Some.is ∙ c.thread_choice.ensures) (ap (λ v. v.items) w.listed-is ∙ w.in_ok-push.ensures.items)
      | in_default w ↦ step None c.args.listed.now.items c.loop-thread.listed.items c.match-thread_choice.listed.items c.loop-thread.invariant (sym w.in_default.is ∙ c.thread_choice.ensures) (ap (λ v. v.items) w.listed-is ∙ sym (append-nil c.loop-thread.listed.items))
    ]
