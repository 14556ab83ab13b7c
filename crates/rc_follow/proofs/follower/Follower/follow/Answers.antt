use Rattle.std.proofs.Common.{ℕ, Option, Some, ap, refl, sym}
use Rattle.rc_log.specs.declared.call.Said.{Said}
use Rattle.rc_follow.proofs.Followed.{answers_same, follows_more}
use Rattle.rc_follow.proofs.follower.Follower.follow.Goals as goal

pub returns-in-Some-misuse-clause-follows : goal.returns-in-Some-misuse-clause-follows
returns-in-Some-misuse-clause-follows c ls f = follows_more ls c.args.said c.args.self.now c.args.self.now c.in-Some-misuse.misuse f (c.in-Some-misuse.ensures c.args.said)

pub returns-clause-answers : goal.returns-clause-answers
returns-clause-answers c =
    let line : Option ℕ → Said = λ t. record { thread = t; call = c.args.said.call } in
    answers_same c.args.self.now c.args.self.now c.args.said (line (Some c.in-Some.thread)) c.follow_line.new.self c.in_ok-answer.answer
    refl (ap line (sym c.in-Some.is)) c.in_ok-answer.ensures.answers

pub returns-clause-follows : goal.returns-clause-follows
returns-clause-follows c ls f = follows_more ls c.args.said c.args.self.now c.follow_line.new.self c.in_ok-answer.answer f (returns-clause-answers c)
