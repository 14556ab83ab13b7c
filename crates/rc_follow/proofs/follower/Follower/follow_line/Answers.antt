use Rattle.std.proofs.Common.{rules, ◌<◌, length, ◌∙◌, ap, refl, subst, sym, inl, Some}
use Rattle.std.specs.Global.{Vec}
use Rattle.std.proofs.lemmas.List.Elements.{All-same}
use Rattle.rc_lang.specs.Program.{Program}
use Rattle.rc_log.specs.declared.call.Said.{Said}
use Rattle.rc_follow.specs.Ways.{Way}
use Rattle.rc_follow.specs.Answers.{Answers}
use Rattle.rc_follow.specs.declared.follower.Answer.TheVariants.{Followed}
use Rattle.rc_follow.specs.Followed.{noted_call}
use Rattle.rc_follow.specs.Follower.{ComesBy, Follower}
use Rattle.rc_follow.specs.Searches.{Finds}
use Rattle.rc_follow.proofs.Added.{stay_found}
use Rattle.rc_follow.proofs.follower.Follower.follow_line.Goals as goal

pub returns-then-branch-clause-answers : goal.returns-then-branch-clause-answers
returns-then-branch-clause-answers c =
    let line : Said = record { thread = Some c.args.thread; call = c.args.call } in
    let new : Follower = record { program = c.stay.new.rights; noted = c.note.new.self; ways = c.self.inside.worlds.items; reached = c.self.inside.reached.items } in
    subst (λ (old : Follower). Answers old line new Followed) c.self.view_is (
      c.args.thread,
      inl refl,
      c.stay.ensures.same,
      c.note.ensures ∙ ap (λ (P : Program). noted_call P c.self.inside.noted c.args.thread c.args.call) (c.program.ensures ∙ c.stay.ensures.same),
      stay_found c.self.inside.rights c.self.inside.noted c.self.inside.worlds.items c.args.thread c.args.call (c.in_ok-stay.ensures.asks c.if-branch.true),
      c.in_ok-stay.ensures.some c.if-branch.true,
      refl,
    )

pub returns-clause-answers : goal.returns-clause-answers
returns-clause-answers c =
    let line : Said = record { thread = Some c.args.thread; call = c.args.call } in
    let new : Follower = record { program = c.search.new.rights; noted = c.note-2.new.self; ways = c.swap.new.x.items; reached = c.self.inside.reached.items } in
    let same = c.search.ensures.same ∙ c.stay.ensures.same in
    let found : Finds c.self.inside.rights c.self.inside.noted c.self.inside.worlds.items c.args.thread c.args.call c.search.new.found.worlds.items =
    subst (λ (P : Program). Finds P c.self.inside.noted c.self.inside.worlds.items c.args.thread c.args.call c.search.new.found.worlds.items) c.stay.ensures.same (c.in_ok-search.ensures.found (cc)) in
    let some : 0 < length c.search.new.found.worlds.items = search rules in
    subst (λ (old : Follower). Answers old line new Followed) c.self.view_is (
      c.args.thread,
      inl refl,
      same,
      c.note-2.ensures ∙ ap (λ (P : Program). noted_call P c.self.inside.noted c.args.thread c.args.call) (c.program-2.ensures ∙ same),
      All-same (ComesBy c.self.inside.rights c.self.inside.noted c.self.inside.worlds.items c.args.thread c.args.call) c.swap.new.x.items c.search.new.found.worlds.items (ap (λ (v : Vec Way). v.items) c.swap.ensures.x_after) found,
      subst (λ (v : Vec Way). 0 < length v.items) (sym c.swap.ensures.x_after) some,
      refl,
    )
