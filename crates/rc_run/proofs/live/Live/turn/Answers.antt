use Rattle.std.proofs.Common.{◌≡◌, ◌++◌, ◌∷◌, [], Bool, List, Some, ℤ, w32, IsSome, is_some, to_z, of_z, ap, sym, subst, ◌∙◌, rules}
use Rattle.std.specs.Arc.{arc_value}
use Rattle.std.proofs.lemmas.Int.{to_z-of_z}
use Rattle.rc_run.specs.Calm.{IsCalm}
use Rattle.rc_run.specs.Lives.{Live, datasync_next, grown}
use Rattle.rc_run.specs.Machine.{datasync_after, given_at_line, given_by_take, given_in_turn, world_of}
use Rattle.rc_world.specs.declared.event.Event.{Event}
use Rattle.rc_world.specs.Machine.{thread_step}
use Rattle.rc_run.proofs.Turns.{closed_at, fresh_at, given_allowed, has_step, ready_line, turned_leads}
use Rattle.rc_run.proofs.live.Live.turn.Goals as goal

pub step-requires : goal.step-requires
step-requires c =
    let m = c.self.inside.machine in
    let w = world_of m in
    let i = c.args.thread in
    let l = c.in-Ready.line in
    let calm = subst (λ (s : Live). IsCalm s.world) (sym c.self.view_is) c.look.ensures in
    let ready = sym c.next.ensures ∙ c.in-Ready.is in
    let line = ready_line w i l ready in
    let given = c.given-given.ensures ∙ ap (λ t. given_by_take w t l.stmt) (to_z-of_z w32 c.args.take c.ranges.take) in
    let step = has_step w calm i l ready (given_by_take w c.args.take l.stmt) (given_allowed w c.args.take l.stmt c.requires) in
    let same = to_z-of_z w32 c.given-given.result (record { sfits = c.given-given.type_inv }) ∙ given in
    record {
      line = line;
      kept = calm.kept;
      sized = c.self.invariant.sized;
      step = subst (λ (r : ℤ). IsSome (thread_step w i r)) (sym same) (ap is_some step.1);
      suits = closed_at w calm i l line;
      fresh = fresh_at w calm i l line;
      room = search rules;
    }

pub invariant_of-self-2 : goal.invariant_of-self-2
invariant_of-self-2 c =
    let a = c.self.inside in
    let w = world_of a.machine in
    let v = world_of c.step.new.self in
    let calm = subst (λ (l : Live). IsCalm l.world) (sym c.self.view_is) c.look.ensures in
    let rest = c.in_ok-event.ensures.rest in
    record {
      leads = turned_leads (arc_value a.machine.admitted) (arc_value c.step.new.self.admitted) w v a.history.items c.push_reserved.new.self.items c.args.thread (to_z w32 (of_z w32 c.given-given.result)) c.in_ok-event.event c.self.invariant.leads calm.no_fault c.in_ok-event.ensures.ok (ap arc_value rest.admitted) (search rules);
      sized = rest.sized;
      counted = search rules;
      room = search rules;
      space = search rules;
    }

pub returns-clause-ok : goal.returns-clause-ok
returns-clause-ok c =
    let a = c.self.inside in
    let w = world_of a.machine in
    let v = world_of c.step.new.self in
    let e = c.in_ok-event.event in
    let made = c.in_ok-event.ensures in
    let l = c.in-Ready.line in
    let line = ready_line w c.args.thread l (sym c.next.ensures ∙ c.in-Ready.is) in
    let given = c.given-given.ensures ∙ ap (λ t. given_by_take w t l.stmt) (to_z-of_z w32 c.args.take c.ranges.take) in
    let same = to_z-of_z w32 c.given-given.result (record { sfits = c.given-given.type_inv }) ∙ given ∙ sym (ap (given_at_line w c.args.take) line) in
    let step = subst (λ (r : ℤ). thread_step w c.args.thread r ≡ Some (e, v)) same made.ok in
    let with : List Event → Bool → Live = λ h b. record { history = h; world = v; datasync = b; out = a.out.items } in
    let d = c.step.new.self.ring.datasync in
    let longer = a.history.items ++ e ∷ [] in
    let after =
    ap (λ h. with h d) c.push_reserved.ensures.items
    ∙ ap (λ h. with (h ++ e ∷ []) d) c.reserve.ensures.items
    ∙ ap (with longer) made.flag
    ∙ ap (λ o. with longer (datasync_after o a.machine.ring.datasync)) (sym line)
    in
    subst (λ (s : Live). (thread_step s.world c.args.thread (given_in_turn s.world c.args.thread c.args.take) ≡ Some (e, v)) × (with c.push_reserved.new.self.items d ≡ grown s e v (datasync_next s c.args.thread))) c.self.view_is (step, after)
