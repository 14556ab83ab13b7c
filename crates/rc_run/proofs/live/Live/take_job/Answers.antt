use Rattle.std.proofs.Common.{◌≡◌, ◌≢◌, ◌<◌, ◌%◌, ◌++◌, ◌∷◌, [], ℕ, List, filter, length, None, Some, refl, rules, sym, ap, subst, ◌∙◌}
use Rattle.std.specs.Prelude.{slice_get}
use Rattle.rc_lang.specs.declared.request.Request.{Request}
use Rattle.rc_world.specs.declared.event.Event.{Event}
use Rattle.rc_run.specs.declared.machine.Pending.{Pending}
use Rattle.rc_run.specs.LiveParts.{view_live}
use Rattle.rc_run.specs.Lives.{IsJobOf, Lent, Live, free, is_free}
use Rattle.rc_world.specs.Machine.{Pending as WorldPending}
use Rattle.rc_run.specs.Machine.{world_of}
use Rattle.rc_run.proofs.Posting.{lent, none_free, some_free}
use Rattle.rc_run.proofs.live.Live.take_job.Goals as goal

pub returns-then-count-eq0-clause-none : goal.returns-then-count-eq0-clause-none
returns-then-count-eq0-clause-none c =
    let a = c.self.inside in
    let none : length (filter (λ (p : Pending). is_free a.out.items p.request) a.machine.pending.items) ≡ 0 = search rules in
    (ap free (sym c.self.view_is) ∙ none_free (view_live a) a.machine.pending.items refl none, refl)

pub unreachable-requires : goal.unreachable-requires
unreachable-requires c =
    let a = c.self.inside in
    let counted : c.free_count-count.result ≡ length (filter (λ (p : Pending). is_free a.out.items p.request) a.machine.pending.items) = search rules in
    let some : c.free_count-count.result ≢ 0 = search rules in
    let none : slice_get (filter (λ (p : Pending). is_free a.out.items p.request) a.machine.pending.items) (c.args.choice % c.free_count-count.result) ≡ None = search rules in
    some_free (view_live a) a.machine.pending.items c.args.choice c.free_count-count.result counted some none

pub returns-clause-some : goal.returns-clause-some
returns-clause-some c =
    let a = c.self.inside in
    let m = a.machine in
    let w = world_of m in
    let counted : c.free_count-count.result ≡ length (filter (λ (p : Pending). is_free a.out.items p.request) m.pending.items) = search rules in
    let lt : c.in-Some.place < length m.pending.items = search rules in
    let at : slice_get m.pending.items c.in-Some.place ≡ slice_get (filter (λ (p : Pending). is_free a.out.items p.request) m.pending.items) (c.args.choice % c.free_count-count.result) = search rules in
    let with : List Event → List Request → List ℕ → Live = λ h r o. record { history = h; world = record w { completed = r }; datasync = m.ring.datasync; out = o } in
    let out = c.push_reserved.ensures.items ∙ ap (λ xs. xs ++ c.request.result.serial ∷ []) c.reserve-3.ensures.items in
    let after =
    ap (λ h. with h c.reserve-2.new.self.items c.push_reserved.new.self.items) c.reserve.ensures.items
    ∙ ap (λ r. with a.history.items r c.push_reserved.new.self.items) c.reserve-2.ensures.items
    ∙ ap (λ o. with a.history.items m.completed.items o) out in
    let job = c.in_ok-job.job in
    let of = subst (λ (r : List Request). (p : WorldPending) → slice_get w.pending c.in-Some.place ≡ Some p → IsJobOf (record w { completed = r }) p job) c.reserve-2.ensures.items c.in_ok-job.ensures in
    subst (λ (s : Live). Lent s c.args.choice job (with c.reserve.new.self.items c.reserve-2.new.self.items c.push_reserved.new.self.items)) c.self.view_is
    (lent (view_live a) _ m.pending.items c.args.choice c.free_count-count.result c.in-Some.place job c.request.result.serial refl counted lt at of (ap (λ (r : Request). r.serial) c.request.ensures.value) after)
