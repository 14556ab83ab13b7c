use Rattle.std.proofs.Common.{◌≡◌, ℕ, List, Some, rules, subst}
use Rattle.std.specs.Prelude.{slice_get}
use Rattle.rc_run.specs.declared.machine.Pending.{Pending}
use Rattle.rc_run.specs.Lives.{IsPendingAt, IsNotOut, IsOut, Live}
use Rattle.rc_run.specs.Machine.{pending_of}
use Rattle.rc_run.proofs.Posting.{pending_at, pending_here}
use Rattle.rc_run.proofs.live.Live.place_of.Goals as goal

pub returns-in_default-clause-none : goal.returns-in_default-clause-none
returns-in_default-clause-none c =
    let items = c.self.inside.machine.pending.items in
    let none = subst (λ (xs : List Pending). (k : ℕ) → IsPendingAt xs c.args.request k → ⊥) c.deref.ensures.value c.in_default.ensures.none in
    subst (λ (s : Live). IsNotOut s c.args.request) c.self.view_is (λ k n o. none k (pending_at items c.args.request k o.pending o.here o.same))

pub returns-clause-some : goal.returns-clause-some
returns-clause-some c =
    let a = c.self.inside in
    let at = subst (λ (xs : List Pending). IsPendingAt xs c.args.request c.in-Some.place) c.deref.ensures.value c.in-Some.ensures.some in
    let out : slice_get a.out.items c.in-Some-number_of.number ≡ Some c.args.request.serial = search rules in
    subst (λ (s : Live). IsOut s c.args.request c.in-Some.place c.in-Some-number_of.number) c.self.view_is
    (record { pending = pending_of at.part; here = pending_here a.machine.pending.items c.args.request c.in-Some.place at; same = at.same; out = out })
