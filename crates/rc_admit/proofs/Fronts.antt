-- What becomes of the front completion as it is seen and as its user data is got.
use Rattle.std.proofs.Common.{◌≡◌, ℕ, ◌+◌, ◌≤◌, false, List, [], ◌∷◌, Some, refl, sym, ap, ◌∙◌, subst, arith}
use Rattle.rc_lang.specs.declared.request.Request.{Request}
use Rattle.rc_lang.specs.Program.{Program}
use Rattle.rc_rules.specs.declared.mode.Mode.{Mode}
use Rattle.rc_rules.specs.declared.mode.Peeked.{Peeked}
use Rattle.rc_rules.specs.declared.mode.Peeked.TheVariants.{Unseen, Sees, Got}
use Rattle.rc_rules.specs.Kinds.{kind_bag, kinds_of, line_bag}
use Rattle.rc_rules.specs.Rules.{got_bag, reaped}
use Rattle.rc_split.specs.Bags.{Part, credits_bag, plus}
use Rattle.rc_world.specs.declared.controls.Look.TheVariants as looks
use Rattle.rc_world.specs.declared.event.Completion.{Completion}
use Rattle.rc_world.specs.Machine.{World, without_front}
use Rattle.rc_admit.specs.Worlds.{unreaped}
use Rattle.rc_admit.proofs.Flight.{FrontOf, all_unreaped, data_in, data_of, front_goes, front_is, is_reaped}
use Rattle.rc_admit.proofs.RequestKinds.{HasKind, kind_for, line_least, owns, taken_by}
use Rattle.rc_admit.proofs.Lists.{Each, sum_over}
use Rattle.rc_admit.proofs.Moves.{Moved, cq_step, sq_still}
use Rattle.rc_admit.proofs.Owned.{IsNonempty, Owned, Stand, StartsWith, place_bag}

pub nonempty_head : (cs : List Completion) → IsNonempty cs → (c : Completion) × (ds : List Completion) × (cs ≡ c ∷ ds)
nonempty_head [] h = absurd h
nonempty_head (c ∷ cs) h = (c, cs, refl)

pub starts_head : (u : ℕ) (cs : List Completion) → StartsWith u cs → (c : Completion) × (ds : List Completion) × (cs ≡ c ∷ ds) × (c.user_data ≡ u)
starts_head u [] h = absurd h
starts_head u (c ∷ cs) h = (c, cs, refl, h)

-- What comes back with a completion is at most what its request owns.
pub given_back : (P : Program) (r : Request) (u : ℕ) (p : Part) → HasKind P r → r.user_data ≡ u → reaped P (Sees u) p ≤ owns P p r
given_back P r u p h e =
    let x : line_bag P (kinds_of P r.user_data) p ≤ kind_bag P h.kind p = line_least P h.kind (kinds_of P r.user_data) p h.among in
    let y : taken_by P (kind_for P r) p ≡ kind_bag P h.kind p = ap (λ z. taken_by P z p) h.is in
    subst (λ v. reaped P (Sees v) p ≤ owns P p r) e (omega (arith, x, y))

module _ (P : Program) (S : Stand) (w : World) (bags : ℕ → Part → ℕ) (modes : ℕ → Mode) (i : ℕ) (o : Owned P S w bags modes) (k : Peeked) (e : (modes i).cq ≡ Some k) (c : Completion) (cs : List Completion) (ec : w.completions ≡ c ∷ cs) where
  abbrev knowing_front : Peeked → Mode
  knowing_front x = record (modes i) { cq = Some x }

  -- what is left of the completed requests
  abbrev left : List Request
  left = without_front w.controls.look c.user_data w.completed

  module _ (n : is_reaped w.controls.look ≡ false) where
    -- the front completion's request
    pub front : FrontOf w.completed c cs
    front = front_is w.completed c cs (o.agree ∙ ap data_in (all_unreaped w.controls.look w.completions n ∙ ec))

    pub front_kind : HasKind P front.request
    front_kind = (subst (λ xs. Each (HasKind P) xs) front.is o.completed).0

    others_left : left ≡ front.others
    others_left = front_goes w.controls.look c.user_data w.completed n ∙ front.gone

    -- what it owned is nobody's
    less_owned : (p : Part) → sum_over (owns P p) left + owns P p front.request ≡ sum_over (owns P p) w.completed
    less_owned p =
        let a : sum_over (owns P p) left ≡ sum_over (owns P p) front.others = ap (sum_over (owns P p)) others_left in
        let d : sum_over (owns P p) w.completed ≡ owns P p front.request + sum_over (owns P p) front.others = ap (sum_over (owns P p)) front.is in
        omega (arith, a, d)

    others_kinds : Each (HasKind P) left
    others_kinds = subst (λ xs. Each (HasKind P) xs) (sym others_left) (subst (λ xs. Each (HasKind P) xs) front.is o.completed).1

    others_agree : data_of left ≡ data_in cs
    others_agree = ap data_of others_left ∙ front.agree

    -- The front completion and its request go away.
    pub seen : (b : Part → ℕ) → ((p : Part) → b p ≤ bags i p + owns P p front.request) → Moved P w (record w { completions = cs; completed = left; controls = record w.controls { look = looks.Unseen } }) bags modes i b (knowing_front Unseen)
    seen b local = record {
      of = o.of;
      room = o.room;
      same = refl;
      local = λ p. omega (arith, local p, less_owned p);
      submits = sq_still P S w bags modes i o;
      reaps = cq_step P S w bags modes i o looks.Unseen cs k Unseen e refl;
      queued = o.queued;
      pending = o.pending;
      completed = others_kinds;
      agree = others_agree;
    }

    -- Its request goes away, and the entry stays.
    pub told : (b : Part → ℕ) → ((p : Part) → b p + credits_bag 1 p ≤ bags i p + owns P p front.request) → Moved P w (record w { completed = left; controls = record w.controls { look = looks.Got } }) bags modes i b (knowing_front Got)
    told b local = record {
      of = o.of;
      room = o.room;
      same = refl;
      local = λ p. omega (arith, local p, less_owned p);
      submits = sq_still P S w bags modes i o;
      reaps = cq_step P S w bags modes i o looks.Got w.completions k Got e (refl, subst IsNonempty (sym ec) tt);
      queued = o.queued;
      pending = o.pending;
      completed = others_kinds;
      agree = others_agree ∙ sym (ap (λ xs. data_in (unreaped looks.Got xs)) ec);
    }

  module _ (g : w.controls.look ≡ looks.Got) where
    all_left : left ≡ w.completed
    all_left = ap (λ l. without_front l c.user_data w.completed) g

    agrees : data_of left ≡ data_in cs
    agrees = ap data_of all_left ∙ (o.agree ∙ (ap (λ l. data_in (unreaped l w.completions)) g ∙ ap (λ xs. data_in (unreaped looks.Got xs)) ec))

    -- Its request was reaped before: the entry alone goes away,
    pub freed_place : Moved P w (record w { completions = cs; completed = left; controls = record w.controls { look = looks.Unseen } }) bags modes i (plus (bags i) (credits_bag 1)) (knowing_front Unseen)
    freed_place = record {
      of = o.of;
      room = o.room;
      same = refl;
      local = λ p.
          let a : sum_over (owns P p) left ≡ sum_over (owns P p) w.completed = ap (sum_over (owns P p)) all_left in
          let d : place_bag w.controls.look p ≡ credits_bag 1 p = ap (λ l. place_bag l p) g in
          omega (arith, a, d);
      submits = sq_still P S w bags modes i o;
      reaps = cq_step P S w bags modes i o looks.Unseen cs k Unseen e refl;
      queued = o.queued;
      pending = o.pending;
      completed = subst (λ xs. Each (HasKind P) xs) (sym all_left) o.completed;
      agree = agrees;
    }

    -- or nothing does.
    pub told_again : Moved P w (record w { completed = left; controls = record w.controls { look = looks.Got } }) bags modes i (plus (bags i) (got_bag P Got)) (knowing_front Got)
    told_again = record {
      of = o.of;
      room = o.room;
      same = refl;
      local = λ p.
          let a : sum_over (owns P p) left ≡ sum_over (owns P p) w.completed = ap (sum_over (owns P p)) all_left in
          let d : place_bag w.controls.look p ≡ credits_bag 1 p = ap (λ l. place_bag l p) g in
          omega (arith, a, d);
      submits = sq_still P S w bags modes i o;
      reaps = cq_step P S w bags modes i o looks.Got w.completions k Got e (refl, subst IsNonempty (sym ec) tt);
      queued = o.queued;
      pending = o.pending;
      completed = subst (λ xs. Each (HasKind P) xs) (sym all_left) o.completed;
      agree = agrees ∙ sym (ap (λ xs. data_in (unreaped looks.Got xs)) ec);
    }
