-- In a world without a fault each call that reaps finds a front completion that is known.
use Rattle.std.proofs.Common.{◌≡◌, ℕ, ◌+◌, Bool, true, false, List, [], ◌∷◌, Option, Some, None, refl, sym, ap, subst, arith}
use Rattle.std.proofs.lemmas.Bool.{eqb-true, not-false}
use Rattle.std.specs.Prelude.{nat_eq, not, ℤ, if◌then◌else◌}
use Rattle.rc_lang.specs.declared.lines.Op.{Op}
use Rattle.rc_lang.specs.declared.lines.Op.TheVariants.{CqeGetData64, CqeSeen}
use Rattle.rc_lang.specs.declared.lines.Stmt.TheVariants.{Do}
use Rattle.rc_lang.specs.declared.request.Request.{Request}
use Rattle.rc_world.specs.declared.controls.Look.{Look}
use Rattle.rc_world.specs.declared.controls.Look.TheVariants.{Unseen, Peeked, Got}
use Rattle.rc_world.specs.declared.event.Completion.{Completion}
use Rattle.rc_world.specs.declared.event.Event.{Event}
use Rattle.rc_world.specs.declared.fault.FaultKind.TheVariants.{UnknownReap}
use Rattle.rc_world.specs.Controls.{Controls, Standing, controls_step, next_line}
use Rattle.rc_world.specs.Faults.{count_of, fault_of, front_is_known}
use Rattle.rc_world.specs.Machine.{World, gets_front, in_rings, reaps_front, stmt_answer, thread_step, thread_step_at, with_controls, without_data, without_front}
use Rattle.rc_admit.specs.Worlds.{EachReapsOne, IsNext, IsReap, NoneReapedTwice, left_by}
use Rattle.rc_admit.proofs.Accesses.{next_is}
use Rattle.rc_admit.proofs.Worlds.{at, of_cq, under_cq}

-- ---- counts

abbrev one_if : Bool → ℕ
one_if b = if b then 1 else 0

count_less : (u : ℕ) (rs : List Request) → count_of u rs ≡ 1 → count_of u (without_data u rs) ≡ 0
count_less u [] e = absurd (cc)
count_less u (r ∷ rs) e = go (λ h. count_less u rs h) (nat_eq r.user_data u) refl e
  where
    go : (count_of u rs ≡ 1 → count_of u (without_data u rs) ≡ 0) → (b : Bool) → nat_eq r.user_data u ≡ b → one_if b + count_of u rs ≡ 1 → count_of u (if b then rs else r ∷ without_data u rs) ≡ 0
    go on true q e = let h : 1 + count_of u rs ≡ 1 = e in omega arith
    go on false q e =
        let h : 0 + count_of u rs ≡ 1 = e in
        let x : count_of u (without_data u rs) ≡ 0 = on (omega arith) in
        let z : one_if (nat_eq r.user_data u) ≡ 0 = ap one_if q in
        omega (arith, x, z)

-- where the front is known and isn't got
count_left : (look : Look) (u : ℕ) (rs : List Request) → look ≡ Peeked → count_of u rs ≡ 1 → count_of u (without_front look u rs) ≡ 0
count_left look u rs e one = subst (λ l. count_of u (without_front l u rs) ≡ 0) (sym e) (count_less u rs one)

module _ (w : World) (none : fault_of w ≡ None) where
  known_front : (i : ℕ) (op : Op) → IsReap op → IsNext w i (Do op) → front_is_known w w.controls.look w.completions ≡ true
  known_front i CqeGetData64 c n = not-false (front_is_known w w.controls.look w.completions) (of_cq w none i (not (front_is_known w w.controls.look w.completions)) (under_cq w none i (Do CqeGetData64) n tt) (at w none UnknownReap i (Do CqeGetData64) n))
  known_front i CqeSeen c n = not-false (front_is_known w w.controls.look w.completions) (of_cq w none i (not (front_is_known w w.controls.look w.completions)) (under_cq w none i (Do CqeSeen) n tt) (at w none UnknownReap i (Do CqeSeen) n))
  known_front i _ c n = absurd c

  -- where it isn't got, it is that of one request
  front_of_one : (look : Look) (cs : List Completion) → front_is_known w look cs ≡ true → (look ≡ Got → ⊥) → (look ≡ Peeked) × (c : Completion) × (ds : List Completion) × (cs ≡ c ∷ ds) × (count_of c.user_data w.completed ≡ 1)
  front_of_one Unseen cs e n = absurd (cc)
  front_of_one Peeked [] e n = absurd (cc)
  front_of_one Peeked (c ∷ ds) e n = (refl, c, ds, refl, eqb-true (count_of c.user_data w.completed) 1 e)
  front_of_one Got cs e n = absurd (n refl)

  -- and where it is, it is there
  front_got : (look : Look) (cs : List Completion) → front_is_known w look cs ≡ true → look ≡ Got → (c : Completion) × (ds : List Completion) × (cs ≡ c ∷ ds)
  front_got look [] e g = absurd (let h : front_is_known w look [] ≡ false = ap (λ l. front_is_known w l []) g in cc)
  front_got look (c ∷ ds) e g = (c, ds, refl)

  -- what is after a step that reaps: the completed requests that are left, and the completions
  module _ (F : List Request → Type 0) (c : Completion) (ds : List Completion) where
    abbrev Leaves : Op → Option (Event × World) → Type 0
    Leaves op None = Unit {0}
    Leaves op (Some x) = F x.1.completed × (x.1.completions ≡ left_by op c ds)

    module _ (i : ℕ) (r : ℤ) (e : w.completions ≡ c ∷ ds) (left : F (without_front w.controls.look c.user_data w.completed)) where
      in_ring : (op : Op) → IsReap op → (t : Standing) (x : Option (Event × Controls)) → Leaves op (with_controls (in_rings w t r (Do op)) x)
      in_ring CqeSeen a t x = subst (λ cs. Leaves CqeSeen (with_controls (reaps_front w cs) x)) (sym e) (after x)
        where
          after : (x : Option (Event × Controls)) → Leaves CqeSeen (with_controls (Some (record w { completions = ds; completed = without_front w.controls.look c.user_data w.completed })) x)
          after None = tt
          after (Some x) = (left, refl)
      in_ring CqeGetData64 a t x = subst (λ cs. Leaves CqeGetData64 (with_controls (gets_front w cs) x)) (sym e) (after x)
        where
          after : (x : Option (Event × Controls)) → Leaves CqeGetData64 (with_controls (Some (record w { completed = without_front w.controls.look c.user_data w.completed })) x)
          after None = tt
          after (Some x) = (left, e)
      in_ring _ a t x = absurd a

      leaves : (op : Op) → IsReap op → IsNext w i (Do op) → Leaves op (thread_step w i r)
      leaves op a n =
          let t = next_is w i n.0 n.1 in
          subst (λ x. Leaves op (thread_step_at w i r x (next_line w.program w.controls i))) (sym t.stands)
          (subst (λ y. Leaves op (thread_step_at w i r (Some t.thread) y)) (sym n.1)
          (subst (λ s. Leaves op (with_controls (in_rings w t.thread r s) (controls_step w.program w.controls i (stmt_answer w r s)))) (sym n.2) (in_ring op a t.thread (controls_step w.program w.controls i (stmt_answer w r (Do op))))))

  pub each_reaps_one : EachReapsOne w
  each_reaps_one i op a n m =
      let f = front_of_one w.controls.look w.completions (known_front i op a n) m in
      record {
        front = f.1;
        others = f.2;
        completions = f.3;
        peeked = f.0;
        one = f.4;
        gone = λ r e after s.
            let none_left : (rs : List Request) → Type 0 = λ rs. count_of f.1.user_data rs ≡ 0 in
            subst (λ x. Leaves none_left f.1 f.2 op x) s (leaves none_left f.1 f.2 i r f.3 (count_left w.controls.look f.1.user_data w.completed f.0 f.4) op a n);
      }

  pub none_reaped_twice : NoneReapedTwice w
  none_reaped_twice i op a n got =
      let f = front_got w.controls.look w.completions (known_front i op a n) got in
      record {
        front = f.0;
        others = f.1;
        completions = f.2;
        same = λ r e after s.
            let all_left : (rs : List Request) → Type 0 = λ rs. rs ≡ w.completed in
            subst (λ x. Leaves all_left f.0 f.1 op x) s (leaves all_left f.0 f.1 i r f.2 (ap (λ l. without_front l f.0.user_data w.completed) got) op a n);
      }
