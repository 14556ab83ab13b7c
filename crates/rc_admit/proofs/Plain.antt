-- Without a line that gets a completion's user data nothing is got, and the completions are those of the completed
-- requests, in each run.
use Rattle.std.proofs.Common.{◌≡◌, ℕ, Bool, true, false, List, [], ◌∷◌, take, drop, Option, Some, None, refl, sym, ap, ◌∙◌, subst, inl, inr}
use Rattle.std.specs.Prelude.{slice_get, ℤ, if◌then◌else◌}
use Rattle.rc_lang.specs.declared.lines.Line.{Line}
use Rattle.rc_lang.specs.declared.lines.Op.{Op}
use Rattle.rc_lang.specs.declared.lines.Op.TheVariants.{Load, Store, Fill, GetSqe, PrepRead, PrepWrite, PrepFsync, PrepNop, PrepOther, SetData64, Submit, SubmitAndWait, CqeGetData64, CqeSeen}
use Rattle.rc_lang.specs.declared.lines.Stmt.{Stmt}
use Rattle.rc_lang.specs.declared.lines.Stmt.TheVariants.{Do, Put, Lock, EndLock, If, Peek, Loop, EndLoop, Break}
use Rattle.rc_lang.specs.declared.lines.Test.{Test}
use Rattle.rc_lang.specs.declared.lines.Test.TheVariants.{Compare, ReadyZero, SpaceAtLeast, Take, Any}
use Rattle.rc_lang.specs.Program.{Program, rows_of}
use Rattle.rc_split.specs.Pools.{Pools, all_pooled, includes, overfills, pool_of}
use Rattle.rc_world.specs.declared.controls.Answer.{Answer}
use Rattle.rc_world.specs.declared.controls.Answer.TheVariants.{Plain, Number, Byte, Front}
use Rattle.rc_world.specs.declared.event.Event.{Event}
use Rattle.rc_world.specs.Controls.{Controls, Move, Standing, acts, acts_on, are_free, as_event, branches, decides, does, is_choice, loads, low_byte, made, next_at, next_line, passes_arm, peeks, plainly, reaps, submits, variable, list_at}
use Rattle.rc_world.specs.Machine.{World, bytes_of, count_in, hands_over, in_rings, kernel_step, start_world, stmt_answer, thread_step, thread_step_at, with_controls}
use Rattle.rc_world.specs.Runs.{IsRun}
use Rattle.rc_world.proofs.Cases.{OnSome, on_filled, on_opened, on_prepared, on_queued, on_reaped, on_stored, on_submitted}
use Rattle.rc_admit.specs.Worlds.{CompletionsAgree, GetsNoData, OfWorldsWithoutGets}
use Rattle.rc_admit.proofs.Flight.{agree_more, all_unreaped, begun, data_in, data_of, front_goes, front_is, is_reaped}
use Rattle.rc_admit.proofs.Kernel.{AfterStep, kernel_after}
use Rattle.rc_admit.proofs.Moves.{idle_later}
use Rattle.rc_lang.proofs.Reading.{get_written, written_at}

-- ---- what a thread's move leaves of the front

abbrev OnMove : (Move → Type 0) → Option Move → Type 0
OnMove F None = Unit {0}
OnMove F (Some m) = F m

-- It isn't got.
abbrev NotGot : Move → Type 0
NotGot m = is_reaped m.look ≡ false

plain : (m : Move) (a : Answer) → NotGot m → OnMove NotGot (plainly m a)
plain m Plain h = h
plain m _ h = tt

module _ (P : Program) (c : Controls) (i : ℕ) (t : Standing) (n : is_reaped c.look ≡ false) where
  loaded : (x : ℕ) (a : Answer) → OnMove NotGot (loads c t x a)
  loaded x (Byte b) = n
  loaded x _ = tt

  submitted : (x : ℕ) (a : Answer) → OnMove NotGot (submits c t x a)
  submitted x (Number k) = n
  submitted x _ = tt

  reaped : (a : Answer) → OnMove NotGot (reaps c t a)
  reaped (Front cqe) = refl
  reaped _ = tt

  does_so : (op : Op) (a : Answer) → (op ≡ CqeGetData64 → ⊥) → OnMove NotGot (does c t op a)
  does_so (Load x b j) a h = loaded x a
  does_so (Submit x) a h = submitted x a
  does_so (SubmitAndWait x k) a h = submitted x a
  does_so CqeGetData64 a h = absurd (h refl)
  does_so CqeSeen a h = reaped a
  does_so _ a h = plain _ a n

  -- either branch of an if, the pools too
  taken : (b : Bool) (pools : Pools) → NotGot (if b then record (branches P c i t true) { pools = pools } else branches P c i t false)
  taken true pools = n
  taken false pools = n

  chosen : (b holds : Bool) → OnMove NotGot (if b then Some (branches P c i t holds) else None)
  chosen true holds = n
  chosen false holds = tt

  decides_so : (test : Test) (a : Answer) → OnMove NotGot (decides P c i t test a)
  decides_so (Compare x k v) a = plain _ a n
  decides_so ReadyZero (Number k) = n
  decides_so (SpaceAtLeast m) (Number k) = n
  decides_so (Take pool k) a = plain _ a (taken (includes P (pool_of c.pools pool) (list_at P i t k)) _)
  decides_so Any (Number k) = chosen (is_choice k) _
  decides_so _ _ = tt

  peeked : (x : ℕ) (a : Answer) → OnMove NotGot (peeks P c i t x a)
  peeked x Plain = n
  peeked x (Front cqe) = refl
  peeked x _ = tt

  unless : (b : Bool) (m : Move) (a : Answer) → NotGot m → OnMove NotGot (if b then None else plainly m a)
  unless true m a h = tt
  unless false m a h = plain m a h

  where_free : (b : Bool) (m : Move) (a : Answer) → NotGot m → OnMove NotGot (if b then plainly m a else None)
  where_free true m a h = plain m a h
  where_free false m a h = tt

  acts_so : (s : Stmt) (a : Answer) → (s ≡ Do CqeGetData64 → ⊥) → OnMove NotGot (acts P c i t s a)
  acts_so (Do op) a h = does_so op a (λ e. h (ap Do e))
  acts_so (Put pool k) a h = unless (overfills P (all_pooled P c.pools) (list_at P i t k)) _ a n
  acts_so (Lock wanted) a h = where_free (are_free wanted c.holders) _ a n
  acts_so (EndLock o released) a h = plain _ a n
  acts_so (If test) a h = decides_so test a
  acts_so (Peek x) a h = peeked x a
  acts_so (Loop k) a h = plain _ a n
  acts_so (EndLoop o k) a h = plain _ a n
  acts_so (Break o releases leaves) a h = plain _ a (idle_later leaves c.look n)
  acts_so _ a h = tt

-- ---- what each world keeps

abbrev Agrees : World → Type 0
Agrees w = GetsNoData w.program × (data_of w.completed ≡ data_in w.completions)

pub record IsPlain (w : World) : Type 0 where
  pub none_got : is_reaped w.controls.look ≡ false
  pub agrees : GetsNoData w.program × (data_of w.completed ≡ data_in w.completions)

module _ (w : World) (h : IsPlain w) where
  handed : (k : ℕ) → Agrees (hands_over w k)
  handed k = let b = begun (record w { queued = drop k w.queued }) (take k w.queued) in subst Agrees (sym b.is) h.agrees

  rings : (t : Standing) (r : ℤ) (s : Stmt) → (s ≡ Do CqeGetData64 → ⊥) → OnSome Agrees (in_rings w t r s)
  rings t r (Do (Store b j x)) n = on_stored Agrees w b j (low_byte (variable t x)) (λ old e. h.agrees)
  rings t r (Do (Fill b x)) n = on_filled Agrees w b (low_byte (variable t x)) (bytes_of w b) (λ new old e l. h.agrees)
  rings t r (Do GetSqe) n = on_opened Agrees w w.slot (λ e lt. h.agrees)
  rings t r (Do (PrepRead fd b len off)) n = on_prepared Agrees w _ w.slot (λ e f. h.agrees)
  rings t r (Do (PrepWrite fd b len off k)) n = on_prepared Agrees w _ w.slot (λ e f. h.agrees)
  rings t r (Do (PrepFsync fd datasync)) n = on_prepared Agrees w _ w.slot (λ e f. h.agrees)
  rings t r (Do PrepNop) n = on_prepared Agrees w _ w.slot (λ e f. h.agrees)
  rings t r (Do PrepOther) n = on_prepared Agrees w _ w.slot (λ e f. h.agrees)
  rings t r (Do (SetData64 u)) n = on_queued Agrees w u w.slot (λ q e. h.agrees)
  rings t r (Do (Submit x)) n = on_submitted Agrees w r (λ y. handed (count_in r))
  rings t r (Do (SubmitAndWait x k)) n = on_submitted Agrees w r (λ y. handed (count_in r))
  rings t r (Do CqeGetData64) n = absurd (n refl)
  rings t r (Do CqeSeen) n = on_reaped Agrees w w.completions (λ c cs e.
      let f = front_is w.completed c cs (h.agrees.1 ∙ ap data_in e) in
      (h.agrees.0, ap data_of (front_goes w.controls.look c.user_data w.completed h.none_got ∙ f.gone) ∙ f.agree))
  rings t r _ n = h.agrees

  event : (i : ℕ) (l : Line) (v : Option World) (m : Option Move) → OnSome Agrees v → OnMove NotGot m → AfterStep IsPlain (with_controls v (as_event w.program i l (made w.program w.controls i m)))
  event i l None m g k = tt
  event i l (Some v) None g k = tt
  event i l (Some v) (Some m) g k = record { none_got = idle_later (passes_arm w.program i m.place) m.look k; agrees = g }

  thread_plain : (i : ℕ) (r : ℤ) → AfterStep IsPlain (thread_step w i r)
  thread_plain i r = go (slice_get w.controls.threads i) refl (next_line w.program w.controls i) refl
    where
      go : (x : Option Standing) → slice_get w.controls.threads i ≡ x → (y : Option Line) → next_line w.program w.controls i ≡ y → AfterStep IsPlain (thread_step_at w i r x y)
      go None e y f = tt
      go (Some t) e None f = tt
      go (Some t) e (Some l) f =
          let v = written_at w.program i t.variables t.place l (ap (λ x. next_at w.program i x) (sym e) ∙ f) in
          let other : l.stmt ≡ Do CqeGetData64 → ⊥ = λ q. h.agrees.0 i t.place (v.says ∙ ap Some (get_written w.program (rows_of w.program i) t.variables v.written.stmt (sym v.read ∙ q))) in
          subst (λ x. AfterStep IsPlain (with_controls (in_rings w t r l.stmt) (acts_on w.program w.controls i (stmt_answer w r l.stmt) x (next_line w.program w.controls i)))) (sym e)
          (subst (λ y. AfterStep IsPlain (with_controls (in_rings w t r l.stmt) (acts_on w.program w.controls i (stmt_answer w r l.stmt) (Some t) y))) (sym f)
          (event i l (in_rings w t r l.stmt) (acts w.program w.controls i t l.stmt (stmt_answer w r l.stmt)) (rings t r l.stmt other) (acts_so w.program w.controls i t h.none_got l.stmt (stmt_answer w r l.stmt) other)))

  kernel_plain : (k : ℕ) (res : ℤ) (bytes : List ℕ) → AfterStep IsPlain (kernel_step w k res bytes)
  kernel_plain k res bytes = kernel_after w IsPlain k res bytes (λ x bs e. record { none_got = h.none_got; agrees = (h.agrees.0, agree_more w.completed w.completions x.request res h.agrees.1) })

run_plain : (events : List Event) (w after : World) → IsPlain w → IsRun w events after → IsPlain after
run_plain [] w after h r = subst IsPlain r h
run_plain (e ∷ events) w after h r = run_plain events r.0 after (elim r.1.step [ inl t ↦ subst (AfterStep IsPlain) t.2 (thread_plain w h t.0 t.1) | inr k ↦ subst (AfterStep IsPlain) k.3 (kernel_plain w h k.0 k.1 k.2) ]) r.2

pub agree_without_gets : OfWorldsWithoutGets CompletionsAgree
agree_without_gets P none events w r =
    let h = run_plain events (start_world P) w (record { none_got = refl; agrees = (none, refl) }) r in
    ap data_in (all_unreaped w.controls.look w.completions h.none_got) ∙ sym h.agrees.1
