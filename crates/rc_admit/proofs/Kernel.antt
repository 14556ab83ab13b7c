-- A step of a thread, also a stray one, and a step of the kernel keep what is true of each world.
use Rattle.std.proofs.Common.{◌≡◌, ℕ, ◌+◌, ◌≤◌, Bool, true, false, ◌&&◌, List, [], ◌∷◌, ◌++◌, length, Option, Some, None, refl, sym, ap, ◌∙◌, subst, arith}
use Rattle.std.proofs.lemmas.Bool.{eq-eqb}
use Rattle.std.specs.Prelude.{nat_eq, slice_get, ℤ, pos, if◌then◌else◌}
use Rattle.rc_lang.specs.declared.lines.Line.{Line}
use Rattle.rc_lang.specs.declared.request.Request.{Request}
use Rattle.rc_lang.specs.Program.{Program, lines_of, stmt_of}
use Rattle.rc_lang.specs.Kept.{IsProgram}
use Rattle.rc_lang.specs.Requests.{may_complete}
use Rattle.rc_rules.specs.declared.mode.Peeked.{Peeked}
use Rattle.rc_rules.specs.declared.mode.Peeked.TheVariants.{Unseen, Sees, SeesOther, Got}
use Rattle.rc_rules.specs.declared.mode.Mode.{Mode}
use Rattle.rc_rules.specs.Labellings.{headers_bag}
use Rattle.rc_split.specs.Bags.{Part, begun}
use Rattle.rc_world.specs.declared.controls.Look.{Look}
use Rattle.rc_world.specs.declared.controls.Look.TheVariants as looks
use Rattle.rc_world.specs.declared.event.Completion.{Completion}
use Rattle.rc_world.specs.declared.event.Event.{Event}
use Rattle.rc_world.specs.Controls.{Controls, Move, Standing, acts, acts_on, as_event, made, next_at, next_line}
use Rattle.rc_world.specs.Faults.{is_holder}
use Rattle.rc_world.specs.Machine.{Pending, World, bytes_brought, completes, completion_of, given_back, in_rings, kernel_event, kernel_step, kernel_step_of, stmt_answer, thread_step, thread_step_at, with_controls, without}
use Rattle.rc_world.specs.Stray.{stray_step, strays, strays_on}
use Rattle.rc_admit.specs.Worlds.{unreaped}
use Rattle.rc_admit.proofs.Flight.{agree_more, completed_sum, data_in, is_reaped}
use Rattle.rc_admit.proofs.RequestKinds.{HasKind, owns}
use Rattle.rc_admit.proofs.Lists.{sum_to, sum_over, Each-append, Each-without, Each-get}
use Rattle.rc_admit.proofs.Ops.{Keeps}
use Rattle.rc_admit.proofs.Owned.{Stand, HasEdge, EdgeAt, owns_pending, unheld, CqFits, FrontFits, IsNonempty, held, held_map, HasKindPending, Owned, WellOwned}
use Rattle.rc_admit.proofs.Steps.{line_keeps, stray_keeps}
use Rattle.rc_lang.proofs.Reading.{stmt_alone}

-- It holds of the world after a step, where that can be made.
abbrev pub AfterStep : (World → Type 0) → Option (Event × World) → Type 0
AfterStep F None = Unit {0}
AfterStep F (Some x) = F x.1

-- ---- the kernel

pub kernel_after : (w : World) (F : World → Type 0) (k : ℕ) (res : ℤ) (bytes : List ℕ) → ((x : Pending) (buffers : List (Option (List ℕ))) → slice_get w.pending k ≡ Some x → F (completes w k res x.request buffers)) → AfterStep F (kernel_step w k res bytes)
kernel_after w F k res bytes done = go (slice_get w.pending k) refl
  where
    event : (x : Pending) → slice_get w.pending k ≡ Some x → (bs : Option (List (Option (List ℕ)))) → AfterStep F (kernel_event w k res x.request bs)
    event x e None = tt
    event x e (Some bs) = done x bs e

    tested : (x : Pending) → slice_get w.pending k ≡ Some x → (b : Bool) → AfterStep F (if b then kernel_event w k res x.request (given_back w x.request bytes x.bytes) else None)
    tested x e true = event x e (given_back w x.request bytes x.bytes)
    tested x e false = tt

    go : (x : Option Pending) → slice_get w.pending k ≡ x → AfterStep F (kernel_step_of w k res bytes x)
    go None e = tt
    go (Some x) e = tested x e (may_complete x.request res && nat_eq (length bytes) (bytes_brought x.request))

front_more : (look : Look) (cs ds : List Completion) (x : Peeked) → FrontFits look cs x → FrontFits look (cs ++ ds) x
front_more look cs ds Unseen f = f
front_more look [] ds (Sees u) f = absurd f.1
front_more look (c ∷ cs) ds (Sees u) f = f
front_more look [] ds SeesOther f = absurd f.1
front_more look (c ∷ cs) ds SeesOther f = f
front_more look [] ds Got f = absurd f.1
front_more look (c ∷ cs) ds Got f = f

-- A front completion that is got is there.
got_there : (P : Program) (S : Stand) (w : World) (bags : ℕ → Part → ℕ) (modes : ℕ → Mode) → Owned P S w bags modes → is_reaped w.controls.look ≡ true → IsNonempty w.completions
got_there P S w bags modes o g = go w.controls.holders.cq refl
  where
    other : is_reaped w.controls.look ≡ false → IsNonempty w.completions
    other f = let h = g in absurd (cc)

    by : (h : Bool) (s : Option Peeked) → h ≡ true → CqFits w.controls.look w.completions h s → IsNonempty w.completions
    by false s e f = absurd (cc)
    by true None e f = absurd f
    by true (Some Unseen) e f = other f
    by true (Some (Sees u)) e f = other (ap is_reaped f.0)
    by true (Some SeesOther) e f = f.1
    by true (Some Got) e f = f.1

    go : (x : Option ℕ) → w.controls.holders.cq ≡ x → IsNonempty w.completions
    go None e = other (o.idle e)
    go (Some j) e = by (is_holder w.controls.holders.cq j) (modes j).cq (ap (λ (x : Option ℕ). is_holder x j) e ∙ eq-eqb j j refl) (o.reaps j)

-- A new completion is that of a request that isn't reaped.
unreaped_more : (look : Look) (cs ds : List Completion) → (is_reaped look ≡ true → IsNonempty cs) → unreaped look (cs ++ ds) ≡ unreaped look cs ++ ds
unreaped_more looks.Unseen cs ds h = refl
unreaped_more looks.Peeked cs ds h = refl
unreaped_more looks.Got [] ds h = absurd (h refl)
unreaped_more looks.Got (c ∷ cs) ds h = refl

completes_keeps : (P : Program) (S : Stand) (w : World) (k : ℕ) (res : ℤ) (x : Pending) (bs : List (Option (List ℕ))) → slice_get w.pending k ≡ Some x → WellOwned P S w → WellOwned P S (completes w k res x.request bs)
completes_keeps P S w k res x bs e h =
    let o = h.2 in
    let r : Request = x.request in (
      h.0,
      h.1,
      record {
        of = o.of;
        room = o.room;
        stands = o.stands;
        total = λ p.
            let a : sum_over (owns_pending P p) (without k w.pending) + sum_over (owns P p) (w.completed ++ r ∷ []) ≡ sum_over (owns_pending P p) w.pending + sum_over (owns P p) w.completed = completed_sum (owns P p) k w.pending w.completed x e in
            let t : sum_to (λ i. held P (h.0 i) (h.1 i) p) (length w.controls.threads) + unheld P w p ≤ headers_bag (begun P.stock P.threads) p = o.total p in
            omega arith;
        within = o.within;
        free = o.free;
        idle = o.idle;
        submits = o.submits;
        reaps = λ i. held_map (FrontFits w.controls.look w.completions) (FrontFits w.controls.look (w.completions ++ completion_of r res ∷ [])) (front_more w.controls.look w.completions (completion_of r res ∷ [])) (is_holder w.controls.holders.cq i) (h.1 i).cq (o.reaps i);
        queued = o.queued;
        pending = Each-without (HasKindPending P) k w.pending o.pending;
        completed = Each-append (HasKind P) w.completed (r ∷ []) o.completed (Each-get (HasKindPending P) k w.pending x e o.pending, tt);
        agree = agree_more w.completed (unreaped w.controls.look w.completions) r res o.agree ∙ sym (ap data_in (unreaped_more w.controls.look w.completions (completion_of r res ∷ []) (got_there P S w h.0 h.1 o)));
      },
    )

pub kernel_keeps : (P : Program) (S : Stand) (w : World) (k : ℕ) (res : ℤ) (bytes : List ℕ) → WellOwned P S w → AfterStep (WellOwned P S) (kernel_step w k res bytes)
kernel_keeps P S w k res bytes h = kernel_after w (WellOwned P S) k res bytes (λ x bs e. completes_keeps P S w k res x bs e h)

-- ---- a thread

event_keeps : (P : Program) (S : Stand) (c : Controls) (i : ℕ) (l : Line) (v : Option World) (m : Option Move) → Keeps P S c i v m → AfterStep (WellOwned P S) (with_controls v (as_event P i l (made P c i m)))
event_keeps P S c i l None m h = tt
event_keeps P S c i l (Some v) None h = tt
event_keeps P S c i l (Some v) (Some m) h = h

own_step : (S : Stand) (w : World) (i : ℕ) (r : ℤ) → IsProgram w.program → HasEdge w.program S → WellOwned w.program S w → AfterStep (WellOwned w.program S) (thread_step w i r)
own_step S w i r made edge h = go (slice_get w.controls.threads i) refl (next_line w.program w.controls i) refl
  where
    go : (x : Option Standing) → slice_get w.controls.threads i ≡ x → (y : Option Line) → next_line w.program w.controls i ≡ y → AfterStep (WellOwned w.program S) (thread_step_at w i r x y)
    go None e y f = tt
    go (Some t) e None f = tt
    go (Some t) e (Some l) f =
        let at : stmt_of (slice_get (lines_of w.program i) t.place) ≡ Some l.stmt = stmt_alone w.program made i t.variables t.place l (ap (λ x. next_at w.program i x) (sym e) ∙ f) in
        let line = line_keeps w.program made S edge w h.0 h.1 i t r h.2 e l.stmt (subst (λ x. EdgeAt w.program S i (h.0 i) (h.1 i) t.variables t.place x) at (edge i (h.0 i) (h.1 i) t.variables t.place (h.2.stands i t e))) in
        subst (λ x. AfterStep (WellOwned w.program S) (with_controls (in_rings w t r l.stmt) (acts_on w.program w.controls i (stmt_answer w r l.stmt) x (next_line w.program w.controls i)))) (sym e)
        (subst (λ y. AfterStep (WellOwned w.program S) (with_controls (in_rings w t r l.stmt) (acts_on w.program w.controls i (stmt_answer w r l.stmt) (Some t) y))) (sym f)
        (event_keeps w.program S w.controls i l (in_rings w t r l.stmt) (acts w.program w.controls i t l.stmt (stmt_answer w r l.stmt)) line))

pub thread_keeps : (P : Program) → IsProgram P → (S : Stand) → HasEdge P S → (w : World) (i : ℕ) (r : ℤ) → WellOwned P S w → AfterStep (WellOwned P S) (thread_step w i r)
thread_keeps P made S edge w i r h = subst (λ Q. AfterStep (WellOwned Q S) (thread_step w i r)) h.2.of (own_step S w i r (subst IsProgram (sym h.2.of) made) (subst (λ Q. HasEdge Q S) (sym h.2.of) edge) (subst (λ Q. WellOwned Q S w) (sym h.2.of) h))

-- ---- a stray step of a thread

own_stray : (S : Stand) (w : World) (i byte : ℕ) → IsProgram w.program → HasEdge w.program S → WellOwned w.program S w → AfterStep (WellOwned w.program S) (stray_step w i byte)
own_stray S w i byte made edge h = go (slice_get w.controls.threads i) refl (next_line w.program w.controls i) refl
  where
    go : (x : Option Standing) → slice_get w.controls.threads i ≡ x → (y : Option Line) → next_line w.program w.controls i ≡ y → AfterStep (WellOwned w.program S) (with_controls (Some w) (strays_on w.program w.controls i byte x y))
    go None e y f = tt
    go (Some t) e None f = tt
    go (Some t) e (Some l) f =
        let at : stmt_of (slice_get (lines_of w.program i) t.place) ≡ Some l.stmt = stmt_alone w.program made i t.variables t.place l (ap (λ x. next_at w.program i x) (sym e) ∙ f) in
        let line = stray_keeps w.program made S edge w h.0 h.1 i t (pos 0) h.2 e byte l.stmt (subst (λ x. EdgeAt w.program S i (h.0 i) (h.1 i) t.variables t.place x) at (edge i (h.0 i) (h.1 i) t.variables t.place (h.2.stands i t e))) in
        event_keeps w.program S w.controls i l (Some w) (strays w.program w.controls i t byte l.stmt) line

pub stray_step_keeps : (P : Program) → IsProgram P → (S : Stand) → HasEdge P S → (w : World) (i byte : ℕ) → WellOwned P S w → AfterStep (WellOwned P S) (stray_step w i byte)
stray_step_keeps P made S edge w i byte h = subst (λ Q. AfterStep (WellOwned Q S) (stray_step w i byte)) h.2.of (own_stray S w i byte (subst IsProgram (sym h.2.of) made) (subst (λ Q. HasEdge Q S) (sym h.2.of) edge) (subst (λ Q. WellOwned Q S w) (sym h.2.of) h))
