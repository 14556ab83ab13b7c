-- The labels of a walk's state are the strongest at its place.
use Rattle.std.proofs.Common.{◌≡◌, ℕ, ◌≤◌, Bool, true, false, Ok, length, length-take, take, take_all, Option, Some, None, get_or, slice_get, slice_index_or, sym, ap, subst, ◌∙◌, arith}
use Rattle.std.proofs.lemmas.Option.{get_or_from_slice_get, slice_get_within}
use Rattle.rc_lang.specs.declared.lines.Line.{Line}
use Rattle.rc_lang.specs.Program.{Program, Thread}
use Rattle.rc_lang.specs.Views.{view_of}
use Rattle.rc_rules.specs.declared.cause.Cause.{Cause}
use Rattle.rc_rules.specs.Labellings.{HasLabels, IsGood, IsRefusedAt}
use Rattle.rc_rules.specs.Sides.{on, unreached}
use Rattle.rc_rules.specs.States.{program_of, sides_of}
use Rattle.rc_verify.specs.declared.walk.Walk.{Walk}
use Rattle.rc_verify.specs.Labels.{Goes, IsHere, IsRefusedFor, IsStrongestAt, Labels, IsAtLine, named_in}
use Rattle.rc_verify.specs.Walk.{Reaches}
use Rattle.rc_verify.proofs.Beginning.{refuses_line, same_thread}

pub told : (P : Program) (t : Thread) (j : ℕ) (w : Walk) → Reaches P t j w → IsStrongestAt P t j (sides_of w.state)
told P t j w r = record {
  one = (r.labels, r.at.strongest.good, λ z. ap (on z) known);
  strongest = λ ks g z. rw (← known) (r.at.strongest.strongest ks g j z size);
}
  where
    known : slice_index_or r.labels j unreached ≡ sides_of w.state
    known = get_or_from_slice_get r.labels j (sides_of w.state) unreached r.at.here.at

    size : j ≤ length (take j t.lines)
    size = let within = r.at.within in omega (arith, within, length-take j t.lines)

-- ---- what a value stands for

here_at : (P : Program) (t : Thread) (j : ℕ) (w : Walk) → Reaches P t j w → IsHere P t j w.state
here_at P t j w r = (r.at.here.of, told P t j w r)

pub here_now : (P : Program) (t : Thread) (j : ℕ) (w : Walk) (x : Option Cause) → IsAtLine P t j w x → IsHere P t j w.state
here_now P t j w None r = here_at P t j w r
here_now P t j w (Some c) s = s.1

pub refused_here : (P : Program) (t : Thread) (j : ℕ) (old new : Walk) (x : Option Cause) (cause : Cause) → IsAtLine P t j old x → x ≡ None → IsRefusedFor (program_of old.state) t j cause → new.state ≡ old.state → IsRefusedFor P t j cause × IsHere P t j new.state
refused_here P t j old new None cause r n f e = (subst (λ (y : Program). IsRefusedFor y t j cause) r.at.here.of.program f, subst (IsHere P t j) (sym e) (here_at P t j old r))
refused_here P t j old new (Some c) cause s n f e = absurd cc

module _ (P : Program) (i : ℕ) (t : Thread) (j : ℕ) (w : Walk) (x : Option Cause) (v : Labels) (e : record { program = P; number = i; thread = t; place = j; state = w.state } ≡ v) (s : IsAtLine (view_of P i) t j w x) where
  pub told_view : IsHere (named_in v) v.thread v.place v.state
  told_view = subst (λ (u : Labels). IsHere (named_in u) u.thread u.place u.state) e (here_now (view_of P i) t j w x s)

  pub at_end : x ≡ None → length t.lines ≤ j → (v.place ≡ length v.thread.lines) × HasLabels (named_in v) v.thread v.thread.lines
  at_end n le = subst (λ (u : Labels). (u.place ≡ length u.thread.lines) × HasLabels (named_in u) u.thread u.thread.lines) e (go x s n)
    where
      go : (x : Option Cause) → IsAtLine (view_of P i) t j w x → x ≡ None → (j ≡ length t.lines) × HasLabels (view_of P i) t t.lines
      go None r n = (let within = r.at.within in omega (arith, within, le), (r.labels, subst (λ ls. IsGood (view_of P i) t ls r.labels) (take_all j t.lines le) r.at.strongest.good))
      go (Some c) r n = absurd cc

-- ---- what a thread's walk answers

-- The walk of thread i is over the program as that thread names it.
pub named : (P : Program) (i : ℕ) (v : Labels) → v.program ≡ P → v.number ≡ i → named_in v ≡ view_of P i
named P i v p q = ap (λ (Q : Program). view_of Q v.number) p ∙ ap (λ n. view_of P n) q

module _ (P : Program) (i : ℕ) (t u : Thread) (v : Labels) (is : slice_get P.threads i ≡ Some t) (that : slice_get P.threads i ≡ Some u) (p : named_in v ≡ view_of P i) (q : v.thread ≡ t) where
  thread_same : v.thread ≡ u
  thread_same = q ∙ same_thread P.threads i t u is that

  pub all_labelled : HasLabels (named_in v) v.thread v.thread.lines → HasLabels (view_of P i) u u.lines
  all_labelled h = subst (λ (x : Thread). HasLabels (view_of P i) x x.lines) thread_same (subst (λ (y : Program). HasLabels y v.thread v.thread.lines) p h)

pub line_refused : (P : Program) (i k n : ℕ) (t u : Thread) (v : Labels) (d : Line) → slice_get P.threads i ≡ Some t → slice_get P.threads i ≡ Some u → named_in v ≡ view_of P i → v.thread ≡ t → k ≡ v.place → d ≡ get_or t.lines k d → ((l : Line) × IsRefusedAt (named_in v) v.thread v.place l n) → (j : ℕ) × (l : Line) × (l.number ≡ d.number) × IsRefusedAt (view_of P i) u j l n
line_refused P i k n t u v d is that p q e g h =
    let h' : (l : Line) × IsRefusedAt (named_in v) t k l n = subst (λ m. (l : Line) × IsRefusedAt (named_in v) t m l n) (sym e) (subst (λ (x : Thread). (l : Line) × IsRefusedAt (named_in v) x v.place l n) q h) in
    refuses_line P (named_in v) i k n t u d is that p (slice_get_within t.lines k h'.0 h'.1.line_is) g h'

pub goes_end : (old new : Labels) (b : Bool) → b ≡ false → Goes old new (Ok b) → HasLabels (named_in old) old.thread old.thread.lines
goes_end old new true e g = absurd cc
goes_end old new false e g = g.2
