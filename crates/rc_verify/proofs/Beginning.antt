-- Where a walk begins, and what it answers.
use Rattle.std.proofs.Common.{◌≡◌, ℕ, zero, suc, Bool, ◌<◌, List, [], ◌∷◌, length, map, Option, Some, None, get_or, refl, sym, ap, subst, ◌∙◌, arith, slice_get}
use Rattle.std.proofs.lemmas.Option.{slice_get-get_or}
use Rattle.rc_lang.specs.declared.lines.Line.{Line}
use Rattle.rc_lang.specs.declared.program.Thread.{Thread as ThreadPart}
use Rattle.rc_lang.specs.Parts.{view_thread}
use Rattle.rc_lang.specs.Locks.{no_lock}
use Rattle.rc_lang.specs.Nesting.{blocks_at, locks_in}
use Rattle.rc_lang.specs.Program.{Program, Thread}
use Rattle.rc_lang.specs.Kept.{IsProgram, IsThread}
use Rattle.rc_lang.specs.declared.view.View.{View}
use Rattle.rc_lang.specs.Views.{seen, view_of}
use Rattle.rc_lang.proofs.Views.{is_thread, is_view, sees}
use Rattle.rc_rules.specs.Labellings.{IsRefusedAt}
use Rattle.rc_rules.specs.Sides.{Sides, on}
use Rattle.rc_rules.specs.States.{State, BeginsAs, IsStart, label_of, sides_of}
use Rattle.rc_rules.proofs.Headers.{thread_at}
use Rattle.rc_verify.specs.declared.walk.Walk.{Walk}
use Rattle.rc_verify.specs.declared.arms.Arms.{Arms}
use Rattle.rc_verify.specs.Walk.{AreKept, Fits, IsBranch, IsLoop, IsPeeked, OnKept, Reaches, listed, most_at}
use Rattle.rc_verify.proofs.Fit.{start_fits}
use Rattle.rc_verify.proofs.Strongest.{begins}

-- ---- the thread

pub thread_is : (P : Program) (parts : List ThreadPart) (i : ℕ) (part : ThreadPart) → map view_thread parts ≡ P.threads → i < length P.threads → part ≡ get_or parts i part → slice_get P.threads i ≡ Some (view_thread part)
thread_is P parts i part e lt q = thread_at P parts i part e lt ∙ ap (λ x. Some (view_thread x)) (sym q)

-- ---- its first place

pub starts : (P : Program) (i : ℕ) (t : Thread) (s : State) (branches loops : List (Option State)) (peek : Option Arms) → IsProgram P → slice_get P.threads i ≡ Some t → IsStart P i s → branches ≡ [] → loops ≡ [] → peek ≡ None → Reaches (view_of P i) t 0 (record { state = s; branches = branches; peek = peek; loops = loops })
starts P i t s branches loops peek made is h e f g = record {
  made = is_view P i made;
  thread = thread;
  labels = sides_of s ∷ [];
  at = record {
    within = omega arith;
    size = refl;
    strongest = begins (view_of P i) t (sides_of s) first.each;
    here = record { of = record { program = h.0; flag = first.flag }; at = refl };
    fits = fits;
    keeps = record {
      branches = subst (λ xs. AreKept (OnKept (IsBranch (view_of P i) t 0 (sides_of s ∷ []))) [] xs) (sym e) tt;
      peek = subst (λ (x : Option Arms). AreKept (IsPeeked (view_of P i) t 0 (sides_of s ∷ [])) [] (listed x)) (sym g) tt;
      loops = subst (λ xs. AreKept (OnKept (IsLoop (view_of P i) t 0 (sides_of s ∷ []))) [] xs) (sym f) tt;
    };
  };
}
  where
    thread : IsThread (view_of P i) t
    thread = is_thread P i t made is

    first : BeginsAs s t
    first = h.1 t is

    fits : (k : ℕ) (x : Sides) → slice_get (sides_of s ∷ []) k ≡ Some x → (z : Bool) → Fits (locks_in (blocks_at t.lines k)) (most_at 0) (on z x)
    fits zero x q z = let g : sides_of s ≡ x = cc in subst (λ y. Fits no_lock 4096 (on z y)) g (start_fits (view_of P i) t z (label_of s z) thread.items (first.each z))
    fits (suc k) x q z = absurd (cc)

-- ---- the view of the thread

pub reaches_seen : (view : View) (P : Program) (i : ℕ) (t : Thread) (j : ℕ) (w : Walk) → view.program.now ≡ P → view.thread ≡ i → Reaches (view_of P i) t j w → Reaches (seen view) t j w
reaches_seen view P i t j w p q r = subst (λ (V : Program). Reaches V t j w) (sym (sees view P i p q)) r

-- ---- the answers

pub same_thread : (ts : List Thread) (i : ℕ) (t u : Thread) → slice_get ts i ≡ Some t → slice_get ts i ≡ Some u → t ≡ u
same_thread ts i t u e f = cc

-- The line at j is refused, which has this number.
pub refuses_line : (P Q : Program) (i j v : ℕ) (t u : Thread) (d : Line) → slice_get P.threads i ≡ Some t → slice_get P.threads i ≡ Some u → Q ≡ view_of P i → j < length t.lines → d ≡ get_or t.lines j d → (l : Line) × IsRefusedAt Q t j l v → (k : ℕ) × (l : Line) × (l.number ≡ d.number) × IsRefusedAt (view_of P i) u k l v
refuses_line P Q i j v t u d is that p lt e h =
    let at : slice_get t.lines j ≡ Some d = slice_get-get_or t.lines j d lt ∙ ap Some (sym e) in
    let q : h.0 ≡ d = cc (h.1.line_is, at) in
    (j, h.0, ap (λ (l : Line). l.number) q, subst (λ (x : Thread). IsRefusedAt (view_of P i) x j h.0 v) (same_thread P.threads i t u is that) (subst (λ (y : Program). IsRefusedAt y t j h.0 v) p h.1))
