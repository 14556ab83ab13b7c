-- What the strongest labels at a place say of shares.
use Rattle.std.proofs.Common.{◌≡◌, ◌≤◌, ℕ, Bool, true, false, refl, ap, sym, subst, ◌∙◌, arith}
use mathlib.Core.Bool.{beq}
use Rattle.rc_lang.specs.Program.{Program}
use Rattle.rc_lang.specs.Views.{view_of}
use Rattle.rc_rules.specs.Labels.{Label}
use Rattle.rc_rules.specs.Sides.{on}
use Rattle.rc_rules.specs.States.{State, held_at, label_of, sides_of}
use Rattle.rc_split.specs.Bags.{ShareOf}
use Rattle.rc_follow.specs.declared.rights.Held.{Held}
use Rattle.rc_follow.specs.declared.rights.Spot.{Spot}
use Rattle.rc_follow.specs.Rights.{SharesAt}
use Rattle.rc_follow.specs.RightsKnown.{IsHeld, IsHeldAt}
use Rattle.rc_verify.specs.Labels.{HasStrongest, IsStrongestAt, Labels, named_in}

pub strongest_here : (P : Program) (i : ℕ) (l : Labels) (j : ℕ) → l.program ≡ P → l.number ≡ i → l.place ≡ j → HasStrongest l → IsStrongestAt (view_of P i) l.thread j (sides_of l.state)
strongest_here P i l j e n f h =
    let named : named_in l ≡ view_of P i = ap (λ (Q : Program). view_of Q l.number) e ∙ ap (λ (k : ℕ). view_of P k) n in
    subst (λ (Q : Program). IsStrongestAt Q l.thread j (sides_of l.state)) named (subst (λ (k : ℕ). IsStrongestAt (named_in l) l.thread k (sides_of l.state)) f h)

on_sides : (s : State) (z : Bool) → on z (sides_of s) ≡ label_of s z
on_sides s true = refl
on_sides s false = refl

pub le_held : (s : State) (z : Bool) (x : Label) (k b : ℕ) → x ≡ label_of s z → k ≡ held_at x (ShareOf b) → k ≤ held_at (on z (sides_of s)) (ShareOf b)
le_held s z x k b e f = subst (λ (y : Label). k ≤ held_at y (ShareOf b)) (e ∙ sym (on_sides s z)) (omega (arith, f))

pub held_same : (P : Program) (h : Held) (s : Spot) → h.spot.thread ≡ s.thread → h.spot.place ≡ s.place → h.spot.zero ≡ s.zero → h.spot.buffer ≡ s.buffer → IsHeld P h → IsHeldAt P s h.shares
held_same P h s t p z b k =
    subst (λ (x : ℕ). SharesAt P x s.place s.zero s.buffer h.shares) t
    (subst (λ (x : ℕ). SharesAt P h.spot.thread x s.zero s.buffer h.shares) p
    (subst (λ (x : Bool). SharesAt P h.spot.thread h.spot.place x s.buffer h.shares) z
    (subst (λ (x : ℕ). SharesAt P h.spot.thread h.spot.place h.spot.zero x h.shares) b k)))

pub beq_same : (a b : Bool) → beq a b ≡ true → a ≡ b
beq_same true true h = refl
beq_same false false h = refl
beq_same true false h = absurd (cc)
beq_same false true h = absurd (cc)
