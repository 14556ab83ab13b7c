-- Which labels fit a place in these locks, and how many of each part are held there.
use Rattle.std.proofs.Common.{◌≡◌, ℕ, ◌+◌, ◌^◌, ◌≤◌, Bool, true, false, cond, not, nat_lt, unwrap_or, Option, None, Some, List, [], ◌∷◌, refl, sym, ap, subst, ◌∙◌, ◌⊎◌, inl, inr, arith}
use Rattle.std.specs.Prelude.{option_map}
use Rattle.rc_lang.specs.declared.lines.Locks.{Locks}
use Rattle.rc_lang.specs.declared.lines.Stmt.TheVariants.{Break}
use Rattle.rc_lang.specs.declared.lines.Op.{Op}
use Rattle.rc_lang.specs.declared.lines.Test.{Test}
use Rattle.rc_lang.specs.declared.lines.Test.TheVariants.{Compare, ReadyZero, SpaceAtLeast, Take, Any}
use Rattle.rc_lang.specs.Locks.{no_lock, with_locks, without_locks}
use Rattle.rc_lang.specs.Program.{Program, Items, Thread, besides, items_at}
use Rattle.rc_lang.specs.Kept.{IsItems, IsList}
use Rattle.rc_lang.specs.Views.{IsView}
use Rattle.rc_split.specs.Bags.{Part, TokenOf, bag_of, bag_on, plus}
use Rattle.rc_rules.specs.declared.mode.Mode.{Mode}
use Rattle.rc_rules.specs.declared.mode.Peeked.{Peeked}
use Rattle.rc_rules.specs.declared.mode.Peeked.TheVariants.{Unseen, Sees}
use Rattle.rc_rules.specs.declared.mode.Slot.TheVariants.{Closed}
use Rattle.rc_rules.specs.Labels.{Label, Dead, Live, Weaker, WeakerPeeked, WeakerThanEach, IsStrongest, IsSame}
use Rattle.rc_rules.specs.Labellings.{start_of}
use Rattle.rc_rules.specs.Sides.{brings, gate, on}
use Rattle.rc_rules.specs.Needs.{line_premises}
use Rattle.rc_rules.specs.Rules.{same_slot, is_got, op_effect, put_effect, can_take, has_room, locks_of, names_peeked, peeked_of, take_effect, goes, entered, released, test_effect, with_peeked, peek_at, case_at, top, broken, asks, leave_needs, premises_of}
use Rattle.rc_rules.specs.Premises.{Meets}
use Rattle.rc_rules.specs.States.{AgreeOnLocks, AreFree, AreHeld, IsSmall}
use Rattle.rc_rules.proofs.Headers.{few}
use Rattle.rc_rules.proofs.Weaker.{freed_locks, got_same, lock_held, locked_locks, locks_same, peeked_locks, peeked_weaker, sq_weaker, test_locks, top_locks}
use Rattle.rc_rules.proofs.Lines.{effect_by}
use Rattle.rc_rules.proofs.Room.{limit_few, room}
use Rattle.std.proofs.lemmas.Bool.{and_parts}
use Rattle.rc_verify.specs.Branches.{MayTest}
use Rattle.rc_verify.specs.Walk.{CanPeek, Fits, IsClosed}

-- ---- the strongest label is like those that lead to it

abbrev pub AreAll : (Label → Type 0) → List Label → Type 0
AreAll Q [] = Unit {0}
AreAll Q (t ∷ ts) = Q t × AreAll Q ts

module _ (Q : Label → Type 0) (dead : Q Dead) (keeps : (s t : Label) → Weaker s t → (t ≡ Dead → ⊥) → Q t → Q s) where
  some_live : (s : Label) (ts : List Label) → WeakerThanEach s ts → AreAll Q ts → Q s ⊎ WeakerThanEach Dead ts
  some_live s [] w q = inr tt
  some_live s (Dead ∷ ts) w q = elim (some_live s ts w.1 q.1) [ inl h ↦ inl h | inr h ↦ inr (tt, h) ]
  some_live s (Live b m ∷ ts) w q = inl (keeps s (Live b m) w.0 (λ e. absurd (cc)) q.0)

  dead_below : (s : Label) → Weaker Dead s → Q s
  dead_below Dead w = dead
  dead_below (Live b m) w = absurd w

  pub kept_by : (s : Label) (ts : List Label) → AreAll Q ts → IsStrongest s ts → Q s
  kept_by s ts q h = elim (some_live s ts h.weaker q) [ inl k ↦ k | inr k ↦ dead_below s (h.strongest Dead k) ]

weaker_fits : (held : Locks) (n : ℕ) (s t : Label) → Weaker s t → (t ≡ Dead → ⊥) → Fits held n t → Fits held n s
weaker_fits held n s Dead w d h = absurd (d refl)
weaker_fits held n Dead (Live c k) w d h = tt
weaker_fits held n (Live a m) (Live c k) w d h = (locks_same m k w.1 ∙ h.0, λ p. omega (arith, w.0 p, h.1 p))

pub strongest_fits : (held : Locks) (n : ℕ) (s : Label) (ts : List Label) → AreAll (Fits held n) ts → IsStrongest s ts → Fits held n s
strongest_fits held n = kept_by (Fits held n) tt (weaker_fits held n)

weaker_closed : (s t : Label) → Weaker s t → (t ≡ Dead → ⊥) → IsClosed t → IsClosed s
weaker_closed s Dead w d h = absurd (d refl)
weaker_closed Dead (Live c k) w d h = tt
weaker_closed (Live a m) (Live c k) w d h = (subst (λ x. same_slot x Closed ≡ true) (sym (sq_weaker m k w.1).slot) h.0, got_same (peeked_of m) (peeked_of k) (peeked_weaker m k w.1) ∙ h.1)

pub strongest_closed : (s : Label) (ts : List Label) → AreAll IsClosed ts → IsStrongest s ts → IsClosed s
strongest_closed = kept_by IsClosed tt weaker_closed

-- ---- what fits

pub fits_more : (held : Locks) (n k : ℕ) (s : Label) → n ≤ k → Fits held n s → Fits held k s
fits_more held n k Dead l h = tt
fits_more held n k (Live a m) l h = (h.0, λ p. omega (arith, l, h.1 p))

pub fits_free : (takes held : Locks) (n : ℕ) (s : Label) → without_locks takes held ≡ takes → Fits held n s → AreFree takes s
fits_free takes held n Dead e h = tt
fits_free takes held n (Live a m) e h = ap (without_locks takes) h.0 ∙ e

pub fits_held : (releases held : Locks) (n : ℕ) (s : Label) → without_locks releases held ≡ no_lock → Fits held n s → AreHeld releases s
fits_held releases held n Dead e h = tt
fits_held releases held n (Live a m) e h = ap (without_locks releases) h.0 ∙ e

pub fits_alike : (held : Locks) (n k : ℕ) (s t : Label) → Fits held n s → Fits held k t → AgreeOnLocks s t
fits_alike held n k Dead t h g = tt
fits_alike held n k (Live a m) Dead h g = tt
fits_alike held n k (Live a m) (Live c o) h g = g.0 ∙ sym h.0

pub fits_small : (held : Locks) (n : ℕ) (s : Label) → n ≤ 2 ^ 19 → Fits held n s → IsSmall s
fits_small held n Dead l h = tt
fits_small held n (Live a m) l h = λ p. omega (arith, l, h.1 p)

-- ---- effects

pub op_fits : (P : Program) (held : Locks) (n : ℕ) (s : Label) (op : Op) → IsView P → Fits held n s → Fits held (n + 18) (goes s (λ bag m. op_effect P bag m op))
op_fits P held n Dead op h f = tt
op_fits P held n (Live a m) op h f = effect_by P a m op h (Fits held (n + 18)) tt (λ c k e l. (e ∙ f.0, λ p. omega (arith, f.1 p, l p)))

pub entered_fits : (P : Program) (takes held : Locks) (n : ℕ) (s : Label) → Fits held n s → Fits (with_locks held takes) n (entered P takes s)
entered_fits P takes held n Dead f = tt
entered_fits P takes held n (Live a m) f = (locked_locks P takes m ∙ ap (λ l. with_locks l takes) f.0, f.1)

pub released_fits : (releases held : Locks) (n : ℕ) (s : Label) → Fits held n s → Fits (without_locks held releases) n (released releases s)
released_fits releases held n Dead f = tt
released_fits releases held n (Live a m) f = (freed_locks releases m ∙ ap (λ l. without_locks l releases) f.0, f.1)

pub put_fits : (items : Items) (held : Locks) (n : ℕ) (s : Label) → Fits held n s → Fits held n (goes s (λ bag m. put_effect bag m items))
put_fits items held n Dead f = tt
put_fits items held n (Live a m) f = (f.0, λ p. omega (arith, f.1 p))

take_fits : (P : Program) (items : Items) (held : Locks) (n : ℕ) (a : Part → ℕ) (m : Mode) → IsView P → IsItems P items → 4096 ≤ n → Fits held n (Live a m) → Fits held n (take_effect P a m items)
take_fits P items held n a m made of l f = go (can_take P a m items) refl
  where
    go : (c : Bool) → can_take P a m items ≡ c → Fits held n (cond c (Live (plus a (bag_of items)) m) Dead)
    go false e = tt
    go true e = (
      f.0,
      λ p. elim (room P a items of (and_parts (has_room P a items) (not (names_peeked items.tokens (peeked_of m))) e).0 p) [
        | inl none ↦ omega (arith, f.1 p, none)
        | inr within ↦ omega (arith, within, limit_few P p made, l)
      ],
    )

pub test_fits : (P : Program) (lists : List Items) (test : Test) (held : Locks) (n : ℕ) (s : Label) → IsView P → MayTest P lists test → 4096 ≤ n → Fits held n s → Fits held n (goes s (λ bag m. test_effect P lists bag m test))
test_fits P lists test held n Dead made may l f = tt
test_fits P lists (Compare x c v) held n (Live a m) made may l f = (test_locks P (Compare x c v) m ∙ f.0, f.1)
test_fits P lists ReadyZero held n (Live a m) made may l f = (test_locks P ReadyZero m ∙ f.0, f.1)
test_fits P lists (SpaceAtLeast v) held n (Live a m) made may l f = (test_locks P (SpaceAtLeast v) m ∙ f.0, f.1)
test_fits P lists (Take pool k) held n (Live a m) made may l f = take_fits P (items_at lists k) held n a m made may.1 l f
test_fits P lists Any held n (Live a m) made may l f = (test_locks P Any m ∙ f.0, f.1)

pub peek_fits : (pk : Peeked) (held : Locks) (n : ℕ) (s : Label) → Fits held n s → Fits held n (peek_at pk s)
peek_fits pk held n Dead f = tt
peek_fits pk held n (Live a m) f = (peeked_locks pk m ∙ f.0, f.1)

pub case_fits : (u : ℕ) (held : Locks) (n : ℕ) (s : Label) → Fits held n s → Fits held n (case_at u s)
case_fits u held n Dead f = tt
case_fits u held n (Live a m) f = go (nat_lt 0 (a (TokenOf u)))
  where
    go : (x : Bool) → Fits held n (cond x Dead (Live a (with_peeked (Sees u) m)))
    go true = tt
    go false = peek_fits (Sees u) held n (Live a m) f

pub kept_few : (P : Program) (items : Items) (z : Bool) (p : Part) → IsList P items → bag_on z items p ≤ 4096
kept_few P items true p h = omega (arith, few P items p h.first)
kept_few P items false p h = omega (arith, few P items p h.first, few P (besides items) p h.more)

pub top_fits : (P : Program) (items : Items) (z : Bool) (held : Locks) (n k : ℕ) (s : Label) → IsList P items → 4096 ≤ k → Fits held n s → Fits held k (top P items z s)
top_fits P items z held n k Dead h l f = tt
top_fits P items z held n k (Live a m) h l f = (top_locks P items m ∙ f.0, λ p. omega (arith, l, kept_few P items z p h))

pub broken_fits : (releases held left : Locks) (n : ℕ) (s : Label) → left ≡ without_locks held releases → Fits held n s → Fits left n (broken releases s)
broken_fits releases held left n Dead e f = tt
broken_fits releases held left n (Live a m) e f = (freed_locks releases (with_peeked Unseen m) ∙ ap (λ l. without_locks l releases) (peeked_locks Unseen m ∙ f.0) ∙ sym e, f.1)

-- ---- breaks leave no slot open, and nothing got

left_closed : (P : Program) (b : Bool) (bag : Part → ℕ) (m : Mode) → Meets (premises_of P [] true bag m (leave_needs b)) → same_slot (unwrap_or (cond b None m.sq) (record { queued = 0; slot = Closed })).slot Closed ≡ true
left_closed P true bag m h = refl
left_closed P false bag m h = h.0

none_peeked : (b : Bool) (o : Option Peeked) → is_got (unwrap_or (cond b None (option_map (λ _. Unseen) o)) Unseen) ≡ false
none_peeked true o = refl
none_peeked false None = refl
none_peeked false (Some p) = refl

pub broken_closed : (P : Program) (releases : Locks) (s : Label) → Meets (asks s (λ bag m. line_premises P [] bag m (Break 0 releases false))) → IsClosed (broken releases s)
broken_closed P releases Dead h = tt
broken_closed P releases (Live a m) h = (left_closed P releases.sq a m h, none_peeked releases.cq m.cq)

-- ---- the start

start_fits_zero : (P : Program) (t : Thread) (s : Label) → IsItems P t.items → IsSame s (start_of t).zero → Fits no_lock 4096 s
start_fits_zero P t Dead h e = tt
start_fits_zero P t (Live a m) h e = (ap locks_of e.1, λ p. omega (arith, e.0 p, few P t.items p h))

pub start_fits : (P : Program) (t : Thread) (z : Bool) (s : Label) → IsItems P t.items → IsSame s (on z (start_of t)) → Fits no_lock 4096 s
start_fits P t true s h e = start_fits_zero P t s h e
start_fits P t false Dead h e = tt
start_fits P t false (Live a m) h e = absurd e

-- ---- labels that come through a gate

pub gate_keeps : (Q : Label → Type 0) → Q Dead → (g : Bool) (s : Label) → Q s → Q (gate g s)
gate_keeps Q d false s f = d
gate_keeps Q d true s f = f

pub gate_fits : (g : Bool) (held : Locks) (n : ℕ) (s : Label) → Fits held n s → Fits held n (gate g s)
gate_fits g held n = gate_keeps (Fits held n) tt g

brings_keep : (Q : Label → Type 0) → Q Dead → (may : Bool → Bool) (F : Label → Label) (before : Bool → Label) → ((y : Bool) → Q (F (before y))) → AreAll Q (brings may F before)
brings_keep Q d may F before f = (gate_keeps Q d (may true) (F (before true)) (f true), (gate_keeps Q d (may false) (F (before false)) (f false), tt))

pub brings_fit : (may : Bool → Bool) (F : Label → Label) (before : Bool → Label) (held : Locks) (n : ℕ) → ((y : Bool) → Fits held n (F (before y))) → AreAll (Fits held n) (brings may F before)
brings_fit may F before held n = brings_keep (Fits held n) tt may F before

weaker_peek : (s t : Label) → Weaker s t → (t ≡ Dead → ⊥) → CanPeek t → CanPeek s
weaker_peek s Dead w d h = absurd (d refl)
weaker_peek Dead (Live b n) w d h = tt
weaker_peek (Live a m) (Live b n) w d h = (lock_held WeakerPeeked m.cq n.cq w.1.1 ∙ h.0, got_same (peeked_of m) (peeked_of n) (peeked_weaker m n w.1) ∙ h.1)

-- What both sides bring can peek where they can.
pub brought_peek : (may : Bool → Bool) (F : Label → Label) (before : Bool → Label) (s : Label) → ((y : Bool) → CanPeek (F (before y))) → IsStrongest s (brings may F before) → CanPeek s
brought_peek may F before s f b = kept_by CanPeek tt weaker_peek s (brings may F before) (brings_keep CanPeek tt may F before f) b
