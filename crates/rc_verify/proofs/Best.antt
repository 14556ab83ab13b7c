-- Where some labels are good, there are strongest ones, and refusals can be read off them.
use Rattle.std.proofs.Common.{◌≡◌, ℕ, zero, suc, ◌+◌, ◌≤◌, ◌↔◌, Bool, true, false, List, [], ◌∷◌, ◌++◌, length, take, Some, refl, sym, ap, ◌∙◌, inl, inr, arith, length-append}
use Rattle.std.specs.Prelude.{slice_get}
use Rattle.std.proofs.lemmas.List.{length-take}
use Rattle.std.proofs.lemmas.Option.{slice_get_within, slice_get_cases}
use Rattle.std.proofs.Math.Seq.{take-length}
use Rattle.std.proofs.Math.Numerals.{add-one}
use Rattle.rc_lang.specs.declared.lines.Line.{Line}
use Rattle.rc_lang.specs.Program.{Program, Thread}
use Rattle.rc_split.specs.Bags.{Part, least}
use Rattle.rc_rules.specs.declared.mode.Mode.{Mode}
use Rattle.rc_rules.specs.Labels.{Label, Dead, Live, Weaker, WeakerMode, WeakerThanEach, IsSame, IsStrongest}
use Rattle.rc_rules.specs.Labellings.{label_at, befores, premises, IsGood, HasLabels, IsRefusedAt, start_of}
use Rattle.rc_rules.specs.Premises.{MeetsBelow, FailsFirst}
use Rattle.rc_rules.specs.Sides.{Sides, on}
use Rattle.rc_rules.specs.States.{both, AgreeOnLocks}
use Rattle.rc_rules.proofs.Growth.{rules_grow}
use Rattle.rc_rules.proofs.AgreeGrows.{modes_grow}
use Rattle.rc_rules.proofs.Alike.{alike_refl, alike_slot}
use Rattle.rc_rules.proofs.Meets.{both_strongest}
use Rattle.rc_rules.proofs.Weaker.{locks_same, meets_below, weaker_each, weaker_refl}
use Rattle.rc_verify.proofs.Strongest.{take_suc_at, front_good, last_good, weaker_than_more, begins, goes_on, below_strongest, known_below}
use Rattle.rc_verify.specs.Strongest.{AreStrongest}

-- ---- labels that have a common bound have a meet

-- two modes, where both say more than a third
modes_alike : (a b : Part → ℕ) (k m n : Mode) → WeakerMode k m → WeakerMode k n → AgreeOnLocks (Live a m) (Live b n)
modes_alike a b k m n v w = sym (locks_same k n w) ∙ locks_same k m v

meet_of : (t x y : Label) → Weaker t x → Weaker t y → (s : Label) × IsStrongest s (x ∷ y ∷ [])
meet_of t Dead y v w = (y, record { weaker = (tt, (weaker_refl y, tt)); strongest = λ u l. l.1.0 })
meet_of t (Live a m) Dead v w = (Live a m, record { weaker = (weaker_refl (Live a m), (tt, tt)); strongest = λ u l. l.0 })
meet_of Dead (Live a m) (Live b n) v w = absurd v
meet_of (Live c k) (Live a m) (Live b n) v w = (Live (least a b) (both m n), both_strongest a b (least a b) m n (both m n) (modes_grow k k m n v.1 w.1 (alike_slot (Live c k) (Live c k) (alike_refl (Live c k)))) (modes_alike a b k m n v.1 w.1) (λ p. refl) refl)

pub bounded_meet : (t : Label) (ss : List Label) → WeakerThanEach t ss → (s : Label) × IsStrongest s ss
bounded_meet t [] h = (Dead, record { weaker = tt; strongest = λ u l. tt })
bounded_meet t (x ∷ ss) h = more (bounded_meet t ss h.1)
  where
    more : ((s : Label) × IsStrongest s ss) → (s : Label) × IsStrongest s (x ∷ ss)
    more r =
        let m : (s : Label) × IsStrongest s (x ∷ r.0 ∷ []) = meet_of t x r.0 h.0 (r.1.strongest t h.1) in (
          m.0,
          record {
            weaker = (m.1.weaker.0, weaker_each m.0 r.0 ss m.1.weaker.1.0 r.1.weaker);
            strongest = λ u l. m.1.strongest u (l.0, (r.1.strongest u l.1, tt));
          },
        )

-- ---- line by line

-- strongest labels, as many as there are places
abbrev pub Found : Program → Thread → List Line → Type 0
Found P thread lines = (labels : List Sides) × (length labels ≡ length lines + 1) × AreStrongest P thread lines labels

found_more : (P : Program) (thread : Thread) (lines : List Line) (l : Line) → Found P thread lines → HasLabels P thread (lines ++ l ∷ []) → Found P thread (lines ++ l ∷ [])
found_more P thread lines l f h =
    let front = front_good P thread lines l h.0 h.1 in
    let last = last_good P thread lines l h.0 h.1 in
    let below = below_strongest P thread lines f.0 h.0 f.1 f.2 front in
    let grows = rules_grow P thread lines (take (length lines + 1) h.0) f.0 l.stmt below in
    let meet : (z : Bool) → (s : Label) × IsStrongest s (befores P thread lines f.0 l.stmt z) = λ z. bounded_meet (label_at h.0 (length lines + 1) z) (befores P thread lines f.0 l.stmt z) (weaker_than_more (label_at h.0 (length lines + 1) z) _ (befores P thread lines f.0 l.stmt z) (last.1 z) (grows.gives_more last.0 z)) in
    let new : Sides = record { zero = (meet true).0; other = (meet false).0 } in
    (f.0 ++ new ∷ [], omega (arith, length-append f.0 (new ∷ []), length-append lines (l ∷ []), f.1), goes_on P thread lines f.0 l new f.1 f.2 (grows.meets_too last.0) (λ z. elim z as (λ y. IsStrongest (on y new) (befores P thread lines f.0 l.stmt y)) [ true ↦ (meet true).1 | false ↦ (meet false).1 ]))

take_past : {X : Type 0} (n : ℕ) (xs : List X) → length xs ≤ n → take (suc n) xs ≡ take n xs
take_past n [] le = sym (take_nothing n)
  where
    take_nothing : {X : Type 0} (n : ℕ) → take {A = X} n [] ≡ []
    take_nothing zero = refl
    take_nothing (suc n) = refl
take_past zero (x ∷ xs) le = absurd (omega (arith, le))
take_past (suc n) (x ∷ xs) le = ap (λ ys. x ∷ ys) (take_past n xs (omega (arith, le)))

found_to : (P : Program) (thread : Thread) (lines : List Line) (n : ℕ) → HasLabels P thread (take n lines) → Found P thread (take n lines)
found_to P thread lines zero h = (start_of thread ∷ [], refl, begins P thread (start_of thread) (λ z. elim z as (λ y. IsSame (on y (start_of thread)) (on y (start_of thread))) [ true ↦ (λ p. refl, refl) | false ↦ tt ]))
found_to P thread lines (suc n) h = elim (slice_get_cases lines n).1 [
  | inl f ↦
      let more : take (suc n) lines ≡ take n lines ++ f.0 ∷ [] = take_suc_at lines n f.0 f.2 in
      let h' = rw more at h in
      rw more (found_more P thread (take n lines) f.0 (found_to P thread lines n (h'.0, front_good P thread (take n lines) f.0 h'.0 h'.1)) h')
  | inr f ↦
      let more : take (suc n) lines ≡ take n lines = take_past n lines f.0 in
      rw more (found_to P thread lines n (rw more at h))
]

pub one_is_strongest : (P : Program) (thread : Thread) (lines : List Line) → HasLabels P thread lines → (labels : List Sides) × AreStrongest P thread lines labels
one_is_strongest P thread lines h =
    let all : take (length lines) lines ≡ lines = take-length lines in
    let f = found_to P thread lines (length lines) (rw all h) in
    (f.0, rw all at f.2)

-- ---- refusals

module _ (P : Program) (thread : Thread) (j : ℕ) (line : Line) (labels : List Sides) (v : ℕ) (at : slice_get thread.lines j ≡ Some line) (s : AreStrongest P thread (take j thread.lines) labels) where
  front_is : length (take j thread.lines) ≡ j
  front_is = let lt = slice_get_within thread.lines j line at in omega (arith, length-take j thread.lines)

  -- what good labels meet, the strongest do
  meets_too : (w : ℕ) (ks : List Sides) → IsGood P thread (take j thread.lines) ks → MeetsBelow w (premises P thread (take j thread.lines) (take (j + 1) ks) line.stmt) → MeetsBelow w (premises P thread (take j thread.lines) (take (j + 1) labels) line.stmt)
  meets_too w ks g = (rules_grow P thread (take j thread.lines) (take (j + 1) ks) (take (j + 1) labels) line.stmt (rw front_is at (known_below P thread (take j thread.lines) labels ks s g))).asks_less w

  fails_first : IsRefusedAt P thread j line v → FailsFirst v (premises P thread (take j thread.lines) (take (j + 1) labels) line.stmt)
  fails_first r = record {
    below = meets_too v r.met_below.0 r.met_below.1 r.met_below.2;
    fails = λ m. r.never_met labels s.good m;
  }

  pub refused : FailsFirst v (premises P thread (take j thread.lines) (take (j + 1) labels) line.stmt) → IsRefusedAt P thread j line v
  refused f = record {
    line_is = at;
    good_before = (labels, s.good);
    none_up_to = λ g.
        let more : take (j + 1) thread.lines ≡ take j thread.lines ++ line ∷ [] = rw add-one (take_suc_at thread.lines j line at) in
        let h = rw more at g.1 in
        let last = last_good P thread (take j thread.lines) line g.0 h in
        f.fails (meets_too (v + 1) g.0 (front_good P thread (take j thread.lines) line g.0 h) (meets_below (v + 1) _ (rw front_is at last.0)));
    met_below = (labels, s.good, f.below);
    never_met = λ ks g m. f.fails (meets_too (v + 1) ks g m);
  }

  pub read_off : IsRefusedAt P thread j line v ↔ FailsFirst v (premises P thread (take j thread.lines) (take (j + 1) labels) line.stmt)
  read_off = (fails_first, refused)
