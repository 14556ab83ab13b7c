-- The strongest labels, line by line, and what can be read off them.
use Rattle.std.proofs.Common.{◌≡◌, ℕ, zero, suc, ◌+◌, ◌<◌, Bool, true, false, List, [], ◌∷◌, ◌++◌, length, take, Some, refl, sym, ap, subst, inl, inr, arith, length-append}
use Rattle.std.specs.Prelude.{slice_get}
use Rattle.std.proofs.lemmas.Bool.{cases_lt}
use Rattle.std.proofs.lemmas.List.{take-append-le, length-take, get_or-take, get_or_past}
use Rattle.std.proofs.lemmas.Option.{slice_get_within}
use Rattle.std.proofs.Math.Seq.{take-append_seam, take-length, get_or-append_seam}
use Rattle.std.proofs.Math.ListN.{get_or-append}
use Rattle.rc_lang.specs.declared.lines.Line.{Line}
use Rattle.rc_lang.specs.declared.lines.Stmt.{Stmt}
use Rattle.rc_lang.specs.Program.{Program, Thread}
use Rattle.rc_lang.proofs.Lookups.{get_new, get_old, get_push}
use Rattle.rc_rules.specs.Labels.{Label, Weaker, WeakerThanEach, IsStrongest, IsSame}
use Rattle.rc_rules.specs.Premises.{Meets}
use Rattle.rc_rules.specs.Labellings.{label_at, befores, premises, IsGoodAt, IsGood, start_of}
use Rattle.rc_rules.specs.Laws.{EachWeaker, IsStronger}
use Rattle.rc_rules.specs.Sides.{Sides, on, unreached}
use Rattle.rc_rules.proofs.Growth.{rules_grow}
use Rattle.rc_rules.proofs.Weaker.{same_above, same_below, weaker_trans}
use Rattle.rc_verify.specs.Strongest.{AreStrongest}

-- ---- lists

pub take_suc_at : {X : Type 0} (xs : List X) (j : ℕ) (x : X) → slice_get xs j ≡ Some x → take (suc j) xs ≡ take j xs ++ x ∷ []
take_suc_at [] j x e = absurd cc
take_suc_at (y ∷ xs) zero x e = let f : y ≡ x = cc in ap (λ z. z ∷ []) f
take_suc_at (y ∷ xs) (suc j) x e = ap (λ zs. y ∷ zs) (take_suc_at xs j x e)

pub get_front : {X : Type 0} (xs : List X) (n k : ℕ) (x : X) → slice_get (take n xs) k ≡ Some x → (slice_get xs k ≡ Some x) × (k < n)
get_front xs zero k x e = absurd cc
get_front [] (suc n) k x e = absurd cc
get_front (y ∷ xs) (suc n) zero x e = (e, omega arith)
get_front (y ∷ xs) (suc n) (suc k) x e = let h = get_front xs n k x e in (h.0, omega (arith, h.1))

-- ---- a labelling that is good at a list of lines, and one more

pub good_at : (P : Program) (thread : Thread) (lines front : List Line) (ls known : List Sides) (j : ℕ) (after : Bool → Label) (stmt : Stmt) → take j lines ≡ front → take (j + 1) ls ≡ known → ((z : Bool) → label_at ls (j + 1) z ≡ after z) → Meets (premises P thread front known stmt) → ((z : Bool) → WeakerThanEach (after z) (befores P thread front known stmt z)) → IsGoodAt P thread lines ls j stmt
good_at P thread lines front ls known j after stmt p q r m w = record { meets = rw (p, q) m; after = λ z. rw (p, q, r z) (w z) }

-- the lines before the last
pub front_good : (P : Program) (thread : Thread) (lines : List Line) (l : Line) (ls : List Sides) → IsGood P thread (lines ++ l ∷ []) ls → IsGood P thread lines ls
front_good P thread lines l ls g = record {
  begins = g.begins;
  each = λ j m is.
      let lt = slice_get_within lines j m is in
      let a = g.each j m (get_old lines (l ∷ []) j m is) in
      let e : take j (lines ++ l ∷ []) ≡ take j lines = take-append-le j lines (l ∷ []) (omega arith) in
      good_at P thread lines (take j (lines ++ l ∷ [])) ls (take (j + 1) ls) j (label_at ls (j + 1)) m.stmt (sym e) refl (λ z. refl) a.meets a.after;
}

-- the last line
pub last_good : (P : Program) (thread : Thread) (lines : List Line) (l : Line) (ls : List Sides) → IsGood P thread (lines ++ l ∷ []) ls → Meets (premises P thread lines (take (length lines + 1) ls) l.stmt) × ((z : Bool) → WeakerThanEach (label_at ls (length lines + 1) z) (befores P thread lines (take (length lines + 1) ls) l.stmt z))
last_good P thread lines l ls g =
    let a = g.each (length lines) l (get_new lines l []) in
    let e : take (length lines) (lines ++ l ∷ []) ≡ lines = take-append_seam lines (l ∷ []) in
    (rw e at a.meets, λ z. let w = a.after z in rw e at w)

-- a line more, with labels that are weaker than each that leads after it
pub good_more : (P : Program) (thread : Thread) (lines : List Line) (l : Line) (ls : List Sides) (s : Sides) → length ls ≡ length lines + 1 → IsGood P thread lines ls → Meets (premises P thread lines ls l.stmt) → ((z : Bool) → WeakerThanEach (on z s) (befores P thread lines ls l.stmt z)) → IsGood P thread (lines ++ l ∷ []) (ls ++ s ∷ [])
good_more P thread lines l ls s size good meets weaker = record {
  begins = λ z. rw (get_or-append ls (s ∷ []) unreached 0 (omega (arith, size))) (good.begins z);
  each = λ j m is. elim (get_push lines l j m is) [
    | inl at ↦
        let lt = slice_get_within lines j m at in
        let a = good.each j m at in
        good_at P thread (lines ++ l ∷ []) (take j lines) (ls ++ s ∷ []) (take (j + 1) ls) j (label_at ls (j + 1)) m.stmt (take-append-le j lines (l ∷ []) (omega arith)) (take-append-le (j + 1) ls (s ∷ []) (omega (arith, size))) (λ z. ap (on z) (get_or-append ls (s ∷ []) unreached (j + 1) (omega (arith, size)))) a.meets a.after
    | inr e ↦
        let known : take (length lines + 1) (ls ++ s ∷ []) ≡ ls = rw (← size) (take-append_seam ls (s ∷ [])) in
        let after : (z : Bool) → label_at (ls ++ s ∷ []) (length lines + 1) z ≡ on z s = λ z. rw (← size) (ap (on z) (get_or-append_seam ls s [] unreached)) in
        rw (e.0, ← e.1) (good_at P thread (lines ++ l ∷ []) lines (ls ++ s ∷ []) ls (length lines) (λ z. on z s) l.stmt (take-append_seam lines (l ∷ [])) known after meets weaker)
  ];
}

-- ---- the strongest labels

-- weaker than each of a list, so weaker than each of a stronger one
pub weaker_than_more : (s : Label) (xs ys : List Label) → WeakerThanEach s xs → EachWeaker xs ys → WeakerThanEach s ys
weaker_than_more s [] [] w g = tt
weaker_than_more s [] (y ∷ ys) w g = absurd g
weaker_than_more s (x ∷ xs) [] w g = absurd g
weaker_than_more s (x ∷ xs) (y ∷ ys) w g = (weaker_trans s x y w.0 g.0, weaker_than_more s xs ys w.1 g.1)

-- Good labels up to a place say no more than the strongest.
pub known_below : (P : Program) (thread : Thread) (lines : List Line) (ls ks : List Sides) → AreStrongest P thread lines ls → IsGood P thread lines ks → IsStronger (take (length lines + 1) ks) (take (length lines + 1) ls)
known_below P thread lines ls ks s g k z = elim (cases_lt k (length lines + 1)) [
  | inl lt ↦ rw (get_or-take (length lines + 1) ks k unreached lt, get_or-take (length lines + 1) ls k unreached lt) (s.strongest ks g k z (omega arith))
  | inr le ↦ let past = get_or_past (take (length lines + 1) ls) k unreached (omega (arith, le, length-take (length lines + 1) ls)) in rw past (anything z)
]
  where
    -- where nothing reaches everything is said
    anything : (z : Bool) → Weaker (label_at (take (length lines + 1) ks) k z) (on z unreached)
    anything true = tt
    anything false = tt

-- where there are no more labels than places
pub below_strongest : (P : Program) (thread : Thread) (lines : List Line) (ls ks : List Sides) → length ls ≡ length lines + 1 → AreStrongest P thread lines ls → IsGood P thread lines ks → IsStronger (take (length lines + 1) ks) ls
below_strongest P thread lines ls ks size s g =
    let all : take (length lines + 1) ls ≡ ls = rw (← size, take-length) refl in
    subst (IsStronger (take (length lines + 1) ks)) all (known_below P thread lines ls ks s g)

-- before the first line
pub begins : (P : Program) (thread : Thread) (first : Sides) → ((z : Bool) → IsSame (on z first) (on z (start_of thread))) → AreStrongest P thread [] (first ∷ [])
begins P thread first same = record {
  good = record { begins = same; each = λ j l is. absurd cc };
  strongest = λ ks good k z le.
      let e : k ≡ 0 = omega arith in
      rw e (weaker_trans (label_at ks 0 z) (on z (start_of thread)) (on z first) (same_below (label_at ks 0 z) (on z (start_of thread)) (good.begins z)) (same_above (on z first) (on z (start_of thread)) (same z)));
}

-- a line more whose premises hold
pub goes_on : (P : Program) (thread : Thread) (lines : List Line) (labels : List Sides) (l : Line) (s : Sides) → length labels ≡ length lines + 1 → AreStrongest P thread lines labels → Meets (premises P thread lines labels l.stmt) → ((z : Bool) → IsStrongest (on z s) (befores P thread lines labels l.stmt z)) → AreStrongest P thread (lines ++ l ∷ []) (labels ++ s ∷ [])
goes_on P thread lines ls l s size strong meets best = record {
  good = good_more P thread lines l ls s size strong.good meets (λ z. (best z).weaker);
  strongest = λ ks g k z le.
      let front = front_good P thread lines l ks g in
      elim (cases_lt k (length lines + 1)) [
        | inl lt ↦
            let e : label_at (ls ++ s ∷ []) k z ≡ label_at ls k z = ap (on z) (get_or-append ls (s ∷ []) unreached k (omega (arith, size))) in
            rw e (strong.strongest ks front k z (omega arith))
        | inr ge ↦
            let y : k ≡ length lines + 1 = omega (arith, le, length-append lines (l ∷ [])) in
            let after : label_at (ls ++ s ∷ []) (length lines + 1) z ≡ on z s = rw (← size) (ap (on z) (get_or-append_seam ls s [] unreached)) in
            let last = last_good P thread lines l ks g in
            let below = below_strongest P thread lines ls ks size strong front in
            let grown = (rules_grow P thread lines (take (length lines + 1) ks) ls l.stmt below).gives_more last.0 z in
            rw (y, after) ((best z).strongest (label_at ks (length lines + 1) z) (weaker_than_more _ _ _ (last.1 z) grown))
      ];
}
