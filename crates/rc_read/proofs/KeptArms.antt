-- Which arms the open peek has so far, and what one more line adds.
use Rattle.std.proofs.Common.{◌≡◌, ℕ, zero, suc, ◌+◌, ◌<◌, Bool, true, false, ◌||◌, ◌==◌, List, [], ◌∷◌, ◌++◌, length, length-append, Some, refl, sym, ap, ◌∙◌, subst, inl, inr, arith, get_or, Contains}
use Rattle.std.specs.List.{list_any}
use Rattle.std.proofs.lemmas.Bool.{or_parts, or_right, eqb-false}
use Rattle.std.proofs.lemmas.List.Elements.{Contains-append_left, Contains-push, Contains-push_cases}
use Rattle.std.proofs.lemmas.List.Folds.{list_any-append}
use Rattle.rc_lang.specs.declared.lines.Block.{Block}
use Rattle.rc_lang.specs.declared.lines.Block.TheVariants.{InLock, InIf, InElse, InPeek, InArm, InLoop}
use Rattle.rc_lang.specs.declared.lines.Line.{Line}
use Rattle.rc_lang.specs.declared.lines.Stmt.{Stmt}
use Rattle.rc_lang.specs.declared.lines.Stmt.TheVariants.{Do, Put, Lock, EndLock, If, Else, EndIf, Peek, Case, Other, Nothing, EndArm, EndPeek, Loop, EndLoop, Break}
use Rattle.rc_lang.specs.Nesting.{blocks_at, blocks_behind, in_peek, innermost, is_peek, IsNestedIn, without_innermost}
use Rattle.rc_lang.specs.Program.{stmt_at}
use Rattle.rc_lang.specs.Resolved.{IsAhead}
use Rattle.rc_lang.proofs.Closing.{opens_case, opens_nothing, opens_other}
use Rattle.rc_lang.proofs.Fitting.{one_peek}
use Rattle.rc_lang.proofs.Lookups.{EachNested, innermost_split, stands_within, stmt_new, stmt_old, stmt_push}
use Rattle.rc_read.specs.Adds.{arms_behind}
use Rattle.rc_read.specs.Sheets.{Arms, no_arms}
use Rattle.rc_read.proofs.KeptLinks.{IsAbsent, MayStand}

-- Whether the arm is in the peek at place o.
pub record IsSeen (lines : List Line) (o : ℕ) (is : Bool) (arm : Stmt) : Type 0 where
  pub there : is ≡ true → IsAhead lines o arm
  pub absent : is ≡ false → IsAbsent lines arm

-- The arms of the open peek at place o are those that were seen.
pub record HasSeen (lines : List Line) (arms : Arms) (o : ℕ) : Type 0 where
  pub before : o < length lines
  pub other : IsSeen lines o arms.other (Other o)
  pub none : IsSeen lines o arms.none (Nothing o)
  pub cases : (u : ℕ) → list_any (λ v. v == u) arms.cases ≡ false → IsAbsent lines (Case o u)

abbrev pub AreSeen : List Block → List Line → Arms → Type 0
AreSeen bs lines arms = (o : ℕ) → Contains bs (InPeek o) → HasSeen lines arms o

-- Such a line may be there, by the arms that were seen.
abbrev pub IsNewArm : Arms → Stmt → Type 0
IsNewArm arms (Case o u) = list_any (λ v. v == u) arms.cases ≡ false
IsNewArm arms (Other o) = arms.other ≡ false
IsNewArm arms (Nothing o) = arms.none ≡ false
IsNewArm arms (EndPeek o) = (arms.other ≡ true) × (arms.none ≡ true)
IsNewArm arms s = Unit {0}

pub innermost_open : (bs : List Block) (b : Block) → innermost bs ≡ Some b → Contains bs b
innermost_open bs b e = subst (λ x. Contains x b) (sym (innermost_split bs b e)) (Contains-push (without_innermost bs) b)

pub may_stand : (bs : List Block) (lines : List Line) (arms : Arms) (s : Stmt) → AreSeen bs lines arms → IsNestedIn bs s → IsNewArm arms s → MayStand lines s
may_stand bs lines arms (Case o u) seen e n = (seen o (innermost_open bs (InPeek o) e)).cases u n
may_stand bs lines arms (Other o) seen e n = (seen o (innermost_open bs (InPeek o) e)).other.absent n
may_stand bs lines arms (Nothing o) seen e n = (seen o (innermost_open bs (InPeek o) e)).none.absent n
may_stand bs lines arms (EndPeek o) seen e n = let h = seen o (innermost_open bs (InPeek o) e) in (h.other.there n.0, h.none.there n.1)
may_stand bs lines arms s seen e n = tt

-- ---- the open peek

peek_within : (bs : List Block) (o k : ℕ) → k < length bs → get_or bs k (InPeek o) ≡ InPeek o → in_peek bs ≡ true
peek_within [] o k lt e = absurd (omega arith)
peek_within (b ∷ bs) o zero lt e = let h : is_peek b ≡ true = ap is_peek e in ap (λ x. x || in_peek bs) h
peek_within (b ∷ bs) o (suc k) lt e = or_right (is_peek b) (in_peek bs) (peek_within bs o k (omega arith) e)

only_peek : (lines : List Line) → EachNested lines → (bs : List Block) → blocks_at lines (length lines) ≡ bs → (o p : ℕ) → innermost bs ≡ Some (InPeek p) → Contains bs (InPeek o) → p ≡ o
only_peek lines each bs here o p e c =
    let f = one_peek lines each (length lines) (without_innermost bs) p [] (here ∙ innermost_split bs (InPeek p) e) in
    elim (Contains-push_cases (without_innermost bs) (InPeek p) (InPeek o) (subst (λ x. Contains x (InPeek o)) (innermost_split bs (InPeek p) e) c)) [
      | inl h ↦ absurd (cc (f.0, peek_within (without_innermost bs) o h.0 h.1 h.2))
      | inr q ↦ cc
    ]

-- a peek that is open after a line was open before it, or the line opens it
module _ (bs : List Block) (n o : ℕ) where
  was_pushed : (b : Block) → (b ≡ InPeek o → ⊥) → Contains (bs ++ b ∷ []) (InPeek o) → Contains bs (InPeek o)
  was_pushed b ne c = elim (Contains-push_cases bs b (InPeek o) c) [ inl h ↦ h | inr q ↦ absurd (ne q) ]

  was_popped : (b : Block) → innermost bs ≡ Some b → Contains (without_innermost bs) (InPeek o) → Contains bs (InPeek o)
  was_popped b e c = subst (λ x. Contains x (InPeek o)) (sym (innermost_split bs b e)) (Contains-append_left (without_innermost bs) (b ∷ []) (InPeek o) c)

  was_open : (s : Stmt) → IsNestedIn bs s → ((x : ℕ) → s ≡ Peek x → ⊥) → Contains (blocks_behind bs n s) (InPeek o) → Contains bs (InPeek o)
  was_open (Do op) e ne c = c
  was_open (Put pool k) e ne c = c
  was_open (Lock l) e ne c = was_pushed (InLock n l) (λ q. absurd (cc)) c
  was_open (EndLock p l) e ne c = was_popped (InLock p l) e c
  was_open (If test) e ne c = was_pushed (InIf n) (λ q. absurd (cc)) c
  was_open (Else p) e ne c = was_popped (InIf p) e (elim (Contains-push_cases (without_innermost bs) (InElse n) (InPeek o) c) [ inl h ↦ h | inr q ↦ absurd (cc) ])
  was_open (EndIf p) e ne c = elim e [ inl i ↦ was_popped (InIf p) i c | inr i ↦ was_popped (InElse p) i c ]
  was_open (Peek x) e ne c = absurd (ne x refl)
  was_open (Case p u) e ne c = was_pushed (InArm p) (λ q. absurd (cc)) c
  was_open (Other p) e ne c = was_pushed (InArm p) (λ q. absurd (cc)) c
  was_open (Nothing p) e ne c = was_pushed (InArm p) (λ q. absurd (cc)) c
  was_open (EndArm p) e ne c = was_popped (InArm p) e c
  was_open (EndPeek p) e ne c = was_popped (InPeek p) e c
  was_open (Loop k) e ne c = was_pushed (InLoop n k) (λ q. absurd (cc)) c
  was_open (EndLoop p k) e ne c = was_popped (InLoop p k) e c
  was_open (Break p releases leaves) e ne c = c

-- ---- one more line

module _ (lines : List Line) (l : Line) (s : Stmt) (says : l.stmt ≡ s) where
  absent_more : (t : Stmt) → (s ≡ t → ⊥) → IsAbsent lines t → IsAbsent (lines ++ l ∷ []) t
  absent_more t ne none k e = elim (stmt_push lines l k t e) [ inl h ↦ none k h | inr h ↦ ne (sym says ∙ h.1) ]

  seen_on : (o : ℕ) (is : Bool) (t : Stmt) → (s ≡ t → ⊥) → IsSeen lines o is t → IsSeen (lines ++ l ∷ []) o is t
  seen_on o is t ne h = record {
    there = λ e. let a = h.there e in record { place = a.place; behind = a.behind; stands = stmt_old lines l a.place t a.stands };
    absent = λ e. absent_more t ne (h.absent e);
  }

  seen_now : (o : ℕ) (t : Stmt) → o < length lines → s ≡ t → IsSeen (lines ++ l ∷ []) o true t
  seen_now o t lt q = record { there = λ e. record { place = length lines; behind = lt; stands = stmt_new lines l ∙ ap Some (says ∙ q) }; absent = λ e. absurd (cc) }

  later : (o : ℕ) → o < length lines → o < length (lines ++ l ∷ [])
  later o lt = let n : length (lines ++ l ∷ []) ≡ length lines + 1 = length-append lines (l ∷ []) in omega arith

  -- a line that is no arm
  plain : (arms : Arms) (o : ℕ) → (s ≡ Other o → ⊥) → (s ≡ Nothing o → ⊥) → ((u : ℕ) → s ≡ Case o u → ⊥) → HasSeen lines arms o → HasSeen (lines ++ l ∷ []) arms o
  plain arms o a b c h = record {
    before = later o h.before;
    other = seen_on o arms.other (Other o) a h.other;
    none = seen_on o arms.none (Nothing o) b h.none;
    cases = λ u e. absent_more (Case o u) (c u) (h.cases u e);
  }

other_case : (vs : List ℕ) (v u : ℕ) → list_any (λ w. w == u) (vs ++ v ∷ []) ≡ false → (list_any (λ w. w == u) vs ≡ false) × (v ≡ u → ⊥)
other_case vs v u e =
    let h = or_parts (list_any (λ w. w == u) vs) (list_any (λ w. w == u) (v ∷ [])) (sym (list_any-append (λ w. w == u) vs (v ∷ [])) ∙ e) in
    (h.0, eqb-false v u (or_parts (v == u) false h.1).0)

module _ (lines : List Line) (l : Line) (each : EachNested lines) (bs : List Block) (here : blocks_at lines (length lines) ≡ bs) (arms : Arms) (seen : AreSeen bs lines arms) where
  -- no arm is before its peek
  none_yet : (t : Stmt) → ((k : ℕ) → stmt_at lines k ≡ Some t → length lines < k) → IsAbsent lines t
  none_yet t before k e = let a : k < length lines = stands_within lines k t e in let b : length lines < k = before k e in absurd (omega arith)

  begun : (x : ℕ) → l.stmt ≡ Peek x → HasSeen (lines ++ l ∷ []) no_arms (length lines)
  begun x says =
      let n = length lines in
      let m : length (lines ++ l ∷ []) ≡ length lines + 1 = length-append lines (l ∷ []) in
      record {
        before = omega arith;
        other = record { there = λ e. absurd (cc); absent = λ e. absent_more lines l (Peek x) says (Other n) (λ q. absurd (cc)) (none_yet (Other n) (λ k h. (opens_other lines each k n h).before)) };
        none = record { there = λ e. absurd (cc); absent = λ e. absent_more lines l (Peek x) says (Nothing n) (λ q. absurd (cc)) (none_yet (Nothing n) (λ k h. (opens_nothing lines each k n h).before)) };
        cases = λ u e. absent_more lines l (Peek x) says (Case n u) (λ q. absurd (cc)) (none_yet (Case n u) (λ k h. (opens_case lines each k n u h).before));
      }

  pub seen_more : (s : Stmt) → l.stmt ≡ s → IsNestedIn bs s → AreSeen (blocks_behind bs (length lines) s) (lines ++ l ∷ []) (arms_behind arms s)
  seen_more (Peek x) says e o c = elim (Contains-push_cases bs (InPeek (length lines)) (InPeek o) c) [
    | inl h ↦ absurd (cc (e, peek_within bs o h.0 h.1 h.2))
    | inr q ↦ let p : length lines ≡ o = cc in subst (λ k. HasSeen (lines ++ l ∷ []) no_arms k) p (begun x says)
  ]
  seen_more (Case p u) says e o c =
      let h = seen o (was_open bs (length lines) o (Case p u) e (λ x q. absurd (cc)) c) in
      record {
        before = later lines l (Case p u) says o h.before;
        other = seen_on lines l (Case p u) says o arms.other (Other o) (λ q. absurd (cc)) h.other;
        none = seen_on lines l (Case p u) says o arms.none (Nothing o) (λ q. absurd (cc)) h.none;
        cases = λ v d. let k = other_case arms.cases u v d in absent_more lines l (Case p u) says (Case o v) (λ q. k.1 (cc)) (h.cases v k.0);
      }
  seen_more (Other p) says e o c =
      let b = was_open bs (length lines) o (Other p) e (λ x q. absurd (cc)) c in
      let h = seen o b in
      record {
        before = later lines l (Other p) says o h.before;
        other = seen_now lines l (Other p) says o (Other o) h.before (ap Other (only_peek lines each bs here o p e b));
        none = seen_on lines l (Other p) says o arms.none (Nothing o) (λ q. absurd (cc)) h.none;
        cases = λ v d. absent_more lines l (Other p) says (Case o v) (λ q. absurd (cc)) (h.cases v d);
      }
  seen_more (Nothing p) says e o c =
      let b = was_open bs (length lines) o (Nothing p) e (λ x q. absurd (cc)) c in
      let h = seen o b in
      record {
        before = later lines l (Nothing p) says o h.before;
        other = seen_on lines l (Nothing p) says o arms.other (Other o) (λ q. absurd (cc)) h.other;
        none = seen_now lines l (Nothing p) says o (Nothing o) h.before (ap Nothing (only_peek lines each bs here o p e b));
        cases = λ v d. absent_more lines l (Nothing p) says (Case o v) (λ q. absurd (cc)) (h.cases v d);
      }
  seen_more s says e o c = plain lines l s says arms o (λ q. absurd (cc)) (λ q. absurd (cc)) (λ u q. absurd (cc)) (seen o (was_open bs (length lines) o s e (λ x q. absurd (cc)) c))
