-- Ifs, and the ends of their branches.
use Rattle.std.proofs.Common.{◌≡◌, ℕ, zero, suc, ◌+◌, ◌<◌, ◌≤◌, Bool, true, false, List, [], ◌∷◌, ◌++◌, length, length-append, take, Option, Some, None, Result, Ok, Err, refl, sym, ap, subst, ◌∙◌, inl, inr, arith, slice_index_or}
use Rattle.std.specs.Prelude.{IsSome, OnErr, OnOk, ℤ}
use Rattle.std.proofs.lemmas.Option.{get_or_from_slice_get, slice_get-get_or}
use Rattle.std.proofs.Math.ListN.{get_or-append}
use Rattle.std.proofs.Math.Path.{fun_ext}
use Rattle.rc_lang.specs.declared.lines.Block.{Block}
use Rattle.rc_lang.specs.declared.lines.Block.TheVariants.{InIf, InElse}
use Rattle.rc_lang.specs.declared.lines.Comparison.{Comparison}
use Rattle.rc_lang.specs.declared.lines.Line.{Line}
use Rattle.rc_lang.specs.declared.lines.Stmt.TheVariants.{If, Else, EndIf}
use Rattle.rc_lang.specs.declared.lines.Test.{Test}
use Rattle.rc_lang.specs.declared.lines.Test.TheVariants.{Compare, ReadyZero, SpaceAtLeast, Take, Any}
use Rattle.rc_lang.specs.Nesting.{blocks_at, locks_in}
use Rattle.rc_lang.specs.Program.{Items, Program, Thread, items_at, no_items, stmt_at}
use Rattle.rc_lang.proofs.Along.{same_locks}
use Rattle.rc_lang.proofs.Closing.{closes_if, turns as turns_at}
use Rattle.rc_lang.proofs.Lookups.{blocks_next}
use Rattle.rc_rules.specs.declared.cause.Cause.{Cause}
use Rattle.rc_rules.specs.declared.mode.Mode.{Mode}
use Rattle.rc_rules.specs.declared.mode.Submitting.{Submitting}
use Rattle.rc_rules.specs.Labels.{Label, Dead, Live, UnderLock, Weaker, WeakerMode, WeakerPeeked, WeakerSubmitting, IsStrongest}
use Rattle.rc_rules.specs.Labellings.{here, label_at, skipped}
use Rattle.rc_rules.specs.Premises.{Meets, Premise}
use Rattle.rc_rules.specs.Needs.{line_premises}
use Rattle.rc_rules.specs.Rules.{asks, asks_both, goes, joins_both, take_effect, test_effect}
use Rattle.rc_rules.specs.Sides.{Sides, gate, may_skip, on, test_goes, unreached}
use Rattle.rc_rules.specs.States.{asked_alike, State, AgreeOnLocks, Becomes, Gives, IsOfSame, label_of, program_of, sides_of}
use Rattle.rc_verify.specs.declared.walk.Walk.{Walk}
use Rattle.rc_verify.specs.Arms.{two}
use Rattle.rc_verify.specs.Branches.{KeepsOther, MayTest}
use Rattle.rc_verify.specs.Stack.{last_of, rest_of}
use Rattle.rc_verify.specs.Walk.{AreKept, Fits, IsBranch, OnKept, PassesLine, Reaches, branch_place, loop_place, most_at, peek_place, places}
use Rattle.rc_verify.proofs.Fit.{fits_alike, fits_more, gate_fits, strongest_fits, test_fits}
use Rattle.rc_verify.proofs.Joining.{above, below}
use Rattle.rc_rules.proofs.Rising.{asks_same, test_asked, test_same}
use Rattle.rc_rules.proofs.Weaker.{meets_append, only_itself, peeked_same}
use Rattle.rc_verify.proofs.Keeping.{KeepsLast, few_branches, few_places, keep_more, kept_length, last_kept, places_pushed, pushed_none, same_last, some_last}
use Rattle.rc_verify.proofs.Plainly.{fits_behind, fits_known, loops_same, opens_none, peek_same}
use Rattle.rc_verify.proofs.Standing.{AreStrongestOf, Gave, branches_stay, fits_here, gives_stays, here_is, lead_at, of_same, onward, passes, same_of, seen_at, took}

pub on_ok : {X : Type 0} (A : Type 0) (x : Result X Cause) (y : X) → OnOk x A → x ≡ Ok y → A
on_ok A (Ok z) y h e = h
on_ok A (Err c) y h e = absurd (cc)

-- ---- labels that each say as much as the other

same_submitting : (s t : Submitting) → WeakerSubmitting s t → WeakerSubmitting t s → s ≡ t
same_submitting s t v w =
    let n : s.queued ≡ t.queued = omega (arith, v.queued, w.queued) in
    ap (λ x. record { queued = x; slot = s.slot }) n ∙ ap (λ x. record { queued = t.queued; slot = x }) v.slot

same_under : {A : Type 0} (F : A → A → Type 0) → ((s t : A) → F s t → F t s → s ≡ t) → (o p : Option A) → UnderLock F o p → UnderLock F p o → o ≡ p
same_under F h None None v w = refl
same_under F h None (Some t) v w = absurd v
same_under F h (Some s) None v w = absurd v
same_under F h (Some s) (Some t) v w = ap Some (h s t v w)

same_mode : (m n : Mode) → WeakerMode m n → WeakerMode n m → m ≡ n
same_mode m n v w = ap (λ x. record m { sq = x }) (same_under WeakerSubmitting same_submitting m.sq n.sq v.0 w.0) ∙ ap (λ x. record n { cq = x }) (same_under WeakerPeeked peeked_same m.cq n.cq v.1 w.1)

same_label : (s t : Label) → Weaker s t → Weaker t s → s ≡ t
same_label Dead Dead v w = refl
same_label Dead (Live b n) v w = absurd v
same_label (Live a m) Dead v w = absurd w
same_label (Live a m) (Live b n) v w = ap (λ x. Live x m) (fun_ext (λ p. omega (arith, v.0 p, w.0 p))) ∙ ap (Live b) (same_mode m n v.1 w.1)

only_one : (s t : Label) → IsStrongest s (t ∷ []) → s ≡ t
only_one s t h = same_label s t (below s t h) (above s t h)

-- ---- a test of a variable

same_too : (s : Label) → goes s Live ≡ s
same_too Dead = refl
same_too (Live a m) = refl

none_asked : (s : Label) → Meets (asks s (λ bag m. []))
none_asked Dead = tt
none_asked (Live a m) = tt

-- what a test asks and lets through, of the first branch
abbrev pub Tested : List Items → State → State → Test → Type 0
Tested lists s new test = Meets (asked_alike s [] (If test)) × Becomes s new (λ z. gate (test_goes s.flag test z true) (goes (label_of s z) (λ bag m. test_effect (program_of s) lists bag m test)) ∷ [])

-- A comparison asks nothing, and says nothing of what is held.
pub compared : (lists : List Items) (s new : State) (test : Test) (x : ℕ) (c : Comparison) (n : ℤ) → test ≡ Compare x c n → Becomes s new (λ z. gate (test_goes s.flag test z true) (label_of s z) ∷ []) → Tested lists s new test
compared lists s new test x c n e h = subst (Tested lists s new) (sym e) (meets_append (asks (label_of s true) (λ bag m. [])) (asks (label_of s false) (λ bag m. [])) (none_asked (label_of s true)) (none_asked (label_of s false)), record { each = each; of = h.of })
  where
    each : (z : Bool) → IsStrongest (label_of new z) (gate (test_goes s.flag (Compare x c n) z true) (goes (label_of s z) Live) ∷ [])
    each z = subst (λ l. IsStrongest (label_of new z) (gate (test_goes s.flag (Compare x c n) z true) l ∷ [])) (sym (same_too (label_of s z))) (subst (λ k. IsStrongest (label_of new z) (gate (test_goes s.flag k z true) (label_of s z) ∷ [])) e (h.each z))

-- A free choice asks nothing either, and lets through what there is.
pub chosen : (lists : List Items) (s : State) (test : Test) → test ≡ Any → Tested lists s s test
chosen lists s test e = subst (Tested lists s s) (sym e) (meets_append (asks (label_of s true) (λ bag m. [])) (asks (label_of s false) (λ bag m. [])) (none_asked (label_of s true)) (none_asked (label_of s false)), record { each = each; of = record { program = refl; flag = refl } })
  where
    each : (z : Bool) → IsStrongest (label_of s z) (goes (label_of s z) Live ∷ [])
    each z = subst (λ l. IsStrongest (label_of s z) (l ∷ [])) (sym (same_too (label_of s z))) (only_itself (label_of s z))

-- A take gives what the items do that it names, and asks no list.
pub taken_from : {X : Type 0} (lists : List Items) (s new : State) (x : Result X Cause) (test : Test) (pool : Option ℕ) (k : ℕ) (items : Items) → test ≡ Take pool k → items ≡ items_at lists k → Gives s new x (asked_alike s (items ∷ []) (If (Take pool 0))) (λ z. goes (label_of s z) (λ bag m. take_effect (program_of s) bag m items) ∷ []) → Gives s new x (asked_alike s [] (If test)) (λ z. gate (test_goes s.flag test z true) (goes (label_of s z) (λ bag m. test_effect (program_of s) lists bag m test)) ∷ [])
taken_from lists s new x test pool k items e q g =
    let same : asked_alike s (items ∷ []) (If (Take pool 0)) ≡ asked_alike s [] (If (Take pool 0)) = asks_same (label_of s) _ _ (λ z bag m. test_same (program_of s) (items ∷ []) true bag m (Take pool 0)) in
    let h : Gives s new x (asked_alike s [] (If (Take pool 0))) (λ z. goes (label_of s z) (λ bag m. take_effect (program_of s) bag m items) ∷ []) = subst (λ ps. Gives s new x ps (λ z. goes (label_of s z) (λ bag m. take_effect (program_of s) bag m items) ∷ [])) same g in
    subst (λ t. Gives s new x (asked_alike s [] (If t)) (λ z. gate (test_goes s.flag t z true) (goes (label_of s z) (λ bag m. test_effect (program_of s) lists bag m t)) ∷ [])) (sym e)
    (subst (λ is. Gives s new x (asked_alike s [] (If (Take pool 0))) (λ z. goes (label_of s z) (λ bag m. take_effect (program_of s) bag m is) ∷ [])) q h)

-- ---- what a branch leaves after it

stmt_front : (lines : List Line) (j o : ℕ) → o < j → stmt_at (take j lines) o ≡ stmt_at lines o
stmt_front lines zero o lt = absurd (omega (arith, lt))
stmt_front [] (suc j) o lt = refl
stmt_front (l ∷ lines) (suc j) zero lt = refl
stmt_front (l ∷ lines) (suc j) (suc o) lt = stmt_front lines j o (omega (arith, lt))

-- The lines from j on say nothing of it.
skipped_front : (t : Thread) (j : ℕ) (labels : List Sides) (o : ℕ) (z : Bool) → o < j → skipped t t.lines labels o z ≡ skipped t (take j t.lines) labels o z
skipped_front t j labels o z lt = ap (λ x. gate (may_skip t.flag z x) (label_at labels o z)) (sym (stmt_front t.lines j o lt))

module _ (P : Program) (t : Thread) (j : ℕ) (w : Walk) (r : Reaches P t j w) where
  few_kept : length w.branches ≤ length (blocks_at t.lines j)
  few_kept = omega (arith, kept_length (OnKept (IsBranch P t j r.labels)) (places branch_place (blocks_at t.lines j)) w.branches r.at.keeps.branches, few_places branch_place few_branches (blocks_at t.lines j))

  -- the label of this place, where there is one more
  here_still : (new : Sides) (z : Bool) → label_at (r.labels ++ new ∷ []) j z ≡ label_of w.state z
  here_still new z = ap (on z) (get_or-append r.labels (new ∷ []) unreached j (omega (arith, r.at.size)) ∙ get_or_from_slice_get r.labels j (sides_of w.state) unreached r.at.here.at)

  -- ---- if

  pub room_here : (test : Test) → stmt_at t.lines j ≡ Some (If test) → length w.branches < 31
  room_here test e =
      let n : length (blocks_at t.lines (j + 1)) ≡ length (blocks_at t.lines j ++ InIf j ∷ []) = ap length (blocks_next t.lines j (If test) e) in
      omega (arith, n, length-append (blocks_at t.lines j) (InIf j ∷ []), few_kept, r.thread.nested.depth (j + 1))

  kept_other : (test : Test) (new : Sides) (kept : List (Option State)) → stmt_at t.lines j ≡ Some (If test) → (k : KeepsOther test w.state w.branches kept) → IsBranch P t (j + 1) (r.labels ++ new ∷ []) j k.state
  kept_other test new kept e k = record {
    of = of_same P t k.state w.state r.at.here.of k.other.of;
    before = omega arith;
    at = λ z.
        only_one (label_of k.state z) (gate (test_goes w.state.flag test z false) (label_of w.state z)) (k.other.each z)
        ∙ ap (λ (f : Option ℕ). gate (test_goes f test z false) (label_of w.state z)) r.at.here.of.flag
        ∙ ap (λ x. gate (may_skip t.flag z x) (label_of w.state z)) (sym e)
        ∙ ap (gate (may_skip t.flag z (stmt_at t.lines j))) (sym (here_still new z));
  }

  tests_here : (test : Test) → stmt_at t.lines j ≡ Some (If test) → MayTest P t.lists test
  tests_here (Compare x c n) e = tt
  tests_here ReadyZero e = tt
  tests_here (SpaceAtLeast n) e = tt
  tests_here Any e = tt
  tests_here (Take pool k) e = let lt : k < length t.lists = (r.thread.resolved j (If (Take pool k)) e).1 in (lt, (r.thread.lists k no_items lt).first)

  pub may_test : (test : Test) (lists : List Items) → stmt_at t.lines j ≡ Some (If test) → lists ≡ t.lists → MayTest (program_of w.state) lists test
  may_test test lists e q = subst (λ (p : Program). MayTest p lists test) (sym r.at.here.of.program) (subst (λ (is : List Items). MayTest P is test) (sym q) (tests_here test e))

  pub if_passes : {X : Type 0} (test : Test) (lists : List Items) (new : State) (kept : List (Option State)) (x : Result X Cause) → stmt_at t.lines j ≡ Some (If test) → lists ≡ t.lists → Gives w.state new x (asked_alike w.state [] (If test)) (λ z. gate (test_goes w.state.flag test z true) (goes (label_of w.state z) (λ bag m. test_effect (program_of w.state) lists bag m test)) ∷ []) → OnOk x (KeepsOther test w.state w.branches kept) → PassesLine P t j (record { state = new; branches = kept; peek = w.peek; loops = w.loops }) x
  if_passes test lists new kept x e same_lists h k =
      let g = subst (λ (is : List Items). Gives w.state new x (asked_alike w.state [] (If test)) (λ z. gate (test_goes w.state.flag test z true) (goes (label_of w.state z) (λ bag m. test_effect (program_of w.state) is bag m test)) ∷ [])) same_lists h in
      let w' : Walk = record { state = new; branches = kept; peek = w.peek; loops = w.loops } in
      let F : Program → Option ℕ → Sides → List (ℕ × Premise) = λ p f l. asks_both (λ z. on z l) (λ z bag m. line_premises p [] bag m (If test)) in
      let B : Program → Option ℕ → Sides → Bool → List Label = λ p f l z. gate (test_goes f test z true) (goes (on z l) (λ bag m. test_effect p t.lists bag m test)) ∷ [] in
      let gave = subst (λ ps. Gave P t new x ps (B P t.flag (seen_at t j r.labels))) (sym (test_asked P t.lists (λ z. on z (seen_at t j r.labels)) test)) (took P t w.state new (seen_at t j r.labels) x F B r.at.here.of (here_is P t j w r (If test) e) g) in
      let bs = blocks_at t.lines j in
      let n : blocks_at t.lines (j + 1) ≡ bs ++ InIf j ∷ [] = blocks_next t.lines j (If test) e in
      let same = opens_none t j bs (InIf j) refl n in
      let f : (z : Bool) → Fits (locks_in bs) (most_at j + 18) (goes (here (take j t.lines) r.labels z) (λ bag m. test_effect P t.lists bag m test)) = λ z. fits_more (locks_in bs) (most_at j) (most_at j + 18) _ (omega arith) (test_fits P t.lists test (locks_in bs) (most_at j) _ r.made (tests_here test e) (omega arith) (fits_known P t j w r (If test) e z)) in
      passes P t j w r (If test) e w' x gave
      (λ b z. fits_behind P t j w r (If test) e (label_of new z) (strongest_fits (locks_in bs) (most_at j + 18) (label_of new z) _ (gate_fits (test_goes t.flag test z true) (locks_in bs) (most_at j + 18) _ (f z), tt) (b z)))
      (λ y q. record {
        branches = grown new kept n (on_ok (KeepsOther test w.state w.branches kept) x y k q);
        peek = peek_same P t j w r (If test) e (sides_of new) (λ o z. refl) (same peek_place refl);
        loops = loops_same P t j w r (If test) e (sides_of new) (λ o z. refl) (same loop_place refl);
      })
    where
      grown : (new : State) (kept : List (Option State)) → blocks_at t.lines (j + 1) ≡ blocks_at t.lines j ++ InIf j ∷ [] → KeepsOther test w.state w.branches kept → AreKept (OnKept (IsBranch P t (j + 1) (r.labels ++ sides_of new ∷ []))) (places branch_place (blocks_at t.lines (j + 1))) kept
      grown new kept n k =
          let R = OnKept (IsBranch P t (j + 1) (r.labels ++ sides_of new ∷ [])) in
          let more = keep_more R (places branch_place (blocks_at t.lines j)) w.branches j (Some k.state) (branches_stay P t j w r (If test) e (sides_of new) (places branch_place (blocks_at t.lines j)) w.branches r.at.keeps.branches) (kept_other test (sides_of new) kept e k) in
          subst (λ os. AreKept R os kept) (sym (ap (places branch_place) n ∙ places_pushed branch_place (blocks_at t.lines j) (InIf j))) (subst (λ xs. AreKept R (places branch_place (blocks_at t.lines j) ++ j ∷ []) xs) (sym k.kept) more)

  -- ---- else

  -- The state that is kept last is the end of the branch that is read at the line at o.
  kept_at : (o : ℕ) (outer : List Block) (b : Block) → branch_place b ≡ o ∷ [] → blocks_at t.lines j ≡ outer ++ b ∷ [] → KeepsLast (IsBranch P t j r.labels) (places branch_place outer) o w.branches
  kept_at o outer b p n = last_kept (IsBranch P t j r.labels) (places branch_place outer) o w.branches (subst (λ os. AreKept (OnKept (IsBranch P t j r.labels)) os w.branches) (ap (places branch_place) n ∙ places_pushed branch_place outer b ∙ ap (λ os. places branch_place outer ++ os) p) r.at.keeps.branches)

  else_kept : (o : ℕ) → stmt_at t.lines j ≡ Some (Else o) → KeepsLast (IsBranch P t j r.labels) (places branch_place (blocks_at t.lines o)) o w.branches
  else_kept o e = kept_at o (blocks_at t.lines o) (InIf o) refl (turns_at t.lines r.thread.nested.each j o e).within

  pub else_some : (o : ℕ) → stmt_at t.lines j ≡ Some (Else o) → IsSome (last_of w.branches)
  else_some o e = some_last (IsBranch P t j r.labels) _ o w.branches (else_kept o e)

  -- What comes from a branch fits as the label that it is read at does.
  branch_fits : (o : ℕ) (s : State) (z : Bool) → locks_in (blocks_at t.lines o) ≡ locks_in (blocks_at t.lines j) → IsBranch P t j r.labels o s → Fits (locks_in (blocks_at t.lines j)) (most_at j) (label_of s z)
  branch_fits o s z l h =
      let lt : o < length r.labels = omega (arith, h.before, r.at.size) in
      let is = slice_get-get_or r.labels o unreached lt in
      let f : Fits (locks_in (blocks_at t.lines j)) (most_at j) (label_at r.labels o z) = subst (λ b. Fits b (most_at j) (label_at r.labels o z)) l (r.at.fits o (slice_index_or r.labels o unreached) is z) in
      subst (λ x. Fits (locks_in (blocks_at t.lines j)) (most_at j) x) (sym (h.at z)) (gate_fits (may_skip t.flag z (stmt_at t.lines o)) (locks_in (blocks_at t.lines j)) (most_at j) (label_at r.labels o z) f)

  pub else_passes : (o : ℕ) (new : State) (kept : List (Option State)) → stmt_at t.lines j ≡ Some (Else o) → last_of w.branches ≡ Some new → kept ≡ rest_of w.branches ++ Some w.state ∷ [] → Reaches P t (j + 1) (record { state = new; branches = kept; peek = w.peek; loops = w.loops })
  else_passes o new kept e q k =
      let w' : Walk = record { state = new; branches = kept; peek = w.peek; loops = w.loops } in
      let c = turns_at t.lines r.thread.nested.each j o e in
      let last = else_kept o e in
      let b = same_last (IsBranch P t j r.labels) (places branch_place (blocks_at t.lines o)) o w.branches new last q in
      let l : locks_in (blocks_at t.lines o) ≡ locks_in (blocks_at t.lines j) = sym (ap locks_in c.within ∙ same_locks (blocks_at t.lines o) (InIf o) refl) in
      let best : AreStrongestOf new (lead_at P t j r.labels (Else o)) = λ z. subst (λ x. IsStrongest (label_of new z) (x ∷ [])) (b.at z ∙ skipped_front t j r.labels o z b.before) (only_itself (label_of new z)) in
      onward P t j w r (Else o) e w' tt best b.of
      (λ z. fits_behind P t j w r (Else o) e (label_of new z) (fits_more (locks_in (blocks_at t.lines j)) (most_at j) (most_at j + 18) (label_of new z) (omega arith) (branch_fits o new z l b)))
      (record {
        branches = grown new kept c.behind k last.rest;
        peek = peek_same P t j w r (Else o) e (sides_of new) (λ o z. refl) (same peek_place c.within c.behind refl refl);
        loops = loops_same P t j w r (Else o) e (sides_of new) (λ o z. refl) (same loop_place c.within c.behind refl refl);
      })
    where
      same : (f : Block → List ℕ) → blocks_at t.lines j ≡ blocks_at t.lines o ++ InIf o ∷ [] → blocks_at t.lines (j + 1) ≡ blocks_at t.lines o ++ InElse j ∷ [] → f (InIf o) ≡ [] → f (InElse j) ≡ [] → places f (blocks_at t.lines (j + 1)) ≡ places f (blocks_at t.lines j)
      same f n m a b = ap (places f) m ∙ pushed_none f (blocks_at t.lines o) (InElse j) b ∙ sym (ap (places f) n ∙ pushed_none f (blocks_at t.lines o) (InIf o) a)

      -- The end of the first branch is kept.
      ended : (new : Sides) → IsBranch P t (j + 1) (r.labels ++ new ∷ []) j w.state
      ended new = record {
        of = r.at.here.of;
        before = omega arith;
        at = λ z. sym (here_still new z) ∙ ap (λ x. gate (may_skip t.flag z x) (label_at (r.labels ++ new ∷ []) j z)) (sym e);
      }

      grown : (new : State) (kept : List (Option State)) → blocks_at t.lines (j + 1) ≡ blocks_at t.lines o ++ InElse j ∷ [] → kept ≡ rest_of w.branches ++ Some w.state ∷ [] → AreKept (OnKept (IsBranch P t j r.labels)) (places branch_place (blocks_at t.lines o)) (rest_of w.branches) → AreKept (OnKept (IsBranch P t (j + 1) (r.labels ++ sides_of new ∷ []))) (places branch_place (blocks_at t.lines (j + 1))) kept
      grown new kept n k rest =
          let R = OnKept (IsBranch P t (j + 1) (r.labels ++ sides_of new ∷ [])) in
          let more = keep_more R (places branch_place (blocks_at t.lines o)) (rest_of w.branches) j (Some w.state) (branches_stay P t j w r (Else o) e (sides_of new) (places branch_place (blocks_at t.lines o)) (rest_of w.branches) rest) (ended (sides_of new)) in
          subst (λ os. AreKept R os kept) (sym (ap (places branch_place) n ∙ places_pushed branch_place (blocks_at t.lines o) (InElse j))) (subst (λ xs. AreKept R (places branch_place (blocks_at t.lines o) ++ j ∷ []) xs) (sym k) more)

  -- ---- the end of an if

  -- The line ends an if, of which the branch that is read at the line at o is kept.
  record EndsBranch (o : ℕ) : Type 0 where
    pub outer : List Block
    pub block : Block
    pub branch : branch_place block ≡ o ∷ []
    pub peek : peek_place block ≡ []
    pub loop : loop_place block ≡ []
    pub within : blocks_at t.lines j ≡ outer ++ block ∷ []
    pub behind : blocks_at t.lines (j + 1) ≡ outer
    pub locks : locks_in (blocks_at t.lines o) ≡ locks_in (blocks_at t.lines j)

  ends_branch : (o : ℕ) → stmt_at t.lines j ≡ Some (EndIf o) → EndsBranch o
  ends_branch o e = elim (closes_if t.lines r.thread.nested.each j o e) [
    | inl c ↦ record {
      outer = blocks_at t.lines o;
      block = InIf o;
      branch = refl;
      peek = refl;
      loop = refl;
      within = c.1.within;
      behind = c.1.behind;
      locks = sym (ap locks_in c.1.within ∙ same_locks (blocks_at t.lines o) (InIf o) refl);
    }
    | inr c ↦ record {
      outer = blocks_at t.lines c.opener;
      block = InElse o;
      branch = refl;
      peek = refl;
      loop = refl;
      within = c.within;
      behind = c.behind;
      locks = ap locks_in c.turned ∙ same_locks (blocks_at t.lines c.opener) (InIf c.opener) refl ∙ sym (ap locks_in c.within ∙ same_locks (blocks_at t.lines c.opener) (InElse o) refl);
    }
  ]

  end_kept : (o : ℕ) (e : stmt_at t.lines j ≡ Some (EndIf o)) → KeepsLast (IsBranch P t j r.labels) (places branch_place (ends_branch o e).outer) o w.branches
  end_kept o e = let c = ends_branch o e in kept_at o c.outer c.block c.branch c.within

  pub end_some : (o : ℕ) → stmt_at t.lines j ≡ Some (EndIf o) → IsSome (last_of w.branches)
  end_some o e = some_last (IsBranch P t j r.labels) _ o w.branches (end_kept o e)

  branch_last : (o : ℕ) (s : State) → stmt_at t.lines j ≡ Some (EndIf o) → last_of w.branches ≡ Some s → IsBranch P t j r.labels o s
  branch_last o s e q = same_last (IsBranch P t j r.labels) _ o w.branches s (end_kept o e) q

  fits_last : (o : ℕ) (s : State) (z : Bool) → stmt_at t.lines j ≡ Some (EndIf o) → last_of w.branches ≡ Some s → Fits (locks_in (blocks_at t.lines j)) (most_at j) (label_of s z)
  fits_last o s z e q = branch_fits o s z (ends_branch o e).locks (branch_last o s e q)

  pub end_of : (o : ℕ) (s : State) → stmt_at t.lines j ≡ Some (EndIf o) → last_of w.branches ≡ Some s → IsOfSame s w.state
  end_of o s e q = same_of P t s w.state (branch_last o s e q).of r.at.here.of

  pub end_alike : (o : ℕ) (s : State) → stmt_at t.lines j ≡ Some (EndIf o) → last_of w.branches ≡ Some s → (y z : Bool) → AgreeOnLocks (label_of w.state y) (label_of s z)
  end_alike o s e q y z = fits_alike (locks_in (blocks_at t.lines j)) (most_at j) (most_at j) (label_of w.state y) (label_of s z) (fits_here P t j w r (EndIf o) e y) (fits_last o s z e q)

  -- the labels of both branches, with one read at the line at o
  gave_both : {X : Type 0} (h m b : Bool → Label) (new : State) (x : Result X Cause) → ((z : Bool) → m z ≡ b z) → Gave P t new x (joins_both (two h m)) (two h m) → Gave P t new x (joins_both (two h b)) (two h b)
  gave_both h m b new x e g = subst (λ k. Gave P t new x (joins_both (two h k)) (two h k)) (fun_ext e) g

  ends : {X : Type 0} (o : ℕ) (s new : State) (kept : List (Option State)) (x : Result X Cause) → stmt_at t.lines j ≡ Some (EndIf o) → last_of w.branches ≡ Some s → Gives w.state new x (joins_both (two (label_of w.state) (label_of s))) (two (label_of w.state) (label_of s)) → kept ≡ rest_of w.branches → PassesLine P t j (record { state = new; branches = kept; peek = w.peek; loops = w.loops }) x
  ends o s new kept x e q g k =
      let w' : Walk = record { state = new; branches = kept; peek = w.peek; loops = w.loops } in
      let c = ends_branch o e in
      let bs = blocks_at t.lines j in
      let b = branch_last o s e q in
      let known : (z : Bool) → label_of s z ≡ skipped t (take j t.lines) r.labels o z = λ z. b.at z ∙ skipped_front t j r.labels o z b.before in
      let h = here (take j t.lines) r.labels in
      let gave = took P t w.state new (seen_at t j r.labels) x (λ p f l. joins_both (two (λ z. on z l) (label_of s))) (λ p f l. two (λ z. on z l) (label_of s)) r.at.here.of (here_is P t j w r (EndIf o) e) g in
      let gave' = gave_both h (label_of s) (skipped t (take j t.lines) r.labels o) new x known gave in
      let f : (z : Bool) → Fits (locks_in bs) (most_at j + 18) (h z) = λ z. fits_more (locks_in bs) (most_at j) (most_at j + 18) (h z) (omega arith) (fits_known P t j w r (EndIf o) e z) in
      let f' : (z : Bool) → Fits (locks_in bs) (most_at j + 18) (skipped t (take j t.lines) r.labels o z) = λ z. subst (λ y. Fits (locks_in bs) (most_at j + 18) y) (known z) (fits_more (locks_in bs) (most_at j) (most_at j + 18) (label_of s z) (omega arith) (fits_last o s z e q)) in
      passes P t j w r (EndIf o) e w' x gave'
      (λ b z. fits_behind P t j w r (EndIf o) e (label_of new z) (strongest_fits (locks_in bs) (most_at j + 18) (label_of new z) _ (f z, (f' z, tt)) (b z)))
      (λ y q'. record {
        branches = left new kept c.outer c.behind k (end_kept o e).rest;
        peek = peek_same P t j w r (EndIf o) e (sides_of new) (λ o z. refl) (same peek_place c.outer c.block c.within c.behind c.peek);
        loops = loops_same P t j w r (EndIf o) e (sides_of new) (λ o z. refl) (same loop_place c.outer c.block c.within c.behind c.loop);
      })
    where
      same : (f : Block → List ℕ) (outer : List Block) (b : Block) → blocks_at t.lines j ≡ outer ++ b ∷ [] → blocks_at t.lines (j + 1) ≡ outer → f b ≡ [] → places f (blocks_at t.lines (j + 1)) ≡ places f (blocks_at t.lines j)
      same f outer b n m z = ap (places f) m ∙ sym (ap (places f) n ∙ pushed_none f outer b z)

      left : (new : State) (kept : List (Option State)) (outer : List Block) → blocks_at t.lines (j + 1) ≡ outer → kept ≡ rest_of w.branches → AreKept (OnKept (IsBranch P t j r.labels)) (places branch_place outer) (rest_of w.branches) → AreKept (OnKept (IsBranch P t (j + 1) (r.labels ++ sides_of new ∷ []))) (places branch_place (blocks_at t.lines (j + 1))) kept
      left new kept outer n k rest =
          let R = OnKept (IsBranch P t (j + 1) (r.labels ++ sides_of new ∷ [])) in
          subst (λ bs. AreKept R (places branch_place bs) kept) (sym n) (subst (λ xs. AreKept R (places branch_place outer) xs) (sym k) (branches_stay P t j w r (EndIf o) e (sides_of new) (places branch_place outer) (rest_of w.branches) rest))

  pub end_passes : {X : Type 0} (o : ℕ) (new : State) (kept : List (Option State)) (x : Result X Cause) → stmt_at t.lines j ≡ Some (EndIf o) → ((s : State) → last_of w.branches ≡ Some s → Gives w.state new x (joins_both (two (label_of w.state) (label_of s))) (two (label_of w.state) (label_of s))) → kept ≡ rest_of w.branches → PassesLine P t j (record { state = new; branches = kept; peek = w.peek; loops = w.loops }) x
  end_passes o new kept x e g k = let h = end_kept o e in ends o h.state new kept x e h.is (g h.state h.is) k

  pub end_stays : {X : Type 0} (o : ℕ) (new : State) (x : Result X Cause) → stmt_at t.lines j ≡ Some (EndIf o) → ((s : State) → last_of w.branches ≡ Some s → Gives w.state new x (joins_both (two (label_of w.state) (label_of s))) (two (label_of w.state) (label_of s))) → OnErr x (new ≡ w.state)
  end_stays o new x e g = let h = end_kept o e in gives_stays w.state new x _ _ (g h.state h.is)
