-- Lines that change the state alone.
use Rattle.std.proofs.Common.{◌≡◌, ℕ, ◌+◌, ◌^◌, ◌<◌, ◌≤◌, Bool, true, false, not, ◌&&◌, ◌||◌, List, [], ◌∷◌, ◌++◌, length, take, Option, Some, Result, refl, sym, ap, subst, ◌∙◌, arith}
use Rattle.rc_lang.specs.declared.lines.Block.{Block}
use Rattle.rc_lang.specs.declared.lines.Block.TheVariants.{InLock}
use Rattle.rc_lang.specs.declared.lines.Locks.{Locks}
use Rattle.rc_lang.specs.declared.lines.Op.{Op}
use Rattle.rc_lang.specs.declared.lines.Stmt.{Stmt}
use Rattle.rc_lang.specs.declared.lines.Stmt.TheVariants.{Do, Put, Lock, EndLock}
use Rattle.rc_lang.specs.Locks.{no_lock, with_locks, without_locks}
use Rattle.rc_lang.specs.Nesting.{blocks_at, innermost, locks_in, without_innermost}
use Rattle.rc_lang.specs.Program.{Items, Program, Thread, items_at, stmt_at}
use Rattle.rc_lang.proofs.Along.{locks_behind, locks_next, locks_pushed}
use Rattle.rc_lang.proofs.Closing.{closes_lock}
use Rattle.rc_lang.proofs.Fitting.{no_cq_in_cq, none_in_sq}
use Rattle.rc_lang.proofs.Lookups.{blocks_next, nested_here, same_sides, stands_within}
use Rattle.rc_rules.specs.declared.cause.Cause.{Cause}
use Rattle.rc_rules.specs.Labels.{Label, IsStrongest}
use Rattle.rc_rules.specs.Labellings.{arm_end, break_end, here}
use Rattle.rc_rules.specs.Premises.{Premise}
use Rattle.rc_rules.specs.Needs.{line_premises}
use Rattle.rc_rules.specs.Rules.{asks_both, entered, goes, op_effect, put_effect, released}
use Rattle.rc_rules.specs.Sides.{Sides, brings, on, turns, write_of}
use Rattle.rc_rules.specs.States.{asked_alike, State, AgreeOnLocks, AreFree, AreHeld, Gives, IsSmall, OnBoth, label_of, program_of, sides_of}
use Rattle.rc_rules.proofs.Rising.{op_asked, put_asked, release_asked}
use Rattle.rc_verify.specs.declared.walk.Walk.{Walk}
use Rattle.rc_verify.specs.Walk.{AreKept, Fits, IsBranch, IsLoop, IsOf, IsPeeked, Keeps, OnKept, PassesLine, Reaches, branch_place, listed, loop_place, most_at, peek_place, places}
use Rattle.rc_verify.proofs.Fit.{AreAll, brings_fit, entered_fits, fits_alike, fits_free, fits_held, fits_more, fits_small, op_fits, put_fits, released_fits, strongest_fits}
use Rattle.rc_verify.proofs.Keeping.{popped_none, pushed_none}
use Rattle.rc_verify.proofs.Standing.{Gave, asked_at, branches_stay, fits_here, here_is, lead_at, loops_stay, passes, peek_stays, seen_at, took}

-- The same places are kept after the line at j.
pub record SamePlaces (t : Thread) (j : ℕ) : Type 0 where
  pub branches : places branch_place (blocks_at t.lines (j + 1)) ≡ places branch_place (blocks_at t.lines j)
  pub peek : places peek_place (blocks_at t.lines (j + 1)) ≡ places peek_place (blocks_at t.lines j)
  pub loops : places loop_place (blocks_at t.lines (j + 1)) ≡ places loop_place (blocks_at t.lines j)

-- Neither an arm ends with the line, nor does it break out of a loop.
pub record EndsNone (s : Stmt) : Type 0 where
  pub arms : (o : ℕ) (x : Label) → arm_end s o x ≡ []
  pub breaks : (o : ℕ) (x : Label) → break_end s o x ≡ []

module _ (t : Thread) (j : ℕ) (bs : List Block) (b : Block) (here : blocks_at t.lines j ≡ bs) where
  pub opens_none : blocks_at t.lines (j + 1) ≡ bs ++ b ∷ [] → (f : Block → List ℕ) → f b ≡ [] → places f (blocks_at t.lines (j + 1)) ≡ places f (blocks_at t.lines j)
  opens_none e f n = ap (places f) e ∙ pushed_none f bs b n ∙ ap (places f) (sym here)

  closes_none : innermost bs ≡ Some b → blocks_at t.lines (j + 1) ≡ without_innermost bs → (f : Block → List ℕ) → f b ≡ [] → places f (blocks_at t.lines (j + 1)) ≡ places f (blocks_at t.lines j)
  closes_none i e f n = ap (places f) e ∙ popped_none f bs b i n ∙ ap (places f) (sym here)

module _ (P : Program) (t : Thread) (j : ℕ) (w : Walk) (r : Reaches P t j w) (s : Stmt) (e : stmt_at t.lines j ≡ Some s) where
  -- what fits after the line
  pub fits_behind : (x : Label) → Fits (locks_behind (locks_in (blocks_at t.lines j)) s) (most_at j + 18) x → Fits (locks_in (blocks_at t.lines (j + 1))) (most_at (j + 1)) x
  fits_behind x h = subst (λ l. Fits l (most_at (j + 1)) x) (sym (locks_next t.lines r.thread.nested.each j s e)) (fits_more (locks_behind (locks_in (blocks_at t.lines j)) s) (most_at j + 18) (most_at (j + 1)) x (omega arith) h)

  pub fits_known : (z : Bool) → Fits (locks_in (blocks_at t.lines j)) (most_at j) (here (take j t.lines) r.labels z)
  fits_known z = subst (λ x. Fits (locks_in (blocks_at t.lines j)) (most_at j) (on z x)) (here_is P t j w r s e) (fits_here P t j w r s e z)

  -- what is kept where the same places are
  module _ (new : Sides) where
    pub branches_same : places branch_place (blocks_at t.lines (j + 1)) ≡ places branch_place (blocks_at t.lines j) → AreKept (OnKept (IsBranch P t (j + 1) (r.labels ++ new ∷ []))) (places branch_place (blocks_at t.lines (j + 1))) w.branches
    branches_same p = subst (λ os. AreKept (OnKept (IsBranch P t (j + 1) (r.labels ++ new ∷ []))) os w.branches) (sym p) (branches_stay P t j w r s e new (places branch_place (blocks_at t.lines j)) w.branches r.at.keeps.branches)

    pub peek_same : ((o : ℕ) (x : Label) → arm_end s o x ≡ []) → places peek_place (blocks_at t.lines (j + 1)) ≡ places peek_place (blocks_at t.lines j) → AreKept (IsPeeked P t (j + 1) (r.labels ++ new ∷ [])) (places peek_place (blocks_at t.lines (j + 1))) (listed w.peek)
    peek_same n p = subst (λ os. AreKept (IsPeeked P t (j + 1) (r.labels ++ new ∷ [])) os (listed w.peek)) (sym p) (peek_stays P t j w r s e new n (places peek_place (blocks_at t.lines j)) (listed w.peek) r.at.keeps.peek)

    pub loops_same : ((o : ℕ) (x : Label) → break_end s o x ≡ []) → places loop_place (blocks_at t.lines (j + 1)) ≡ places loop_place (blocks_at t.lines j) → AreKept (OnKept (IsLoop P t (j + 1) (r.labels ++ new ∷ []))) (places loop_place (blocks_at t.lines (j + 1))) w.loops
    loops_same n p = subst (λ os. AreKept (OnKept (IsLoop P t (j + 1) (r.labels ++ new ∷ []))) os w.loops) (sym p) (loops_stay P t j w r s e new n (places loop_place (blocks_at t.lines j)) w.loops r.at.keeps.loops)

  keeps_same : (new : State) → SamePlaces t j → EndsNone s → Keeps P t (j + 1) (r.labels ++ sides_of new ∷ []) (record { state = new; branches = w.branches; peek = w.peek; loops = w.loops })
  keeps_same new p n = record { branches = branches_same (sides_of new) p.branches; peek = peek_same (sides_of new) n.arms p.peek; loops = loops_same (sides_of new) n.breaks p.loops }

  pub state_alone : {X : Type 0} (old new : State) (known : Sides) (x : Result X Cause) (F : Program → Option ℕ → Sides → List (ℕ × Premise)) (B : Program → Option ℕ → Sides → Bool → List Label) → IsOf P t old → sides_of old ≡ known → asked_at P t j r.labels s ≡ F P t.flag known → lead_at P t j r.labels s ≡ B P t.flag known → ((z : Bool) → AreAll (Fits (locks_behind (locks_in (blocks_at t.lines j)) s) (most_at j + 18)) (B P t.flag known z)) → SamePlaces t j → EndsNone s → Gives old new x (F (program_of old) old.flag (sides_of old)) (B (program_of old) old.flag (sides_of old)) → PassesLine P t j (record { state = new; branches = w.branches; peek = w.peek; loops = w.loops }) x
  state_alone old new known x F B p q a l f places_same none g =
      let h = subst (λ bs. Gave P t new x (asked_at P t j r.labels s) bs) (sym l) (subst (λ ps. Gave P t new x ps (B P t.flag known)) (sym a) (took P t old new known x F B p q g)) in
      passes P t j w r s e (record { state = new; branches = w.branches; peek = w.peek; loops = w.loops }) x h
      (λ b z. fits_behind (label_of new z) (strongest_fits (locks_behind (locks_in (blocks_at t.lines j)) s) (most_at j + 18) (label_of new z) (B P t.flag known z) (f z) (subst (λ bs. IsStrongest (label_of new z) (bs z)) l (b z))))
      (λ y q. keeps_same new places_same none)

-- ---- statements without a block, and locks

few_held : (j n : ℕ) → j < n → n ≤ 4096 → most_at j ≤ 2 ^ 19
few_held j n l m = omega arith

-- a lock that is taken isn't held, and one that is released is
not_held : (a h : Bool) → (h ≡ true → a ≡ false) → (a && not h) ≡ a
not_held true true f = absurd (cc (f refl))
not_held true false f = refl
not_held false h f = refl

none_left : (a h : Bool) → (a && not (h || a)) ≡ false
none_left true true = refl
none_left true false = refl
none_left false h = refl

module _ (P : Program) (t : Thread) (j : ℕ) (w : Walk) (r : Reaches P t j w) where
  pub small_here : (s : Stmt) → stmt_at t.lines j ≡ Some s → OnBoth IsSmall w.state
  small_here s e z = let l = stands_within t.lines j s e in fits_small (locks_in (blocks_at t.lines j)) (most_at j) (label_of w.state z) (few_held j (length t.lines) l r.thread.few_lines) (fits_here P t j w r s e z)

  pub do_passes : {X : Type 0} (op : Op) (new : State) (x : Result X Cause) → stmt_at t.lines j ≡ Some (Do op) → Gives w.state new x (asked_alike w.state [] (Do op)) (λ z. brings (λ y. turns (write_of w.state.flag op) y z) (λ s. goes s (λ bag m. op_effect (program_of w.state) bag m op)) (label_of w.state)) → PassesLine P t j (record { state = new; branches = w.branches; peek = w.peek; loops = w.loops }) x
  do_passes op new x e g =
      let n = blocks_next t.lines j (Do op) e in
      let held = locks_in (blocks_at t.lines j) in
      state_alone P t j w r (Do op) e w.state new (seen_at t j r.labels) x (λ p f l. asks_both (λ z. on z l) (λ z bag m. line_premises p [] bag m (Do op))) (λ p f l z. brings (λ y. turns (write_of f op) y z) (λ s. goes s (λ bag m. op_effect p bag m op)) (λ y. on y l)) r.at.here.of (here_is P t j w r (Do op) e) (op_asked P t.lists (λ z. on z (seen_at t j r.labels)) op) refl
      (λ z. brings_fit (λ y. turns (write_of t.flag op) y z) (λ s. goes s (λ bag m. op_effect P bag m op)) (here (take j t.lines) r.labels) held (most_at j + 18) (λ y. op_fits P held (most_at j) _ op r.made (fits_known P t j w r (Do op) e y)))
      (record { branches = ap (places branch_place) n; peek = ap (places peek_place) n; loops = ap (places loop_place) n })
      (record { arms = λ o x. refl; breaks = λ o x. refl }) g

  pub put_passes : {X : Type 0} (pool : Option ℕ) (k : ℕ) (items : Items) (new : State) (x : Result X Cause) → stmt_at t.lines j ≡ Some (Put pool k) → items ≡ items_at t.lists k → Gives w.state new x (asked_alike w.state (items ∷ []) (Put pool 0)) (λ z. goes (label_of w.state z) (λ bag m. put_effect bag m items) ∷ []) → PassesLine P t j (record { state = new; branches = w.branches; peek = w.peek; loops = w.loops }) x
  put_passes pool k items new x e q g =
      let n = blocks_next t.lines j (Put pool k) e in
      let held = locks_in (blocks_at t.lines j) in
      let own : Items = items_at t.lists k in
      state_alone P t j w r (Put pool k) e w.state new (seen_at t j r.labels) x (λ p f l. asks_both (λ z. on z l) (λ z bag m. line_premises p (own ∷ []) bag m (Put pool 0))) (λ p f l z. goes (on z l) (λ bag m. put_effect bag m own) ∷ []) r.at.here.of (here_is P t j w r (Put pool k) e) (put_asked P t.lists (λ z. on z (seen_at t j r.labels)) pool k) refl
      (λ z. (fits_more held (most_at j) (most_at j + 18) _ (omega arith) (put_fits own held (most_at j) _ (fits_known P t j w r (Put pool k) e z)), tt))
      (record { branches = ap (places branch_place) n; peek = ap (places peek_place) n; loops = ap (places loop_place) n })
      (record { arms = λ o x. refl; breaks = λ o x. refl })
      (subst (λ (is : Items). Gives w.state new x (asked_alike w.state (is ∷ []) (Put pool 0)) (λ z. goes (label_of w.state z) (λ bag m. put_effect bag m is) ∷ [])) q g)

  -- Both sides have the same locks.
  pub sides_here : (s : Stmt) → stmt_at t.lines j ≡ Some s → AgreeOnLocks (label_of w.state true) (label_of w.state false)
  sides_here s e = fits_alike (locks_in (blocks_at t.lines j)) (most_at j) (most_at j) (label_of w.state true) (label_of w.state false) (fits_here P t j w r s e true) (fits_here P t j w r s e false)

  free : (takes : Locks) → stmt_at t.lines j ≡ Some (Lock takes) → without_locks takes (locks_in (blocks_at t.lines j)) ≡ takes
  free takes e =
      let order = (nested_here t.lines r.thread.nested.each j (Lock takes) e).0 in
      let bs = blocks_at t.lines j in
      same_sides (not_held takes.sq (locks_in bs).sq (λ h. ap (λ (l : Locks). l.sq) (none_in_sq bs takes order h))) (not_held takes.cq (locks_in bs).cq (λ h. no_cq_in_cq bs takes order h))

  pub free_here : (takes : Locks) → stmt_at t.lines j ≡ Some (Lock takes) → OnBoth (AreFree takes) w.state
  free_here takes e z = fits_free takes (locks_in (blocks_at t.lines j)) (most_at j) (label_of w.state z) (free takes e) (fits_here P t j w r (Lock takes) e z)

  pub lock_passes : {X : Type 0} (takes : Locks) (new : State) (x : Result X Cause) → stmt_at t.lines j ≡ Some (Lock takes) → Gives w.state new x [] (λ z. entered (program_of w.state) takes (label_of w.state z) ∷ []) → PassesLine P t j (record { state = new; branches = w.branches; peek = w.peek; loops = w.loops }) x
  lock_passes takes new x e g =
      let n = opens_none t j (blocks_at t.lines j) (InLock j takes) refl (blocks_next t.lines j (Lock takes) e) in
      let held = locks_in (blocks_at t.lines j) in
      state_alone P t j w r (Lock takes) e w.state new (seen_at t j r.labels) x (λ p f l. []) (λ p f l z. entered p takes (on z l) ∷ []) r.at.here.of (here_is P t j w r (Lock takes) e) refl refl
      (λ z. (fits_more (with_locks held takes) (most_at j) (most_at j + 18) _ (omega arith) (entered_fits P takes held (most_at j) _ (fits_known P t j w r (Lock takes) e z)), tt))
      (record { branches = n branch_place refl; peek = n peek_place refl; loops = n loop_place refl })
      (record { arms = λ o x. refl; breaks = λ o x. refl }) g

  among : (o : ℕ) (releases : Locks) → stmt_at t.lines j ≡ Some (EndLock o releases) → without_locks releases (locks_in (blocks_at t.lines j)) ≡ no_lock
  among o releases e =
      let c = closes_lock t.lines r.thread.nested.each j o releases e in
      let outer = locks_in (blocks_at t.lines o) in
      ap (without_locks releases) (ap locks_in c.within ∙ locks_pushed (blocks_at t.lines o) o releases) ∙ same_sides (none_left releases.sq outer.sq) (none_left releases.cq outer.cq)

  pub held_here : (o : ℕ) (releases : Locks) → stmt_at t.lines j ≡ Some (EndLock o releases) → OnBoth (AreHeld releases) w.state
  held_here o releases e z = fits_held releases (locks_in (blocks_at t.lines j)) (most_at j) (label_of w.state z) (among o releases e) (fits_here P t j w r (EndLock o releases) e z)

  pub release_passes : {X : Type 0} (o : ℕ) (releases : Locks) (new : State) (x : Result X Cause) → stmt_at t.lines j ≡ Some (EndLock o releases) → Gives w.state new x (asked_alike w.state [] (EndLock 0 releases)) (λ z. released releases (label_of w.state z) ∷ []) → PassesLine P t j (record { state = new; branches = w.branches; peek = w.peek; loops = w.loops }) x
  release_passes o releases new x e g =
      let n = closes_none t j (blocks_at t.lines j) (InLock o releases) refl (nested_here t.lines r.thread.nested.each j (EndLock o releases) e) (blocks_next t.lines j (EndLock o releases) e) in
      let held = locks_in (blocks_at t.lines j) in
      state_alone P t j w r (EndLock o releases) e w.state new (seen_at t j r.labels) x (λ p f l. asks_both (λ z. on z l) (λ z bag m. line_premises p [] bag m (EndLock 0 releases))) (λ p f l z. released releases (on z l) ∷ []) r.at.here.of (here_is P t j w r (EndLock o releases) e) (release_asked P t.lists (λ z. on z (seen_at t j r.labels)) o releases) refl
      (λ z. (fits_more (without_locks held releases) (most_at j) (most_at j + 18) _ (omega arith) (released_fits releases held (most_at j) _ (fits_known P t j w r (EndLock o releases) e z)), tt))
      (record { branches = n branch_place refl; peek = n peek_place refl; loops = n loop_place refl })
      (record { arms = λ o x. refl; breaks = λ o x. refl }) g
