-- Threads that differ only in variables on which nothing depends, and what they do.
use Rattle.std.proofs.Common.{◌≡◌, ℕ, zero, suc, ℤ, pos, negsuc, ◌+ℤ◌, ◌-ℤ◌, ◌&&◌, ◌||◌, Bool, true, false, not, if◌then◌else◌, List, [], ◌∷◌, get_or, length, Option, None, slice_set, refl, sym, ap, subst, ◌∙◌, arith}
use Rattle.std.proofs.lemmas.List.{length-set}
use Rattle.rc_lang.specs.Comparisons.{compares}
use Rattle.rc_lang.specs.declared.lines.Op.{Op}
use Rattle.rc_lang.specs.declared.lines.Op.TheVariants.{Set, Assign, Add, Subtract, Load, Store, Fill, Print, GetSqe, PrepRead, PrepWrite, PrepFsync, PrepNop, PrepOther, SetData64, Submit, SubmitAndWait, CqeGetData64, CqeSeen}
use Rattle.rc_lang.specs.declared.lines.Operand.{Operand}
use Rattle.rc_lang.specs.declared.lines.Operand.TheVariants.{Variable, Number as Literal}
use Rattle.rc_lang.specs.declared.lines.Stmt.{Stmt}
use Rattle.rc_lang.specs.declared.lines.Stmt.TheVariants.{Do, Put, Lock, EndLock, If, Else, EndIf, Peek, Case, Other, Nothing, EndArm, EndPeek, Loop, EndLoop, Break}
use Rattle.rc_lang.specs.declared.lines.Test.{Test}
use Rattle.rc_lang.specs.declared.lines.Test.TheVariants.{Compare, ReadyZero, SpaceAtLeast, Take, Any}
use Rattle.rc_lang.specs.Program.{Program, Items}
use Rattle.rc_lang.specs.Kept.{IsProgram}
use Rattle.rc_split.specs.Pools.{all_pooled, includes, overfills, pool_of, put_into, taken_from}
use Rattle.rc_world.specs.declared.controls.Answer.{Answer}
use Rattle.rc_world.specs.declared.event.Action.TheVariants.{ItemsPut}
use Rattle.rc_world.specs.declared.controls.Answer.TheVariants.{Plain, Number, Byte, Front}
use Rattle.rc_world.specs.Controls as controls
use Rattle.rc_world.specs.Controls.{Controls, Move, Standing, acts, as_event, branches, does, goes_on, is_choice, made, moved, next_at, next_line, operand_value, passes_arm, peeks, plainly, rest_at, variable, wrapped, list_at}
use Rattle.rc_runs.specs.Closing.{IfBoth, Pairwise, matters, op_follows, operand_matters, stmt_follows, test_follows}
use Rattle.rc_lang.proofs.Reading.{list_alone}

-- ---- lists of things that are alike, place by place

pub pairs_set : (P : ℕ → Standing → Standing → Type 0) (xs ys : List Standing) (i : ℕ) (x y : Standing) → Pairwise P xs ys → P i x y → Pairwise P (slice_set xs i x) (slice_set ys i y)
pairs_set P [] [] i x y h p j = h j
pairs_set P [] (v ∷ ys) i x y h p j = absurd (h 0)
pairs_set P (u ∷ xs) [] i x y h p j = absurd (h 0)
pairs_set P (u ∷ xs) (v ∷ ys) zero x y h p zero = p
pairs_set P (u ∷ xs) (v ∷ ys) zero x y h p (suc j) = h (suc j)
pairs_set P (u ∷ xs) (v ∷ ys) (suc i) x y h p zero = h 0
pairs_set P (u ∷ xs) (v ∷ ys) (suc i) x y h p (suc j) = pairs_set (λ k. P (suc k)) xs ys i x y (λ k. h (suc k)) p j

pub pairs_many : (P : ℕ → Standing → Standing → Type 0) (xs ys : List Standing) → Pairwise P xs ys → length xs ≡ length ys
pairs_many P [] [] h = refl
pairs_many P [] (v ∷ ys) h = absurd (h 0)
pairs_many P (u ∷ xs) [] h = absurd (h 0)
pairs_many P (u ∷ xs) (v ∷ ys) h = ap suc (pairs_many (λ k. P (suc k)) xs ys (λ k. h (suc k)))

-- ---- a thread

set_values : (M : ℕ → Bool) (vs us : List ℤ) (x : ℕ) (v u : ℤ) → length vs ≡ length us → ((y : ℕ) → M y ≡ true → get_or vs y (pos 0) ≡ get_or us y (pos 0)) → (M x ≡ true → v ≡ u) →
    (y : ℕ) → M y ≡ true → get_or (slice_set vs x v) y (pos 0) ≡ get_or (slice_set us x u) y (pos 0)
set_values M [] [] x v u many h value y m = refl
set_values M [] (b ∷ us) x v u many h value y m = absurd (cc)
set_values M (a ∷ vs) [] x v u many h value y m = absurd (cc)
set_values M (a ∷ vs) (b ∷ us) zero v u many h value zero m = value m
set_values M (a ∷ vs) (b ∷ us) zero v u many h value (suc y) m = h (suc y) m
set_values M (a ∷ vs) (b ∷ us) (suc x) v u many h value zero m = h 0 m
set_values M (a ∷ vs) (b ∷ us) (suc x) v u many h value (suc y) m = set_values (λ k. M (suc k)) vs us x v u (omega (arith, many)) (λ k. h (suc k)) value y m

-- ---- what a thread does

-- The moves lead to the same place, and leave the same but for variables on which nothing depends.
pub record AreMovesAlike (kept : List Bool) (i : ℕ) (m n : Move) : Type 0 where
  pub holders : m.holders ≡ n.holders
  pub look : m.look ≡ n.look
  pub pools : m.pools ≡ n.pools
  pub place : m.place ≡ n.place
  pub many : length m.variables ≡ length n.variables
  pub same : (x : ℕ) → matters kept i x ≡ true → get_or m.variables x (pos 0) ≡ get_or n.variables x (pos 0)

module _ (kept : List Bool) (i : ℕ) (c : Controls) (ts : List Standing) (place : ℕ) (vs us : List ℤ) (many : length vs ≡ length us) (same : (x : ℕ) → matters kept i x ≡ true → get_or vs x (pos 0) ≡ get_or us x (pos 0)) where
  abbrev cu : Controls
  cu = record c { threads = ts }

  abbrev t : Standing
  t = record { place = place; variables = vs }

  abbrev u : Standing
  u = record { place = place; variables = us }

  abbrev AreLikeMoves : Move → Move → Type 0
  AreLikeMoves m n = AreMovesAlike kept i m n

  left : (m n : Move) → m.holders ≡ n.holders → m.look ≡ n.look → m.pools ≡ n.pools → m.place ≡ n.place → m.variables ≡ vs → n.variables ≡ us → AreLikeMoves m n
  left m n holders look pools there mv nv = record {
    holders = holders;
    look = look;
    pools = pools;
    place = there;
    many = ap length mv ∙ many ∙ sym (ap length nv);
    same = λ x k. ap (λ (ws : List ℤ). get_or ws x (pos 0)) mv ∙ same x k ∙ sym (ap (λ (ws : List ℤ). get_or ws x (pos 0)) nv);
  }

  sets : (m n : Move) (x : ℕ) (a b : ℤ) → m.holders ≡ n.holders → m.look ≡ n.look → m.pools ≡ n.pools → m.place ≡ n.place → m.variables ≡ slice_set vs x a → n.variables ≡ slice_set us x b → (matters kept i x ≡ true → a ≡ b) → AreLikeMoves m n
  sets m n x a b holders look pools there mv nv value = record {
    holders = holders;
    look = look;
    pools = pools;
    place = there;
    many = ap length mv ∙ length-set vs x a ∙ many ∙ sym (length-set us x b) ∙ sym (ap length nv);
    same = λ y k. ap (λ (ws : List ℤ). get_or ws y (pos 0)) mv ∙ set_values (matters kept i) vs us x a b many same value y k ∙ sym (ap (λ (ws : List ℤ). get_or ws y (pos 0)) nv);
  }

  plain : (m n : Move) → AreLikeMoves m n → (a : Answer) → IfBoth AreLikeMoves (plainly m a) (plainly n a)
  plain m n h Plain = h
  plain m n h (Number k) = tt
  plain m n h (Byte b) = tt
  plain m n h (Front cqe) = tt

  if_like : (b : Bool) (m n : Option Move) → IfBoth AreLikeMoves m n → IfBoth AreLikeMoves (if b then m else None) (if b then n else None)
  if_like true m n h = h
  if_like false m n h = tt

  operand_like : (o : Operand) → operand_matters kept i o ≡ true → operand_value t o ≡ operand_value u o
  operand_like (Variable x) k = same x k
  operand_like (Literal n) k = refl

  unless : (a b : Bool) → (not a || b) ≡ true → a ≡ true → b ≡ true
  unless true b h e = h
  unless false b h e = absurd (cc)

  both : (a b : Bool) → (a && b) ≡ true → (a ≡ true) × (b ≡ true)
  both true true h = (refl, refl)
  both true false h = absurd (cc)
  both false b h = absurd (cc)

  no_follow : {A : Type 0} → false ≡ true → A
  no_follow h = absurd (cc)

  does_like : (op : Op) → op_follows kept i op ≡ true → (a : Answer) → IfBoth AreLikeMoves (does cu t op a) (does c u op a)
  does_like (Set x n) p a = plain _ _ (sets _ _ x n n refl refl refl refl refl refl (λ _. refl)) a
  does_like (Assign x y) p a = plain _ _ (sets _ _ x (variable t y) (variable u y) refl refl refl refl refl refl (λ k. same y (unless (matters kept i x) (matters kept i y) p k))) a
  does_like (Add x y z) p a =
      plain _ _
      (sets _ _ x (wrapped (operand_value t y +ℤ operand_value t z)) (wrapped (operand_value u y +ℤ operand_value u z)) refl refl refl refl refl refl
      (λ k. let q = both _ _ (unless (matters kept i x) (operand_matters kept i y && operand_matters kept i z) p k) in
      ap (λ n. wrapped (n +ℤ operand_value t z)) (operand_like y q.0) ∙ ap (λ n. wrapped (operand_value u y +ℤ n)) (operand_like z q.1)))
      a
  does_like (Subtract x y z) p a =
      plain _ _
      (sets _ _ x (wrapped (operand_value t y -ℤ operand_value t z)) (wrapped (operand_value u y -ℤ operand_value u z)) refl refl refl refl refl refl
      (λ k. let q = both _ _ (unless (matters kept i x) (operand_matters kept i y && operand_matters kept i z) p k) in
      ap (λ n. wrapped (n -ℤ operand_value t z)) (operand_like y q.0) ∙ ap (λ n. wrapped (operand_value u y -ℤ n)) (operand_like z q.1)))
      a
  does_like (Load x b j) p Plain = tt
  does_like (Load x b j) p (Number n) = tt
  does_like (Load x b j) p (Byte n) = sets _ _ x (pos n) (pos n) refl refl refl refl refl refl (λ _. refl)
  does_like (Load x b j) p (Front cqe) = tt
  does_like (Store b j x) p a = no_follow p
  does_like (Fill b x) p a = no_follow p
  does_like (Print x) p a = plain _ _ (left _ _ refl refl refl refl refl refl) a
  does_like GetSqe p a = plain _ _ (left _ _ refl refl refl refl refl refl) a
  does_like (PrepRead fd b len off) p a = plain _ _ (left _ _ refl refl refl refl refl refl) a
  does_like (PrepWrite fd b len off k) p a = plain _ _ (left _ _ refl refl refl refl refl refl) a
  does_like (PrepFsync fd datasync) p a = plain _ _ (left _ _ refl refl refl refl refl refl) a
  does_like PrepNop p a = plain _ _ (left _ _ refl refl refl refl refl refl) a
  does_like PrepOther p a = plain _ _ (left _ _ refl refl refl refl refl refl) a
  does_like (SetData64 k) p a = plain _ _ (left _ _ refl refl refl refl refl refl) a
  does_like (Submit x) p Plain = tt
  does_like (Submit x) p (Number n) = sets _ _ x n n refl refl refl refl refl refl (λ _. refl)
  does_like (Submit x) p (Byte n) = tt
  does_like (Submit x) p (Front cqe) = tt
  does_like (SubmitAndWait x k) p Plain = tt
  does_like (SubmitAndWait x k) p (Number n) = sets _ _ x n n refl refl refl refl refl refl (λ _. refl)
  does_like (SubmitAndWait x k) p (Byte n) = tt
  does_like (SubmitAndWait x k) p (Front cqe) = tt
  does_like CqeGetData64 p Plain = tt
  does_like CqeGetData64 p (Number n) = tt
  does_like CqeGetData64 p (Byte n) = tt
  does_like CqeGetData64 p (Front cqe) = left _ _ refl refl refl refl refl refl
  does_like CqeSeen p Plain = tt
  does_like CqeSeen p (Number n) = tt
  does_like CqeSeen p (Byte n) = tt
  does_like CqeSeen p (Front cqe) = left _ _ refl refl refl refl refl refl

  module _ (P : Program) (program_made : IsProgram P) where
    -- a list has the same items at the values of both
    same_list : (k : ℕ) → list_at P i t k ≡ list_at P i u k
    same_list k = list_alone P program_made i vs k ∙ sym (list_alone P program_made i us k)

    branch_like : (b : Bool) → AreLikeMoves (branches P cu i t b) (branches P c i u b)
    branch_like b = left _ _ refl refl refl refl refl refl

    takes_like : (pool : Option ℕ) (items : Items) (b : Bool) →
        AreLikeMoves (if b then record (branches P cu i t true) { pools = taken_from P pool items c.pools } else branches P cu i t false) (if b then record (branches P c i u true) { pools = taken_from P pool items c.pools } else branches P c i u false)
    takes_like pool items true = left _ _ refl refl refl refl refl refl
    takes_like pool items false = branch_like false

    decides_like : (test : Test) → test_follows kept i test ≡ true → (a : Answer) → IfBoth AreLikeMoves (controls.decides P cu i t test a) (controls.decides P c i u test a)
    decides_like (Compare x comparison n) p a =
        subst
        (λ b. IfBoth AreLikeMoves (plainly (branches P cu i t (compares comparison (variable t x) n)) a) (plainly (branches P c i u b) a))
        (ap (λ v. compares comparison v n) (same x p))
        (plain _ _ (branch_like (compares comparison (variable t x) n)) a)
    decides_like ReadyZero p Plain = tt
    decides_like ReadyZero p (Number n) = branch_like _
    decides_like ReadyZero p (Byte b) = tt
    decides_like ReadyZero p (Front cqe) = tt
    decides_like (SpaceAtLeast m) p Plain = tt
    decides_like (SpaceAtLeast m) p (Number n) = branch_like _
    decides_like (SpaceAtLeast m) p (Byte b) = tt
    decides_like (SpaceAtLeast m) p (Front cqe) = tt
    decides_like (Take pool k) p a =
        let items : Items = list_at P i u k in
        subst (λ (x : Items). IfBoth AreLikeMoves (plainly (controls.tries_to_take P cu i t pool x) a) (plainly (controls.tries_to_take P c i u pool items) a)) (sym (same_list k)) (plain _ _ (takes_like pool items (includes P (pool_of c.pools pool) items)) a)
    decides_like Any p Plain = tt
    decides_like Any p (Number n) = if_like (is_choice n) _ _ (branch_like _)
    decides_like Any p (Byte b) = tt
    decides_like Any p (Front cqe) = tt

    pub acts_like : (s : Stmt) → stmt_follows kept i s ≡ true → (a : Answer) → IfBoth AreLikeMoves (acts P cu i t s a) (acts P c i u s a)
    acts_like (Do op) p a = does_like op p a
    acts_like (Put pool k) p a =
        let items : Items = list_at P i u k in
        subst (λ (x : Items). IfBoth AreLikeMoves (controls.puts_items P cu t pool x a) (controls.puts_items P c u pool items a)) (sym (same_list k)) (puts items (overfills P (all_pooled P c.pools) items))
      where
        puts : (items : Items) (b : Bool) → IfBoth AreLikeMoves (if b then None else plainly (record (goes_on cu t ItemsPut) { pools = put_into P pool items c.pools }) a) (if b then None else plainly (record (goes_on c u ItemsPut) { pools = put_into P pool items c.pools }) a)
        puts items true = tt
        puts items false = plain _ _ (left _ _ refl refl refl refl refl refl) a
    acts_like (Lock wanted) p a = if_like (controls.are_free wanted c.holders) _ _ (plain _ _ (left _ _ refl refl refl refl refl refl) a)
    acts_like (EndLock o released) p a = plain _ _ (left _ _ refl refl refl refl refl refl) a
    acts_like (If test) p a = decides_like test p a
    acts_like (Else o) p a = tt
    acts_like (EndIf o) p a = tt
    acts_like (Peek x) p Plain = sets _ _ x (negsuc 10) (negsuc 10) refl refl refl refl refl refl (λ _. refl)
    acts_like (Peek x) p (Number n) = tt
    acts_like (Peek x) p (Byte b) = tt
    acts_like (Peek x) p (Front cqe) = sets _ _ x cqe.res cqe.res refl refl refl refl refl refl (λ _. refl)
    acts_like (Case o k) p a = tt
    acts_like (Other o) p a = tt
    acts_like (Nothing o) p a = tt
    acts_like (EndArm o) p a = tt
    acts_like (EndPeek o) p a = tt
    acts_like (Loop k) p a = plain _ _ (left _ _ refl refl refl refl refl refl) a
    acts_like (EndLoop o k) p a = plain _ _ (left _ _ refl refl refl refl refl refl) a
    acts_like (Break o releases leaves) p a = plain _ _ (left _ _ refl refl refl refl refl refl) a
