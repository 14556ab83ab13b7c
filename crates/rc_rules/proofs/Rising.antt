-- The numbers of a line's needs never fall.
use Rattle.std.proofs.Common.{◌≡◌, ℕ, Bool, true, false, Option, Some, None, List, [], ◌∷◌, ◌++◌, refl, ap, ◌∙◌, arith}
use Rattle.rc_lang.specs.declared.lines.Locks.{Locks}
use Rattle.rc_lang.specs.declared.lines.Op.{Op}
use Rattle.rc_lang.specs.declared.lines.Op.TheVariants as ops
use Rattle.rc_lang.specs.declared.lines.Stmt.{Stmt}
use Rattle.rc_lang.specs.declared.lines.Stmt.TheVariants as stmts
use Rattle.rc_lang.specs.declared.lines.Stmt.TheVariants.{Do, Put, EndLock, If, EndIf, Peek, EndArm, EndPeek, EndLoop, Break}
use Rattle.rc_lang.specs.declared.lines.Test.{Test}
use Rattle.rc_lang.specs.declared.lines.Test.TheVariants.{Compare, Take, Any}
use Rattle.rc_lang.specs.Program.{Program, Items, items_at}
use Rattle.rc_split.specs.Bags.{Part}
use Rattle.rc_rules.specs.declared.mode.Mode.{Mode}
use Rattle.rc_rules.specs.Labels.{Label, Dead, Live}
use Rattle.rc_rules.specs.Needs.{AreOrdered, line_premises}
use Rattle.rc_rules.specs.Premises.{Premise}
use Rattle.rc_rules.specs.Rules.{asked, asks, asks_both, leave_needs, premises_of, release_needs, stmt_needs}

leave_ordered : (releases : Bool) → AreOrdered 0 (leave_needs releases)
leave_ordered true = (omega arith, (omega arith, (omega arith, tt)))
leave_ordered false = (omega arith, (omega arith, tt))

release_ordered : (sq cq : Bool) → AreOrdered 0 (release_needs sq cq)
release_ordered true true = (omega arith, (omega arith, (omega arith, tt)))
release_ordered true false = (omega arith, (omega arith, tt))
release_ordered false true = (omega arith, tt)
release_ordered false false = tt

pub ordered : (s : Stmt) → AreOrdered 0 (stmt_needs s)
ordered (Do (ops.Load x b i)) = (omega arith, (omega arith, tt))
ordered (Do (ops.Store b i x)) = (omega arith, (omega arith, tt))
ordered (Do (ops.Fill b x)) = (omega arith, tt)
ordered (Do ops.GetSqe) = (omega arith, (omega arith, (omega arith, (omega arith, tt))))
ordered (Do (ops.PrepRead fd b len off)) = (omega arith, (omega arith, (omega arith, (omega arith, tt))))
ordered (Do (ops.PrepWrite fd b len off k)) = (omega arith, (omega arith, (omega arith, (omega arith, tt))))
ordered (Do (ops.PrepFsync fd datasync)) = (omega arith, (omega arith, tt))
ordered (Do ops.PrepNop) = (omega arith, (omega arith, tt))
ordered (Do ops.PrepOther) = (omega arith, (omega arith, tt))
ordered (Do (ops.SetData64 u)) = (omega arith, (omega arith, (omega arith, (omega arith, tt))))
ordered (Do (ops.Submit x)) = (omega arith, (omega arith, tt))
ordered (Do (ops.SubmitAndWait x n)) = (omega arith, (omega arith, tt))
ordered (Do ops.CqeGetData64) = (omega arith, (omega arith, tt))
ordered (Do ops.CqeSeen) = (omega arith, (omega arith, tt))
ordered (Do _) = tt
ordered (Put None k) = (omega arith, (omega arith, (omega arith, tt)))
ordered (Put (Some n) k) = (omega arith, tt)
ordered (EndLock o l) = release_ordered l.sq l.cq
ordered (If (Compare x c n)) = tt
ordered (If (Take None k)) = (omega arith, (omega arith, tt))
ordered (If (Take (Some n) k)) = tt
ordered (If Any) = tt
ordered (If _) = (omega arith, tt)
ordered (EndIf o) = (omega arith, tt)
ordered (Peek x) = (omega arith, (omega arith, tt))
ordered (EndArm o) = (omega arith, tt)
ordered (EndPeek o) = (omega arith, tt)
ordered (stmts.Loop k) = (omega arith, (omega arith, tt))
ordered (EndLoop o k) = (omega arith, (omega arith, tt))
ordered (Break o releases leaves) = leave_ordered releases.sq
ordered _ = tt

-- ---- lines that name no list, and need the same on both sides

pub op_same : (P : Program) (lists : List Items) (z : Bool) (bag : Part → ℕ) (m : Mode) (op : Op) → premises_of P lists z bag m (stmt_needs (Do op)) ≡ line_premises P [] bag m (Do op)
op_same P lists z bag m (ops.Load x b i) = refl
op_same P lists z bag m (ops.Store b i x) = refl
op_same P lists z bag m (ops.Fill b x) = refl
op_same P lists z bag m ops.GetSqe = refl
op_same P lists z bag m (ops.PrepRead fd b len off) = refl
op_same P lists z bag m (ops.PrepWrite fd b len off k) = refl
op_same P lists z bag m (ops.PrepFsync fd datasync) = refl
op_same P lists z bag m ops.PrepNop = refl
op_same P lists z bag m ops.PrepOther = refl
op_same P lists z bag m (ops.SetData64 u) = refl
op_same P lists z bag m (ops.Submit x) = refl
op_same P lists z bag m (ops.SubmitAndWait x n) = refl
op_same P lists z bag m ops.CqeGetData64 = refl
op_same P lists z bag m ops.CqeSeen = refl
op_same P lists z bag m _ = refl

left_same : (P : Program) (lists : List Items) (z : Bool) (bag : Part → ℕ) (m : Mode) (releases : Bool) → premises_of P lists z bag m (leave_needs releases) ≡ premises_of P [] true bag m (leave_needs releases)
left_same P lists z bag m true = refl
left_same P lists z bag m false = refl

pub leave_same : (P : Program) (lists : List Items) (z : Bool) (bag : Part → ℕ) (m : Mode) (o : ℕ) (releases : Locks) (leaves : Bool) → premises_of P lists z bag m (stmt_needs (Break o releases leaves)) ≡ line_premises P [] bag m (Break 0 releases false)
leave_same P lists z bag m o releases leaves = left_same P lists z bag m releases.sq

release_same : (P : Program) (lists : List Items) (z : Bool) (bag : Part → ℕ) (m : Mode) (sq cq : Bool) → premises_of P lists z bag m (release_needs sq cq) ≡ premises_of P [] true bag m (release_needs sq cq)
release_same P lists z bag m true true = refl
release_same P lists z bag m true false = refl
release_same P lists z bag m false true = refl
release_same P lists z bag m false false = refl

put_same : (P : Program) (lists : List Items) (z : Bool) (bag : Part → ℕ) (m : Mode) (pool : Option ℕ) (k : ℕ) → premises_of P lists z bag m (stmt_needs (Put pool k)) ≡ line_premises P (items_at lists k ∷ []) bag m (Put pool 0)
put_same P lists z bag m None k = refl
put_same P lists z bag m (Some n) k = refl

pub test_same : (P : Program) (lists : List Items) (z : Bool) (bag : Part → ℕ) (m : Mode) (test : Test) → premises_of P lists z bag m (stmt_needs (If test)) ≡ line_premises P [] bag m (If test)
test_same P lists z bag m (Compare x c n) = refl
test_same P lists z bag m (Take None k) = refl
test_same P lists z bag m (Take (Some n) k) = refl
test_same P lists z bag m _ = refl

side_same : (s : Label) (F G : (Part → ℕ) → Mode → List (ℕ × Premise)) → ((bag : Part → ℕ) (m : Mode) → F bag m ≡ G bag m) → asks s F ≡ asks s G
side_same Dead F G h = refl
side_same (Live bag m) F G h = h bag m

pub asks_same : (labels : Bool → Label) (F G : Bool → (Part → ℕ) → Mode → List (ℕ × Premise)) → ((z : Bool) (bag : Part → ℕ) (m : Mode) → F z bag m ≡ G z bag m) → asks_both labels F ≡ asks_both labels G
asks_same labels F G h = ap (λ ps. ps ++ asks (labels false) (F false)) (side_same (labels true) (F true) (G true) (h true)) ∙ ap (λ ps. asks (labels true) (G true) ++ ps) (side_same (labels false) (F false) (G false) (h false))

pub op_asked : (P : Program) (lists : List Items) (labels : Bool → Label) (op : Op) → asked P lists labels (Do op) ≡ asks_both labels (λ z bag m. line_premises P [] bag m (Do op))
op_asked P lists labels op = asks_same labels _ _ (λ z bag m. op_same P lists z bag m op)

pub leave_asked : (P : Program) (lists : List Items) (labels : Bool → Label) (o : ℕ) (releases : Locks) (leaves : Bool) → asked P lists labels (Break o releases leaves) ≡ asks_both labels (λ z bag m. line_premises P [] bag m (Break 0 releases false))
leave_asked P lists labels o releases leaves = asks_same labels _ _ (λ z bag m. leave_same P lists z bag m o releases leaves)

pub release_asked : (P : Program) (lists : List Items) (labels : Bool → Label) (o : ℕ) (l : Locks) → asked P lists labels (EndLock o l) ≡ asks_both labels (λ z bag m. line_premises P [] bag m (EndLock 0 l))
release_asked P lists labels o l = asks_same labels _ _ (λ z bag m. release_same P lists z bag m l.sq l.cq)

pub put_asked : (P : Program) (lists : List Items) (labels : Bool → Label) (pool : Option ℕ) (k : ℕ) → asked P lists labels (Put pool k) ≡ asks_both labels (λ z bag m. line_premises P (items_at lists k ∷ []) bag m (Put pool 0))
put_asked P lists labels pool k = asks_same labels _ _ (λ z bag m. put_same P lists z bag m pool k)

pub test_asked : (P : Program) (lists : List Items) (labels : Bool → Label) (test : Test) → asked P lists labels (If test) ≡ asks_both labels (λ z bag m. line_premises P [] bag m (If test))
test_asked P lists labels test = asks_same labels _ _ (λ z bag m. test_same P lists z bag m test)
