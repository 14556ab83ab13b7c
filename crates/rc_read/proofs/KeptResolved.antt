-- What is resolved stays so, where there are more variables and lists of items.
use Rattle.std.proofs.Common.{ℕ, ◌<◌, ◌≤◌, arith}
use Rattle.rc_lang.specs.declared.lines.Op.{Op}
use Rattle.rc_lang.specs.declared.lines.Op.TheVariants.{Set, Assign, Add, Subtract, Load, Store, Fill, Print, Submit, SubmitAndWait}
use Rattle.rc_lang.specs.declared.lines.Operand.{Operand}
use Rattle.rc_lang.specs.declared.lines.Operand.TheVariants.{Variable, Number}
use Rattle.rc_lang.specs.declared.lines.Stmt.{Stmt}
use Rattle.rc_lang.specs.declared.lines.Stmt.TheVariants.{Do, Put, If, Peek, Loop, EndLoop}
use Rattle.rc_lang.specs.declared.lines.Test.TheVariants.{Compare, Take}
use Rattle.rc_lang.specs.Program.{Program}
use Rattle.rc_lang.specs.Resolved.{IsOperand, IsResolved, IsResolvedOp}

module _ (p : Program) (m n a b : ℕ) (more : m ≤ n) (lists : a ≤ b) where
  below : (x : ℕ) → x < m → x < n
  below x lt = omega arith

  fewer : (k : ℕ) → k < a → k < b
  fewer k lt = omega arith

  operand_on : (o : Operand) → IsOperand m o → IsOperand n o
  operand_on (Variable x) h = below x h
  operand_on (Number k) h = tt

  op_on : (op : Op) → IsResolvedOp p m op → IsResolvedOp p n op
  op_on (Set x k) h = below x h
  op_on (Assign x y) h = (below x h.0, below y h.1)
  op_on (Add x y z) h = (below x h.0, operand_on y h.1, operand_on z h.2)
  op_on (Subtract x y z) h = (below x h.0, operand_on y h.1, operand_on z h.2)
  op_on (Load x i k) h = (below x h.0, h.1, h.2)
  op_on (Store i k x) h = (h.0, h.1, below x h.2)
  op_on (Fill i x) h = (h.0, below x h.1)
  op_on (Print x) h = below x h
  op_on (Submit x) h = below x h
  op_on (SubmitAndWait x k) h = (below x h.0, h.1)
  op_on op h = h

  pub resolved_on : (s : Stmt) → IsResolved p m a s → IsResolved p n b s
  resolved_on (Do op) h = op_on op h
  resolved_on (If (Compare x c k)) h = below x h
  resolved_on (If (Take pool k)) h = (h.0, fewer k h.1)
  resolved_on (If test) h = h
  resolved_on (Put pool k) h = (h.0, fewer k h.1)
  resolved_on (Peek x) h = below x h
  resolved_on (Loop k) h = fewer k h
  resolved_on (EndLoop o k) h = fewer k h
  resolved_on s h = h
