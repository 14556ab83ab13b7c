-- What a line says, form by form, given what is in its places.
use Rattle.std.specs.Prelude.{ℕ, ◌*◌, ◌==◌, true, false, List, [], ◌∷◌, slice_get, Option, Some, None, unwrap_or, ℤ, pos}
use Rattle.rc_lang.specs.declared.lines.Comparison.{Comparison}
use Rattle.rc_lang.specs.declared.lines.Comparison.TheVariants.{Equal}
use Rattle.rc_lang.specs.declared.lines.Op.TheVariants as op
use Rattle.rc_lang.specs.declared.lines.Operand.{Operand as OperandOf}
use Rattle.rc_lang.specs.declared.lines.Operand.TheVariants.{Variable, Number}
use Rattle.rc_lang.specs.declared.lines.Test.TheVariants as test
use Rattle.rc_lang.specs.declared.program.TokenKind.{TokenKind}
use Rattle.rc_lang.specs.declared.program.TokenKind.TheVariants as kind
use Rattle.rc_lang.specs.Locks.{both_locks}
use Rattle.rc_read.specs.declared.says.Says.{Says}
use Rattle.rc_read.specs.declared.says.Says.TheVariants as says
use Rattle.rc_read.specs.declared.table.Row.{Row}
use Rattle.rc_read.specs.declared.table.Row.TheVariants as row
use Rattle.rc_read.specs.declared.values.Value.{Value}
use Rattle.rc_read.specs.declared.values.Value.TheVariants.{Small, UserData, Named, Operand, Compares}
use Rattle.rc_read.specs.Values.{kinds_named, rounded_up}

abbrev pub as_small : Option Value → ℕ
as_small (Some (Small n)) = n
as_small _ = 0

abbrev pub as_user_data : Option Value → ℕ
as_user_data (Some (UserData u)) = u
as_user_data _ = 0

abbrev pub as_named : Option Value → ℕ
as_named (Some (Named n)) = n
as_named _ = 0

abbrev pub as_operand : Option Value → OperandOf
as_operand (Some (Operand o)) = o
as_operand _ = Number (pos 0)

abbrev pub as_signed : Option Value → ℤ
as_signed (Some (Operand (Number n))) = n
as_signed _ = pos 0

abbrev pub as_comparison : Option Value → Comparison
as_comparison (Some (Compares c)) = c
as_comparison _ = Equal

-- what the place at index i says
abbrev pub small : List Value → ℕ → ℕ
small v i = as_small (slice_get v i)

abbrev pub user_data : List Value → ℕ → ℕ
user_data v i = as_user_data (slice_get v i)

abbrev pub named : List Value → ℕ → ℕ
named v i = as_named (slice_get v i)

abbrev pub operand : List Value → ℕ → OperandOf
operand v i = as_operand (slice_get v i)

abbrev pub signed : List Value → ℕ → ℤ
signed v i = as_signed (slice_get v i)

abbrev pub comparison : List Value → ℕ → Comparison
comparison v i = as_comparison (slice_get v i)

-- Rings of these sizes. Without a size of its own a completion ring has twice as many entries as the
-- submission ring (io_uring_setup(2)).
abbrev pub with_rings : (size left : ℕ) → Says
with_rings size left = says.Ring (record { entries = rounded_up size; completion_entries = 2 * rounded_up size; left = left })

abbrev pub with_both : (size completion_size left : ℕ) → Says
with_both size completion_size left = says.Ring (record { entries = rounded_up size; completion_entries = rounded_up completion_size; left = left })

-- `x = A`, by what A is
abbrev pub sets : ℕ → OperandOf → Says
sets x (Variable y) = says.Op (op.Assign x y)
sets x (Number n) = says.Op (op.Set x n)

-- a token of one kind, and one of one to four
abbrev pub of_one : ℕ → TokenKind → Says
of_one u kind = says.Token (record { user_data = u; kind = kind; others = None ∷ None ∷ None ∷ [] })

abbrev pub of_kinds : ℕ → List TokenKind → Says
of_kinds u kinds = says.Token (record { user_data = u; kind = unwrap_or (slice_get kinds 0) kind.Nop; others = slice_get kinds 1 ∷ slice_get kinds 2 ∷ slice_get kinds 3 ∷ [] })

abbrev pub says_of : Row → List Value → Says
says_of row.Version v = says.Version 1
says_of row.SecondVersion v = says.Version 2
says_of row.ThirdVersion v = says.Version 3
says_of row.FourthVersion v = says.Version 4
says_of row.FifthVersion v = says.Version 5
says_of row.Ring v = with_rings (small v 0) 0
says_of row.RingCq v = with_both (small v 0) (small v 1) 0
says_of row.RingLeft v = with_rings (small v 0) (small v 1)
says_of row.RingCqLeft v = with_both (small v 0) (small v 1) (small v 2)
says_of row.File v = says.File (record { number = small v 0; len = small v 1 })
says_of row.Buffer v = says.Buffer (small v 1) (small v 2)
says_of row.TokenRead v = of_one (user_data v 0) (kind.Read (named v 1))
says_of row.TokenWrite v = of_one (user_data v 0) (kind.Write (named v 1) (small v 2))
says_of row.TokenFsync v = of_one (user_data v 0) kind.Fsync
says_of row.TokenNop v = of_one (user_data v 0) kind.Nop
says_of row.TokenOther v = of_one (user_data v 0) kind.Other
says_of row.TokenKinds v = of_kinds (user_data v 0) (kinds_named v)
says_of row.Pool v = says.Pool
says_of row.PoolStock v = says.PoolStock
says_of row.UnnamedStock v = says.UnnamedStock
says_of row.Thread v = says.Thread None
says_of row.Threads v = says.Thread (Some (small v 1))
says_of row.Set v = sets (named v 0) (operand v 1)
says_of row.Add v = says.Op (op.Add (named v 0) (operand v 1) (operand v 2))
says_of row.Subtract v = says.Op (op.Subtract (named v 0) (operand v 1) (operand v 2))
says_of row.Load v = says.Op (op.Load (named v 0) (named v 1) (small v 2))
says_of row.Store v = says.Op (op.Store (named v 0) (small v 1) (named v 2))
says_of row.Fill v = says.Op (op.Fill (named v 0) (named v 1))
says_of row.Print v = says.Op (op.Print (named v 0))
says_of row.Put v = says.Put None
says_of row.PutNamed v = says.Put (Some (named v 0))
says_of row.Lock v = says.Lock both_locks
says_of row.LockSq v = says.Lock (record { sq = true; cq = false })
says_of row.LockCq v = says.Lock (record { sq = false; cq = true })
says_of row.GetSqe v = says.Op op.GetSqe
says_of row.PrepRead v = says.Op (op.PrepRead (small v 0) (named v 1) (small v 2) (small v 3))
says_of row.PrepWrite v = says.Op (op.PrepWrite (small v 0) (named v 1) (small v 2) (small v 3) (small v 4))
says_of row.PrepFsync v = says.Op (op.PrepFsync (small v 0) (small v 1 == 1))
says_of row.PrepNop v = says.Op op.PrepNop
says_of row.PrepOther v = says.Op op.PrepOther
says_of row.SetData64 v = says.Op (op.SetData64 (user_data v 0))
says_of row.Submit v = says.Op (op.Submit (named v 0))
says_of row.SubmitAndWait v = says.Op (op.SubmitAndWait (named v 0) (small v 1))
says_of row.CqeGetData64 v = says.Op op.CqeGetData64
says_of row.CqeSeen v = says.Op op.CqeSeen
says_of row.Peek v = says.Peek (named v 0)
says_of row.Case v = says.Case (user_data v 0)
says_of row.Other v = says.Other
says_of row.Nothing v = says.Nothing
says_of row.If v = says.If (test.Compare (named v 0) (comparison v 1) (signed v 2))
says_of row.IfReady v = says.If test.ReadyZero
says_of row.IfSpace v = says.If (test.SpaceAtLeast (small v 0))
says_of row.IfTake v = says.Take None
says_of row.IfTakeNamed v = says.Take (Some (named v 0))
says_of row.IfAny v = says.If test.Any
says_of row.Else v = says.Else
says_of row.Loop v = says.Loop
says_of row.LoopWhen v = says.Loop
says_of row.Break v = says.Break
says_of row.Close v = says.Close

abbrev pub says_by : Option Row → List Value → Says
says_by None v = says.Close
says_by (Some row) v = says_of row v
