-- The notation's forms: one row for each, with the parts that are in it, from the left, from which version on it is a
-- form, and where in a model it may be.
use Rattle.std.specs.Prelude.{ℕ, List, [], ◌∷◌, ◌++◌, codes}
use Rattle.rc_read.specs.declared.table.Part.{Part}
use Rattle.rc_read.specs.declared.table.Part.TheVariants.{Fixed, Variable, Operand, Comparison, Signed, Number, File, Buffer, Token, Pool, NewFile, NewBuffer, NewToken, NewPool, NewThread, NewThreads, Items, Flag, Kinds}
use Rattle.rc_read.specs.declared.table.Range.TheVariants.{Within, Size, CompletionSize, Rounded, Entries, Shares}
use Rattle.rc_read.specs.declared.table.Row.{Row}
use Rattle.rc_read.specs.declared.table.Row.TheVariants as row
use Rattle.rc_read.specs.declared.table.Stand.{Stand}
use Rattle.rc_read.specs.declared.table.Stand.TheVariants as stand
use Rattle.rc_read.specs.declared.fixed.Word.{Word}
use Rattle.rc_read.specs.declared.fixed.Word.TheVariants as words

-- ---- fixed words

abbrev pub text_of : Word → List ℕ
text_of words.Ringcheck = codes "ringcheck"
text_of words.One = codes "1"
text_of words.Two = codes "2"
text_of words.Three = codes "3"
text_of words.Four = codes "4"
text_of words.Five = codes "5"
text_of words.Ring = codes "ring"
text_of words.Cq = codes "cq"
text_of words.Left = codes "left"
text_of words.File = codes "file"
text_of words.Buffer = codes "buffer"
text_of words.Token = codes "token"
text_of words.Pool = codes "pool"
text_of words.Read = codes "read"
text_of words.Write = codes "write"
text_of words.Fsync = codes "fsync"
text_of words.Nop = codes "nop"
text_of words.Or = codes "or"
text_of words.Thread = codes "thread"
text_of words.Holds = codes "holds"
text_of words.Open = codes "{"
text_of words.Close = codes "}"
text_of words.Is = codes "="
text_of words.Plus = codes "+"
text_of words.Minus = codes "-"
text_of words.Load = codes "load"
text_of words.Store = codes "store"
text_of words.Fill = codes "fill"
text_of words.Print = codes "print"
text_of words.Lock = codes "lock"
text_of words.Sq = codes "sq"
text_of words.GetSqe = codes "get_sqe"
text_of words.PrepRead = codes "prep_read"
text_of words.PrepWrite = codes "prep_write"
text_of words.PrepFsync = codes "prep_fsync"
text_of words.PrepNop = codes "prep_nop"
text_of words.PrepOther = codes "prep_other"
text_of words.SetData64 = codes "set_data64"
text_of words.Submit = codes "submit"
text_of words.SubmitAndWait = codes "submit_and_wait"
text_of words.CqeGetData64 = codes "cqe_get_data64"
text_of words.CqeSeen = codes "cqe_seen"
text_of words.PeekCqe = codes "peek_cqe"
text_of words.Case = codes "case"
text_of words.Other = codes "other"
text_of words.Nothing = codes "none"
text_of words.If = codes "if"
text_of words.SqReady = codes "sq_ready"
text_of words.Equal = codes "=="
text_of words.Zero = codes "0"
text_of words.SqSpaceLeft = codes "sq_space_left"
text_of words.AtLeast = codes ">="
text_of words.Else = codes "else"
text_of words.Loop = codes "loop"
text_of words.Keeps = codes "keeps"
text_of words.When = codes "when"
text_of words.Break = codes "break"
text_of words.Put = codes "put"
text_of words.Take = codes "take"
text_of words.Any = codes "any"

-- ---- the table

abbrev pub parts_of : Row → List Part
parts_of row.Version = Fixed words.Ringcheck ∷ Fixed words.One ∷ []
parts_of row.SecondVersion = Fixed words.Ringcheck ∷ Fixed words.Two ∷ []
parts_of row.ThirdVersion = Fixed words.Ringcheck ∷ Fixed words.Three ∷ []
parts_of row.FourthVersion = Fixed words.Ringcheck ∷ Fixed words.Four ∷ []
parts_of row.FifthVersion = Fixed words.Ringcheck ∷ Fixed words.Five ∷ []
parts_of row.Ring = Fixed words.Ring ∷ Number Size ∷ []
parts_of row.RingCq = Fixed words.Ring ∷ Number Size ∷ Fixed words.Cq ∷ Number CompletionSize ∷ []
parts_of row.RingLeft = Fixed words.Ring ∷ Number Size ∷ Fixed words.Left ∷ Number Rounded ∷ []
parts_of row.RingCqLeft = Fixed words.Ring ∷ Number Size ∷ Fixed words.Cq ∷ Number CompletionSize ∷ Fixed words.Left ∷ Number Rounded ∷ []
parts_of row.File = Fixed words.File ∷ NewFile ∷ Number (Within 0 65536) ∷ []
parts_of row.Buffer = Fixed words.Buffer ∷ NewBuffer ∷ Number (Within 1 4096) ∷ Number (Within 1 16) ∷ []
parts_of row.TokenRead = Fixed words.Token ∷ NewToken ∷ Fixed words.Read ∷ Buffer ∷ []
parts_of row.TokenWrite = Fixed words.Token ∷ NewToken ∷ Fixed words.Write ∷ Buffer ∷ Number Shares ∷ []
parts_of row.TokenFsync = Fixed words.Token ∷ NewToken ∷ Fixed words.Fsync ∷ []
parts_of row.TokenNop = Fixed words.Token ∷ NewToken ∷ Fixed words.Nop ∷ []
parts_of row.TokenOther = Fixed words.Token ∷ NewToken ∷ Fixed words.Other ∷ []
parts_of row.TokenKinds = Fixed words.Token ∷ NewToken ∷ Kinds ∷ []
parts_of row.Pool = Fixed words.Pool ∷ NewPool ∷ []
parts_of row.PoolStock = Fixed words.Pool ∷ NewPool ∷ Fixed words.Holds ∷ Items ∷ []
parts_of row.UnnamedStock = Fixed words.Pool ∷ Fixed words.Holds ∷ Items ∷ []
parts_of row.Thread = Fixed words.Thread ∷ NewThread ∷ Fixed words.Holds ∷ Items ∷ Fixed words.Open ∷ []
parts_of row.Threads = Fixed words.Thread ∷ NewThreads ∷ Fixed words.Holds ∷ Items ∷ Fixed words.Open ∷ []
parts_of row.Set = Variable ∷ Fixed words.Is ∷ Operand ∷ []
parts_of row.Add = Variable ∷ Fixed words.Is ∷ Operand ∷ Fixed words.Plus ∷ Operand ∷ []
parts_of row.Subtract = Variable ∷ Fixed words.Is ∷ Operand ∷ Fixed words.Minus ∷ Operand ∷ []
parts_of row.Load = Variable ∷ Fixed words.Is ∷ Fixed words.Load ∷ Buffer ∷ Number (Within 0 4095) ∷ []
parts_of row.Store = Fixed words.Store ∷ Buffer ∷ Number (Within 0 4095) ∷ Variable ∷ []
parts_of row.Fill = Fixed words.Fill ∷ Buffer ∷ Variable ∷ []
parts_of row.Print = Fixed words.Print ∷ Variable ∷ []
parts_of row.Put = Fixed words.Put ∷ Items ∷ []
parts_of row.PutNamed = Fixed words.Put ∷ Pool ∷ Items ∷ []
parts_of row.Lock = Fixed words.Lock ∷ Fixed words.Open ∷ []
parts_of row.LockSq = Fixed words.Lock ∷ Fixed words.Sq ∷ Fixed words.Open ∷ []
parts_of row.LockCq = Fixed words.Lock ∷ Fixed words.Cq ∷ Fixed words.Open ∷ []
parts_of row.GetSqe = Fixed words.GetSqe ∷ []
parts_of row.PrepRead = Fixed words.PrepRead ∷ File ∷ Buffer ∷ Number (Within 0 4096) ∷ Number (Within 0 1048576) ∷ []
parts_of row.PrepWrite = Fixed words.PrepWrite ∷ File ∷ Buffer ∷ Number (Within 0 4096) ∷ Number (Within 0 1048576) ∷ Number Shares ∷ []
parts_of row.PrepFsync = Fixed words.PrepFsync ∷ File ∷ Number (Within 0 1) ∷ []
parts_of row.PrepNop = Fixed words.PrepNop ∷ []
parts_of row.PrepOther = Fixed words.PrepOther ∷ []
parts_of row.SetData64 = Fixed words.SetData64 ∷ Token ∷ []
parts_of row.Submit = Variable ∷ Fixed words.Is ∷ Fixed words.Submit ∷ []
parts_of row.SubmitAndWait = Variable ∷ Fixed words.Is ∷ Fixed words.SubmitAndWait ∷ Number (Within 0 2048) ∷ []
parts_of row.CqeGetData64 = Fixed words.CqeGetData64 ∷ []
parts_of row.CqeSeen = Fixed words.CqeSeen ∷ []
parts_of row.Peek = Fixed words.PeekCqe ∷ Variable ∷ Fixed words.Open ∷ []
parts_of row.Case = Fixed words.Case ∷ Token ∷ Fixed words.Open ∷ []
parts_of row.Other = Fixed words.Other ∷ Fixed words.Open ∷ []
parts_of row.Nothing = Fixed words.Nothing ∷ Fixed words.Open ∷ []
parts_of row.If = Fixed words.If ∷ Variable ∷ Comparison ∷ Signed ∷ Fixed words.Open ∷ []
parts_of row.IfReady = Fixed words.If ∷ Fixed words.SqReady ∷ Fixed words.Equal ∷ Fixed words.Zero ∷ Fixed words.Open ∷ []
parts_of row.IfSpace = Fixed words.If ∷ Fixed words.SqSpaceLeft ∷ Fixed words.AtLeast ∷ Number Entries ∷ Fixed words.Open ∷ []
parts_of row.IfTake = Fixed words.If ∷ Fixed words.Take ∷ Items ∷ Fixed words.Open ∷ []
parts_of row.IfTakeNamed = Fixed words.If ∷ Fixed words.Take ∷ Pool ∷ Items ∷ Fixed words.Open ∷ []
parts_of row.IfAny = Fixed words.If ∷ Fixed words.Any ∷ Fixed words.Open ∷ []
parts_of row.Else = Fixed words.Close ∷ Fixed words.Else ∷ Fixed words.Open ∷ []
parts_of row.Loop = Fixed words.Loop ∷ Fixed words.Keeps ∷ Items ∷ Fixed words.Open ∷ []
parts_of row.LoopWhen = Fixed words.Loop ∷ Fixed words.Keeps ∷ Items ∷ Fixed words.When ∷ Flag ∷ Items ∷ Fixed words.Open ∷ []
parts_of row.Break = Fixed words.Break ∷ []
parts_of row.Close = Fixed words.Close ∷ []

-- The version of the notation from which on a form is in models.
abbrev pub version_of : Row → ℕ
version_of row.LoopWhen = 2
version_of row.Put = 3
version_of row.IfTake = 3
version_of row.Pool = 4
version_of row.PutNamed = 4
version_of row.LockSq = 4
version_of row.LockCq = 4
version_of row.IfTakeNamed = 4
version_of row.TokenOther = 5
version_of row.TokenKinds = 5
version_of row.PrepOther = 5
version_of row.CqeGetData64 = 5
version_of row.IfAny = 5
version_of row.Threads = 5
version_of row.PoolStock = 5
version_of row.UnnamedStock = 5
version_of _ = 1

abbrev pub stand_of : Row → Stand
stand_of row.Version = stand.First
stand_of row.SecondVersion = stand.First
stand_of row.ThirdVersion = stand.First
stand_of row.FourthVersion = stand.First
stand_of row.FifthVersion = stand.First
stand_of row.Ring = stand.Second
stand_of row.RingCq = stand.Second
stand_of row.RingLeft = stand.Second
stand_of row.RingCqLeft = stand.Second
stand_of row.File = stand.Declaration
stand_of row.Buffer = stand.Declaration
stand_of row.TokenRead = stand.Declaration
stand_of row.TokenWrite = stand.Declaration
stand_of row.TokenFsync = stand.Declaration
stand_of row.TokenNop = stand.Declaration
stand_of row.TokenOther = stand.Declaration
stand_of row.TokenKinds = stand.Declaration
stand_of row.Pool = stand.Declaration
stand_of row.PoolStock = stand.Declaration
stand_of row.UnnamedStock = stand.Declaration
stand_of row.Thread = stand.Header
stand_of row.Threads = stand.Header
stand_of row.Else = stand.Brace
stand_of row.Close = stand.Brace
stand_of _ = stand.Inside

-- The forms whose first word is fixed, those that begin with a variable, and all, in the order in which they are tried.
abbrev pub fixed_rows : List Row
fixed_rows =
    row.Close ∷ row.Else ∷ row.Break ∷ row.GetSqe ∷ row.CqeSeen ∷ row.Case ∷ row.CqeGetData64 ∷ row.PrepNop ∷ row.PrepOther ∷ row.Peek ∷ row.Print ∷ row.PrepRead ∷ row.PrepWrite
    ∷ row.PrepFsync ∷ row.Put ∷ row.PutNamed ∷ row.Pool ∷ row.PoolStock ∷ row.UnnamedStock ∷ row.Lock ∷ row.Loop ∷ row.LoopWhen ∷ row.LockSq ∷ row.LockCq ∷ row.Other ∷ row.Nothing ∷ row.SetData64 ∷ row.Store ∷ row.Fill ∷ row.IfReady ∷ row.If ∷ row.IfSpace ∷ row.IfTake ∷ row.IfTakeNamed ∷ row.IfAny
    ∷ row.Thread ∷ row.Threads ∷ row.TokenRead ∷ row.TokenWrite ∷ row.TokenFsync ∷ row.TokenNop ∷ row.TokenOther ∷ row.TokenKinds ∷ row.File ∷ row.Buffer ∷ row.Ring ∷ row.RingCq ∷ row.RingLeft
    ∷ row.RingCqLeft ∷ row.Version ∷ row.SecondVersion ∷ row.ThirdVersion ∷ row.FourthVersion ∷ row.FifthVersion ∷ []

abbrev pub assignments : List Row
assignments = row.Submit ∷ row.Set ∷ row.Add ∷ row.Subtract ∷ row.Load ∷ row.SubmitAndWait ∷ []

abbrev pub rows : List Row
rows = fixed_rows ++ assignments
