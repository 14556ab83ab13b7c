-- The names and numbers of a line are resolved and in their ranges, and the lines that belong to it are there.
use Rattle.std.specs.Prelude.{ℕ, ◌≡◌, ◌≢◌, ◌^◌, ◌<◌, ◌≤◌, ◌⊎◌, true, List, length, map, Option, Some, slice_index, Contains, IfSome}
use Rattle.rc_lang.specs.declared.lines.Line.{Line}
use Rattle.rc_lang.specs.declared.lines.Locks.{Locks}
use Rattle.rc_lang.specs.declared.lines.Op.{Op}
use Rattle.rc_lang.specs.declared.lines.Op.TheVariants.{Set, Assign, Add, Subtract, Load, Store, Fill, Print, PrepRead, PrepWrite, PrepFsync, SetData64, Submit, SubmitAndWait}
use Rattle.rc_lang.specs.declared.lines.Operand.{Operand}
use Rattle.rc_lang.specs.declared.lines.Operand.TheVariants.{Variable, Number}
use Rattle.rc_lang.specs.declared.lines.Stmt.{Stmt}
use Rattle.rc_lang.specs.declared.lines.Stmt.TheVariants.{Do, Put, Lock, If, Else, EndIf, Peek, Case, Other, Nothing, EndArm, EndPeek, Loop, EndLoop, Break}
use Rattle.rc_lang.specs.declared.lines.Test.{Test}
use Rattle.rc_lang.specs.declared.lines.Test.TheVariants.{Compare, ReadyZero, SpaceAtLeast, Take, Any}
use Rattle.rc_lang.specs.declared.program.File.{File}
use Rattle.rc_lang.specs.declared.program.Token.{Token}
use Rattle.rc_lang.specs.Locks.{both_locks, is_some_lock}
use Rattle.rc_lang.specs.Program.{Program, stmt_at, shares_at}

-- ---- resolved names

-- The number is a power of two, from 1 to the limit.
pub record IsRingSize (limit n : ℕ) : Type 0 where
  pub power : (k : ℕ) × (n ≡ 2 ^ k)
  pub within : n ≤ limit

abbrev pub DeclaresToken : Program → ℕ → Type 0
DeclaresToken program u = Contains (map (λ (t : Token). t.user_data) program.tokens) u

abbrev pub DeclaresFile : Program → ℕ → Type 0
DeclaresFile program fd = Contains (map (λ (f : File). f.number) program.files) fd

-- The number is that of a declared pool, or none, for the pool without a name.
abbrev pub DeclaresPool : Program → Option ℕ → Type 0
DeclaresPool program pool = IfSome pool (λ n. n < length program.pools)

abbrev pub IsOperand : ℕ → Operand → Type 0
IsOperand variables (Variable x) = x < variables
IsOperand variables (Number n) = Unit {0}

-- What a read or a write moves: at most 4,096 bytes, between a declared file, from a place of it up to 1,048,576 on,
-- and a buffer.
pub record IsMove (program : Program) (fd b len off : ℕ) : Type 0 where
  pub file : DeclaresFile program fd
  pub buffer : b < length program.buffers
  pub length_within : len ≤ 4096
  pub place_within : off ≤ 1048576

-- The number is one of shares of the buffer.
pub record IsShare (program : Program) (b k : ℕ) : Type 0 where
  pub some : 1 ≤ k
  pub within : k ≤ shares_at program.buffers b

-- The names of a line are resolved, and its numbers are in their ranges.
abbrev pub IsResolvedOp : Program → ℕ → Op → Type 0
IsResolvedOp program variables (Set x n) = x < variables
IsResolvedOp program variables (Assign x y) = (x < variables) × (y < variables)
IsResolvedOp program variables (Add x a b) = (x < variables) × IsOperand variables a × IsOperand variables b
IsResolvedOp program variables (Subtract x a b) = (x < variables) × IsOperand variables a × IsOperand variables b
IsResolvedOp program variables (Load x b i) = (x < variables) × (b < length program.buffers) × (i ≤ 4095)
IsResolvedOp program variables (Store b i x) = (b < length program.buffers) × (i ≤ 4095) × (x < variables)
IsResolvedOp program variables (Fill b x) = (b < length program.buffers) × (x < variables)
IsResolvedOp program variables (Print x) = x < variables
IsResolvedOp program variables (PrepRead fd b len off) = IsMove program fd b len off
IsResolvedOp program variables (PrepWrite fd b len off k) = IsMove program fd b len off × IsShare program b k
IsResolvedOp program variables (PrepFsync fd datasync) = DeclaresFile program fd
IsResolvedOp program variables (SetData64 u) = DeclaresToken program u
IsResolvedOp program variables (Submit x) = x < variables
IsResolvedOp program variables (SubmitAndWait x n) = (x < variables) × (n ≤ 2048)
IsResolvedOp program variables _ = Unit {0}

-- A line takes some lock, and up to version 3 both.
pub record AreTaken (program : Program) (l : Locks) : Type 0 where
  pub some : is_some_lock l ≡ true
  pub both : program.version ≤ 3 → l ≡ both_locks

abbrev pub IsResolvedTest : Program → (variables lists : ℕ) → Test → Type 0
IsResolvedTest program variables lists (Compare x c n) = x < variables
IsResolvedTest program variables lists ReadyZero = Unit {0}
IsResolvedTest program variables lists (SpaceAtLeast n) = n ≤ program.entries
IsResolvedTest program variables lists (Take pool k) = DeclaresPool program pool × (k < lists)
IsResolvedTest program variables lists Any = Unit {0}

abbrev pub IsResolved : Program → (variables lists : ℕ) → Stmt → Type 0
IsResolved program variables lists (Do op) = IsResolvedOp program variables op
IsResolved program variables lists (Put pool k) = DeclaresPool program pool × (k < lists)
IsResolved program variables lists (Lock l) = AreTaken program l
IsResolved program variables lists (If test) = IsResolvedTest program variables lists test
IsResolved program variables lists (Peek x) = x < variables
IsResolved program variables lists (Case o u) = DeclaresToken program u
IsResolved program variables lists (Loop k) = k < lists
IsResolved program variables lists (EndLoop o k) = k < lists
IsResolved program variables lists _ = Unit {0}

-- ---- links

-- The line at place j leads ahead to a line that says this.
pub record HasEnd (lines : List Line) (ends : List ℕ) (j : ℕ) (stmt : Stmt) : Type 0 where
  pub behind : j < slice_index ends j
  pub stands : stmt_at lines (slice_index ends j) ≡ Some stmt

-- No line before place j says the same.
abbrev pub IsFirst : List Line → ℕ → Stmt → Type 0
IsFirst lines j stmt = (k : ℕ) → k < j → stmt_at lines k ≢ Some stmt

-- The statement is after place j.
pub record IsAhead (lines : List Line) (j : ℕ) (stmt : Stmt) : Type 0 where
  pub place : ℕ
  pub behind : j < place
  pub stands : stmt_at lines place ≡ Some stmt

-- A peek has its closing brace, an arm for other user data and one for no completion.
pub record HasArms (lines : List Line) (ends : List ℕ) (j : ℕ) : Type 0 where
  pub end : HasEnd lines ends j (EndPeek j)
  pub other : IsAhead lines j (Other j)
  pub none : IsAhead lines j (Nothing j)

-- The lines that belong to the line at place j are there, where the table says: an if leads to its else or its closing
-- brace, an else, a peek and a loop to the closing brace. No arm is twice. An arm ends before its peek does, and a
-- break is before its loop's end.
abbrev pub IsLinked : List Line → List ℕ → ℕ → Stmt → Type 0
IsLinked lines ends j (If test) = HasEnd lines ends j (Else j) ⊎ HasEnd lines ends j (EndIf j)
IsLinked lines ends j (Else o) = HasEnd lines ends j (EndIf j)
IsLinked lines ends j (Peek x) = HasArms lines ends j
IsLinked lines ends j (Case o u) = IsFirst lines j (Case o u)
IsLinked lines ends j (Other o) = IsFirst lines j (Other o)
IsLinked lines ends j (Nothing o) = IsFirst lines j (Nothing o)
IsLinked lines ends j (EndArm o) = j < slice_index ends o
IsLinked lines ends j (Loop k) = HasEnd lines ends j (EndLoop j k)
IsLinked lines ends j (Break o releases leaves) = j < slice_index ends o
IsLinked lines ends j _ = Unit {0}
