-- What the names in a thread's lines stand for at the values of its variables. A name without a row stands for itself.
use Rattle.std.specs.Prelude.{ℕ, ◌+◌, ◌≤◌, Bool, true, false, ◌&&◌, if◌then◌else◌, List, map, length, Option, Some, None, option_map, nat_eq, nat_lt, slice_get, slice_index_or, ℤ, pos, negsuc, All}
use Rattle.std.specs.List.{list_all}
use Rattle.rc_lang.specs.declared.lines.Line.{Line}
use Rattle.rc_lang.specs.declared.lines.Op.{Op}
use Rattle.rc_lang.specs.declared.lines.Op.TheVariants.{Load, Store, Fill, PrepRead, PrepWrite, SetData64}
use Rattle.rc_lang.specs.declared.lines.Stmt.{Stmt}
use Rattle.rc_lang.specs.declared.lines.Stmt.TheVariants.{Do, Put}
use Rattle.rc_lang.specs.declared.program.Share.{Share}
use Rattle.rc_lang.specs.declared.program.Token.{Token}
use Rattle.rc_lang.specs.declared.rows.Named.{Named}
use Rattle.rc_lang.specs.declared.rows.Named.TheVariants.{One, Member}
use Rattle.rc_lang.specs.Program.{Items, Program, Rows, items_at, line_at, lists_of, rows_of, token_place}

-- ---- rows

-- the value of a variable
abbrev pub value_of : List ℤ → ℕ → ℤ
value_of vars x = slice_index_or vars x (pos 0)

-- whether a value is one of so many numbers from 0 on; and which, where 0 stands for all that aren't
abbrev pub is_index : ℕ → ℤ → Bool
is_index count (pos n) = nat_lt n count
is_index count (negsuc n) = false

abbrev pub index_in : ℕ → ℤ → ℕ
index_in count (pos n) = if nat_lt n count then n else 0
index_in count (negsuc n) = 0

-- what a row stands for, and whether that is there
abbrev pub number_at : List ℤ → Named → ℕ
number_at vars (One n) = n
number_at vars (Member first count x) = first + index_in count (value_of vars x)

abbrev pub is_there : List ℤ → Named → Bool
is_there vars (One n) = true
is_there vars (Member first count x) = is_index count (value_of vars x)

-- the row of a name
abbrev pub row_at : List Named → ℕ → Named
row_at rows j = slice_index_or rows j (One j)

-- ---- names

abbrev pub read_buffer : Rows → List ℤ → ℕ → ℕ
read_buffer rows vars b = number_at vars (row_at rows.buffers b)

-- the user data of the token at a place
abbrev pub data_in : Option Token → ℕ
data_in None = 0
data_in (Some token) = token.user_data

abbrev pub token_by : Program → Rows → List ℤ → ℕ → Option ℕ → ℕ
token_by program rows vars u None = u
token_by program rows vars u (Some j) = data_in (slice_get program.tokens (number_at vars (row_at rows.members j)))

abbrev pub read_token : Program → Rows → List ℤ → ℕ → ℕ
read_token program rows vars u = token_by program rows vars u (token_place rows.tokens u)

abbrev pub buffer_there : Rows → List ℤ → ℕ → Bool
buffer_there rows vars b = is_there vars (row_at rows.buffers b)

abbrev pub is_member_there : Rows → List ℤ → Option ℕ → Bool
is_member_there rows vars None = true
is_member_there rows vars (Some j) = is_there vars (row_at rows.members j)

abbrev pub token_there : Rows → List ℤ → ℕ → Bool
token_there rows vars u = is_member_there rows vars (token_place rows.tokens u)

-- ---- lines

abbrev pub read_share : Rows → List ℤ → Share → Share
read_share rows vars s = record s { buffer = read_buffer rows vars s.buffer }

-- the items of a put or a take
abbrev pub read_items : Program → Rows → List ℤ → Items → Items
read_items program rows vars items = record items { shares = map (read_share rows vars) items.shares; tokens = map (read_token program rows vars) items.tokens }

abbrev pub items_there : Rows → List ℤ → Items → Bool
items_there rows vars items = list_all (λ (s : Share). buffer_there rows vars s.buffer) items.shares && list_all (token_there rows vars) items.tokens

abbrev pub read_op : Program → Rows → List ℤ → Op → Op
read_op program rows vars (Load x b i) = Load x (read_buffer rows vars b) i
read_op program rows vars (Store b i x) = Store (read_buffer rows vars b) i x
read_op program rows vars (Fill b x) = Fill (read_buffer rows vars b) x
read_op program rows vars (PrepRead fd b len off) = PrepRead fd (read_buffer rows vars b) len off
read_op program rows vars (PrepWrite fd b len off k) = PrepWrite fd (read_buffer rows vars b) len off k
read_op program rows vars (SetData64 u) = SetData64 (read_token program rows vars u)
read_op program rows vars op = op

abbrev pub op_there : Rows → List ℤ → Op → Bool
op_there rows vars (Load x b i) = buffer_there rows vars b
op_there rows vars (Store b i x) = buffer_there rows vars b
op_there rows vars (Fill b x) = buffer_there rows vars b
op_there rows vars (PrepRead fd b len off) = buffer_there rows vars b
op_there rows vars (PrepWrite fd b len off k) = buffer_there rows vars b
op_there rows vars (SetData64 u) = token_there rows vars u
op_there rows vars op = true

-- A statement without a block; what else stands on a line names its lists of items alone.
abbrev pub read_stmt : Program → Rows → List ℤ → Stmt → Stmt
read_stmt program rows vars (Do op) = Do (read_op program rows vars op)
read_stmt program rows vars s = s

-- so for the statements that can't do without what they name
abbrev pub stmt_there : Rows → List ℤ → List Items → Stmt → Bool
stmt_there rows vars lists (Do op) = op_there rows vars op
stmt_there rows vars lists (Put pool k) = items_there rows vars (items_at lists k)
stmt_there rows vars lists s = true

abbrev pub read_line : Program → Rows → List ℤ → Line → Line
read_line program rows vars line = record line { stmt = read_stmt program rows vars line.stmt }

-- ---- in a program

-- the line at a place of a thread, read at the values of its variables
abbrev pub line_read_at : Program → ℕ → List ℤ → ℕ → Option Line
line_read_at program i vars j = option_map (read_line program (rows_of program i) vars) (line_at program i j)

-- and its list with a number
abbrev pub list_read_at : Program → ℕ → List ℤ → ℕ → Items
list_read_at program i vars k = read_items program (rows_of program i) vars (items_at (lists_of program i) k)

-- ---- tables

-- No name has a row.
abbrev pub has_no_rows : Rows → Bool
has_no_rows rows = nat_eq (length rows.buffers) 0 && nat_eq (length rows.tokens) 0

-- All that a row can stand for has a small number.
abbrev pub IsSmall : Named → Type 0
IsSmall (One n) = Unit {0}
IsSmall (Member first count x) = first + count ≤ 4096

pub record AreSmall (rows : Rows) : Type 0 where
  pub buffers : All IsSmall rows.buffers
  pub members : All IsSmall rows.members
