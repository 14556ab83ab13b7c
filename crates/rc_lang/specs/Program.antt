-- Programs, and where their parts are found.
use Rattle.std.specs.Prelude.{ℕ, ◌+◌, false, List, [], ◌∷◌, Bool, nat_lt, drop, if◌then◌else◌, Option, Some, None, slice_get, slice_index, slice_index_or, nat_eq, position}
use Rattle.rc_lang.specs.declared.lines.Line.{Line}
use Rattle.rc_lang.specs.declared.lines.Stmt.{Stmt}
use Rattle.rc_lang.specs.declared.program.File.{File}
use Rattle.rc_lang.specs.declared.program.Share.{Share}
use Rattle.rc_lang.specs.declared.program.Token.{Token}
use Rattle.rc_lang.specs.declared.rows.Named.{Named}

-- A buffer: its name, how many bytes it has, and into how many shares it is split.
pub record Buffer : Type 0 where
  pub name : List ℕ
  pub bytes : ℕ
  pub shares : ℕ

-- What a loop says after `when` that is held besides while the thread's flag isn't 0.
pub record More : Type 0 where
  pub shares : List Share
  pub tokens : List ℕ
  pub credits : ℕ

-- What a thread holds, as it begins or at the top of a loop: shares of buffers, tokens, credits for completions, and
-- how many entries may be queued at most, where that is said; and what it holds besides under its flag.
pub record Items : Type 0 where
  pub shares : List Share
  pub tokens : List ℕ
  pub credits : ℕ
  pub queue : Option ℕ
  pub more : More

-- What the names in a thread's lines stand for: by the numbers by which they name buffers, the tokens as they name them,
-- and what each of these stands for.
pub record Rows : Type 0 where
  pub buffers : List Named
  pub tokens : List Token
  pub members : List Named

-- A thread: its name, its number where its line declares copies, the line of its header, what it holds as it begins,
-- its lists of items (what it holds at the tops of its loops, and what it puts into pools and takes from them), its
-- lines, for the lines that a jump starts from the place that it leads to, the names of its variables by their numbers,
-- its flag (the one variable that a loop of it names behind `when`, wherever in the thread that loop stands), and what
-- the names in its lines stand for.
pub record Thread : Type 0 where
  pub name : List ℕ
  pub copy : Option ℕ
  pub line : ℕ
  pub items : Items
  pub lists : List Items
  pub lines : List Line
  pub ends : List ℕ
  pub variables : List (List ℕ)
  pub flag : Option ℕ
  pub rows : Rows

-- What a line says that a pool has at the start: the number of the pool, or none for the one without a name, and the
-- number of the line.
pub record Stock : Type 0 where
  pub pool : Option ℕ
  pub line : ℕ
  pub items : Items

-- A program: the version of the notation, how many entries its submission ring and its completion ring have
-- (io_uring_setup(2)), how many entries may be left queued where the lock of the submission side is released, and its
-- declarations (of pools their names, and what they have at the start) and threads, in the order of their lines.
pub record Program : Type 0 where
  pub version : ℕ
  pub entries : ℕ
  pub completion_entries : ℕ
  pub left : ℕ
  pub files : List File
  pub buffers : List Buffer
  pub tokens : List Token
  pub pools : List (List ℕ)
  pub stock : List Stock
  pub threads : List Thread

-- ---- look-ups

-- the statement at a place
abbrev pub stmt_of : Option Line → Option Stmt
stmt_of None = None
stmt_of (Some line) = Some line.stmt

abbrev pub stmt_at : List Line → ℕ → Option Stmt
stmt_at lines j = stmt_of (slice_get lines j)

-- the lines of a thread, and the line at a place of it
abbrev pub lines_in : Option Thread → List Line
lines_in None = []
lines_in (Some thread) = thread.lines

abbrev pub lines_of : Program → ℕ → List Line
lines_of program i = lines_in (slice_get program.threads i)

abbrev pub line_at : Program → ℕ → ℕ → Option Line
line_at program i j = slice_get (lines_of program i) j

-- the lists of items of a thread
abbrev pub lists_in : Option Thread → List Items
lists_in None = []
lists_in (Some thread) = thread.lists

abbrev pub lists_of : Program → ℕ → List Items
lists_of program i = lists_in (slice_get program.threads i)

-- the table of a thread
abbrev pub no_rows : Rows
no_rows = record { buffers = []; tokens = []; members = [] }

abbrev pub rows_in : Option Thread → Rows
rows_in None = no_rows
rows_in (Some thread) = thread.rows

abbrev pub rows_of : Program → ℕ → Rows
rows_of program i = rows_in (slice_get program.threads i)

abbrev pub ends_in : Option Thread → List ℕ
ends_in None = []
ends_in (Some thread) = thread.ends

-- the place that the line at place j leads to: of an if its else or its closing brace, of an else, a peek and a loop
-- the closing brace
abbrev pub end_at : Program → ℕ → ℕ → ℕ
end_at program i j = slice_index (ends_in (slice_get program.threads i)) j

-- Of the threads that a line declares the first stands for the line, and the others are further copies.
abbrev pub is_further : Option ℕ → Bool
is_further None = false
is_further (Some copy) = nat_lt 0 copy

-- how many further copies these threads begin with
abbrev pub further_copies : List Thread → ℕ
further_copies [] = 0
further_copies (t ∷ ts) = if is_further t.copy then further_copies ts + 1 else 0

-- the number of the first thread behind those of a thread's line
abbrev pub line_end : List Thread → ℕ → ℕ
line_end threads i = i + 1 + further_copies (drop (i + 1) threads)

-- nothing besides
abbrev pub no_more : More
no_more = record { shares = []; tokens = []; credits = 0 }

-- what is held besides, as items of their own
abbrev pub besides : Items → Items
besides items = record { shares = items.more.shares; tokens = items.more.tokens; credits = items.more.credits; queue = None; more = no_more }

-- the items of a loop, a put or a take, by their number
abbrev pub no_items : Items
no_items = record { shares = []; tokens = []; credits = 0; queue = None; more = no_more }

abbrev pub items_at : List Items → ℕ → Items
items_at lists k = slice_index_or lists k no_items

-- how many bytes and shares a buffer has
abbrev pub no_buffer : Buffer
no_buffer = record { name = []; bytes = 0; shares = 0 }

abbrev pub bytes_at : List Buffer → ℕ → ℕ
bytes_at buffers b = (slice_index_or buffers b no_buffer).bytes

abbrev pub shares_at : List Buffer → ℕ → ℕ
shares_at buffers b = (slice_index_or buffers b no_buffer).shares

-- the place of a user data among the tokens
abbrev pub token_place : List Token → ℕ → Option ℕ
token_place tokens u = position (λ (t : Token). nat_eq t.user_data u) tokens
