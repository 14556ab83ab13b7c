-- What a line adds to the sheet.
use Rattle.std.specs.Prelude.{ℕ, zero, suc, ◌+◌, List, [], ◌∷◌, ◌++◌, length, slice_get, slice_set, Option, Some, None, true, unwrap_or}
use Rattle.std.specs.Option.{option_or}
use Rattle.rc_lang.specs.Locks.{both_locks}
use Rattle.rc_lang.specs.Names.{before_bracket, numbered}
use Rattle.rc_lang.specs.Nesting.{innermost, blocks_behind, way_out}
use Rattle.rc_lang.specs.Program.{Items, More, Stock, Thread as ThreadOf, no_rows}
use Rattle.rc_lang.specs.declared.lines.Block.{Block}
use Rattle.rc_lang.specs.declared.lines.Block.TheVariants.{InLock, InIf, InElse, InPeek, InArm, InLoop}
use Rattle.rc_lang.specs.declared.lines.Stmt.{Stmt}
use Rattle.rc_lang.specs.declared.lines.Stmt.TheVariants as stmt
use Rattle.rc_lang.specs.declared.lines.Test.TheVariants as test
use Rattle.rc_lang.specs.declared.program.Head.{Head}
use Rattle.rc_lang.specs.declared.program.Share.{Share}
use Rattle.rc_read.specs.declared.parts.Region.TheVariants as region
use Rattle.rc_read.specs.declared.says.Rings.{Rings}
use Rattle.rc_read.specs.declared.says.Says.{Says}
use Rattle.rc_read.specs.declared.says.Says.TheVariants.{Version, Ring, File, Buffer, Token, Pool, PoolStock, UnnamedStock, Thread, Op, Put, Lock, If, Take, Else, Peek, Case, Other, Nothing, Loop, Break, Close}
use Rattle.rc_read.specs.declared.table.Row.{Row}
use Rattle.rc_read.specs.declared.values.Item.{Item}
use Rattle.rc_read.specs.declared.values.Item.TheVariants as item
use Rattle.rc_read.specs.declared.values.Value.{Value}
use Rattle.rc_read.specs.Says.{says_by}
use Rattle.rc_read.specs.Sheets.{Sheet, Draft, Arms, no_arms, headed, no_draft, with_names}
use Rattle.rc_read.specs.Spots.{Spot, row_of, spots_in}
use Rattle.rc_read.specs.Values.{before_when, behind_when, flag_in, items_in, start, values_of}
use Rattle.rc_read.specs.Words.{words_of}

-- ---- items

abbrev pub shares_held : List Item → List Share
shares_held [] = []
shares_held (item.Shares b k ∷ items) = record { buffer = b; count = k } ∷ shares_held items
shares_held (i ∷ items) = shares_held items

abbrev pub tokens_held : List Item → List ℕ
tokens_held [] = []
tokens_held (item.Token u ∷ items) = u ∷ tokens_held items
tokens_held (i ∷ items) = tokens_held items

abbrev pub credits_held : List Item → ℕ
credits_held [] = 0
credits_held (item.Credits n ∷ items) = n
credits_held (i ∷ items) = credits_held items

abbrev pub queue_held : List Item → Option ℕ
queue_held [] = None
queue_held (item.Queued k ∷ items) = Some k
queue_held (i ∷ items) = queue_held items

abbrev pub more_held : List Item → More
more_held items = record { shares = shares_held items; tokens = tokens_held items; credits = credits_held items }

-- What two lists say: what is held, and what is held besides under the flag.
abbrev pub held : (items more : List Item) → Items
held items more = record { shares = shares_held items; tokens = tokens_held items; credits = credits_held items; queue = queue_held items; more = more_held more }

abbrev pub held_in_loop : List Item → Items
held_in_loop items = held (before_when items) (behind_when items)

-- ---- a thread's lines

-- the place of the line that a closing line closes, where a jump starts from there
abbrev pub closed_by : Stmt → Option ℕ
closed_by (stmt.Else o) = Some o
closed_by (stmt.EndIf o) = Some o
closed_by (stmt.EndPeek o) = Some o
closed_by (stmt.EndLoop o k) = Some o
closed_by _ = None

-- The table of ends, where one more line is at place j: that line has none, and is that of the line that it closes.
abbrev pub ends_marked : List ℕ → ℕ → Option ℕ → List ℕ
ends_marked ends j None = ends
ends_marked ends j (Some o) = slice_set ends o j

abbrev pub ends_behind : List ℕ → ℕ → Stmt → List ℕ
ends_behind ends j s = ends_marked (ends ++ 0 ∷ []) j (closed_by s)

-- A peek begins without arms, and its arms are kept.
abbrev pub arms_behind : Arms → Stmt → Arms
arms_behind arms (stmt.Peek x) = no_arms
arms_behind arms (stmt.Case o u) = record arms { cases = arms.cases ++ u ∷ [] }
arms_behind arms (stmt.Other o) = record arms { other = true }
arms_behind arms (stmt.Nothing o) = record arms { none = true }
arms_behind arms _ = arms

-- The lists of items after a line: those of a loop, of a put and of a take are kept.
abbrev pub lists_behind : List Items → List Item → Stmt → List Items
lists_behind lists items (stmt.Loop k) = lists ++ held_in_loop items ∷ []
lists_behind lists items (stmt.Put pool k) = lists ++ held items [] ∷ []
lists_behind lists items (stmt.If (test.Take pool k)) = lists ++ held items [] ∷ []
lists_behind lists items _ = lists

-- A thread's flag is the variable of its first `when`.
abbrev pub flag_behind : Option ℕ → List Item → Stmt → Option ℕ
flag_behind flag items (stmt.Loop k) = option_or flag (flag_in items)
flag_behind flag items _ = flag

-- the thread with one more line
abbrev pub with_stmt : Draft → ℕ → List Item → Stmt → Draft
with_stmt d number items s = record d {
  lists = lists_behind d.lists items s;
  blocks = blocks_behind d.blocks (length d.lines) s;
  lines = d.lines ++ record { number = number; stmt = s } ∷ [];
  ends = ends_behind d.ends (length d.lines) s;
  arms = arms_behind d.arms s;
  flag = flag_behind d.flag items s;
}

-- the place that a block belongs to
abbrev pub block_place : Option Block → ℕ
block_place None = 0
block_place (Some (InLock o l)) = o
block_place (Some (InIf o)) = o
block_place (Some (InElse o)) = o
block_place (Some (InPeek o)) = o
block_place (Some (InArm o)) = o
block_place (Some (InLoop o k)) = o

-- the closing brace of a block
abbrev pub closing : Block → Stmt
closing (InLock o l) = stmt.EndLock o l
closing (InIf o) = stmt.EndIf o
closing (InElse o) = stmt.EndIf o
closing (InPeek o) = stmt.EndPeek o
closing (InArm o) = stmt.EndArm o
closing (InLoop o k) = stmt.EndLoop o k

abbrev pub closing_of : Option Block → Stmt
closing_of None = stmt.Lock both_locks
closing_of (Some b) = closing b

-- a break out of the innermost of these blocks' loops
abbrev pub break_out : List Block → Stmt
break_out blocks = stmt.Break (unwrap_or (way_out blocks).loop 0) (way_out blocks).releases (way_out blocks).leaves

-- The statement of a line in a thread: arms and braces belong to the innermost block, a break to the innermost loop.
abbrev pub stmt_in : Draft → Says → Stmt
stmt_in d (Op op) = stmt.Do op
stmt_in d (Put pool) = stmt.Put pool (length d.lists)
stmt_in d (Lock l) = stmt.Lock l
stmt_in d (If test) = stmt.If test
stmt_in d (Take pool) = stmt.If (test.Take pool (length d.lists))
stmt_in d Else = stmt.Else (block_place (innermost d.blocks))
stmt_in d (Peek x) = stmt.Peek x
stmt_in d (Case u) = stmt.Case (block_place (innermost d.blocks)) u
stmt_in d Other = stmt.Other (block_place (innermost d.blocks))
stmt_in d Nothing = stmt.Nothing (block_place (innermost d.blocks))
stmt_in d Loop = stmt.Loop (length d.lists)
stmt_in d Break = break_out d.blocks
stmt_in d _ = closing_of (innermost d.blocks)

-- the thread that is complete; each name in its lines stands for itself
abbrev pub whole_thread : Draft → ThreadOf
whole_thread d = record { name = d.name; copy = None; line = d.line; items = d.items; lists = d.lists; lines = d.lines; ends = d.ends; variables = d.names; flag = d.flag; rows = no_rows }

-- The threads of its line: it alone, or so many copies, in the order of their numbers.
abbrev pub copy_of : ThreadOf → ℕ → ThreadOf
copy_of t copy = record t { name = numbered t.name (Some copy); copy = Some copy }

abbrev pub copies_of : ThreadOf → ℕ → List ThreadOf
copies_of t zero = []
copies_of t (suc n) = copies_of t n ++ copy_of t n ∷ []

abbrev pub threads_of : ThreadOf → Option ℕ → List ThreadOf
threads_of t None = t ∷ []
threads_of t (Some n) = copies_of t n

-- ---- lines

-- The line is one of the open thread.
abbrev pub said : Sheet → List Item → Says → Sheet
said s items what = record s { draft = with_stmt s.draft (s.count + 1) items (stmt_in s.draft what) }

-- A closing brace ends the innermost block, and without one the threads of the line.
abbrev pub closed : Sheet → Option Block → Sheet
closed s None = record s { region = region.Between; threads = s.threads ++ threads_of (whole_thread s.draft) s.draft.copies; draft = no_draft }
closed s (Some b) = said s [] Close

-- the name that a line declares
abbrev pub second_of : List (List ℕ) → List ℕ
second_of ws = unwrap_or (slice_get ws 1) []

-- the name of the threads, where it says how many
abbrev pub thread_name : Option ℕ → List ℕ → List ℕ
thread_name None w = w
thread_name (Some n) w = before_bracket w

-- the head with the rings that a line asks for
abbrev pub head_with_rings : ℕ → Rings → Head
head_with_rings version rings = record { version = version; entries = rings.entries; completion_entries = rings.completion_entries; left = rings.left }

-- what the next line says that a pool has at the start
abbrev pub stock_of : Sheet → Option ℕ → List Item → Stock
stock_of s pool items = record { pool = pool; line = s.count + 1; items = held items [] }

abbrev pub added : Sheet → List (List ℕ) → List Item → Says → Sheet
added s ws items (Version n) = record s { region = region.Second; head = record s.head { version = n } }
added s ws items (Ring rings) = record s { region = region.Declarations; head = head_with_rings s.head.version rings }
added s ws items (File f) = record s { files = s.files ++ f ∷ [] }
added s ws items (Buffer bytes shares) = record s { buffers = s.buffers ++ record { name = second_of ws; bytes = bytes; shares = shares } ∷ [] }
added s ws items (Token t) = record s { tokens = s.tokens ++ t ∷ [] }
added s ws items Pool = record s { pools = s.pools ++ second_of ws ∷ [] }
added s ws items PoolStock = record s { pools = s.pools ++ second_of ws ∷ []; stock = s.stock ++ stock_of s (Some (length s.pools)) items ∷ [] }
added s ws items UnnamedStock = record s { stock = s.stock ++ stock_of s None items ∷ [] }
added s ws items (Thread copies) = record s { region = region.InThread; draft = headed (thread_name copies (second_of ws)) copies (s.count + 1) (held items []) }
added s ws items Close = closed s (innermost s.draft.blocks)
added s ws items what = said s items what

-- What is in the places of a line, its own variables among the names.
abbrev pub values : Sheet → List Spot → List Value
values s spots = values_of (with_names s spots) start spots

-- the form of a line, its places, what it says and its items, in a model of the sheet's version
abbrev pub form_in : Sheet → List (List ℕ) → Option Row
form_in s ws = row_of s.head.version ws

abbrev pub places_in : Sheet → List (List ℕ) → List Spot
places_in s ws = spots_in s.head.version ws

abbrev pub says : Sheet → List (List ℕ) → Says
says s ws = says_by (form_in s ws) (values s (places_in s ws))

abbrev pub items : Sheet → List (List ℕ) → List Item
items s ws = items_in (values s (places_in s ws))

-- The sheet after a line, where no sentence is true of it.
abbrev pub with_words : Sheet → List (List ℕ) → Sheet
with_words s [] = s
with_words s (w ∷ ws) = added (with_names s (places_in s (w ∷ ws))) (w ∷ ws) (items s (w ∷ ws)) (says s (w ∷ ws))

abbrev pub counted : Sheet → Sheet
counted s = record s { count = s.count + 1 }

abbrev pub with_line : Sheet → List ℕ → Sheet
with_line s line = counted (with_words s (words_of line))
