-- What each program keeps that was made.
use Rattle.std.specs.Prelude.{ℕ, ◌≡◌, ◌+◌, ◌<◌, ◌≤◌, true, false, List, [], ◌∷◌, ◌++◌, if◌then◌else◌, length, map, flat_map, Option, Some, None, slice_get, nat_eq, All, IfSome}
use Rattle.std.specs.List.{IsDistinct}
use Rattle.std.specs.List.Sorted.{IsStrictlyIncreasing}
use Rattle.std.specs.Str.{bytes_eq}
use Rattle.rc_lang.specs.declared.lines.Line.{Line}
use Rattle.rc_lang.specs.declared.lines.Stmt.{Stmt}
use Rattle.rc_lang.specs.declared.lines.Stmt.TheVariants.{Put, If, Loop}
use Rattle.rc_lang.specs.declared.lines.Test.TheVariants.{Take}
use Rattle.rc_lang.specs.declared.program.File.{File}
use Rattle.rc_lang.specs.declared.program.Share.{Share}
use Rattle.rc_lang.specs.declared.program.Token.{Token}
use Rattle.rc_lang.specs.declared.program.TokenKind.{TokenKind}
use Rattle.rc_lang.specs.declared.program.TokenKind.TheVariants.{Read, Write}
use Rattle.rc_lang.specs.Kinds.{is_one_kind, kinds_in}
use Rattle.rc_lang.specs.Names.{before_bracket, is_name, numbered}
use Rattle.rc_lang.specs.Nesting.{IsNested, blocks_at, locks_in}
use Rattle.rc_lang.specs.Program.{Buffer, Items, Thread, Stock, Program, stmt_at, no_rows, is_further, no_more, besides, items_at}
use Rattle.rc_lang.specs.Resolved.{IsRingSize, DeclaresToken, DeclaresPool, IsShare, IsResolved, IsLinked}

-- Items name what is declared, each once: 1 to 16 shares of a buffer, tokens, at most 2,048 credits, and at most as
-- many queued entries as the ring has.
pub record IsItems (program : Program) (items : Items) : Type 0 where
  pub buffers : All (λ (s : Share). s.buffer < length program.buffers) items.shares
  pub counts : All (λ (s : Share). (1 ≤ s.count) × (s.count ≤ 16)) items.shares
  pub distinct_buffers : IsDistinct nat_eq (map (λ (s : Share). s.buffer) items.shares)
  pub tokens : All (DeclaresToken program) items.tokens
  pub distinct_tokens : IsDistinct nat_eq items.tokens
  pub credits : items.credits ≤ 2048
  pub queue : IfSome items.queue (λ k. k ≤ program.entries)

-- The items of a loop: both lists, and no token in both.
pub record IsList (program : Program) (items : Items) : Type 0 where
  pub first : IsItems program items
  pub more : IsItems program (besides items)
  pub apart : IsDistinct nat_eq (items.tokens ++ items.more.tokens)

-- A bound on queued entries is said of loops in a lock of the submission side alone.
abbrev pub MaySayQueue : Thread → ℕ → ℕ → Type 0
MaySayQueue thread j k = (locks_in (blocks_at thread.lines j)).sq ≡ false → (items_at thread.lists k).queue ≡ None

-- What is put into a pool or taken from it bounds no queue, and depends on no flag.
pub record IsOfPool (items : Items) : Type 0 where
  pub no_queue : items.queue ≡ None
  pub no_more : items.more ≡ no_more

-- The flag is a variable, of a program of version 2 or later; a thread without one holds nothing besides at any loop.
pub record IsFlag (program : Program) (thread : Thread) : Type 0 where
  pub variable : IfSome thread.flag (λ x. x < length thread.variables)
  pub version : program.version ≡ 1 → thread.flag ≡ None
  pub without : thread.flag ≡ None → All (λ (i : Items). i.more ≡ no_more) thread.lists

-- The thread has a name, with its copy's number.
abbrev pub IsThreadName : List ℕ → Option ℕ → Type 0
IsThreadName name copy = (declared : List ℕ) × (is_name declared ≡ true) × (name ≡ numbered declared copy)

-- A thread of a made program: at most 4,096 lines, with numbers from 1 to 4,096, and 64 variables. Its header says
-- neither how many entries may be queued nor what is held besides. Each name in its lines stands for itself.
pub record IsThread (program : Program) (thread : Thread) : Type 0 where
  pub name : IsThreadName thread.name thread.copy
  pub line : (1 ≤ thread.line) × (thread.line ≤ 4096)
  pub items : IsItems program thread.items
  pub no_queue : thread.items.queue ≡ None
  pub no_more : thread.items.more ≡ no_more
  pub lists : All (IsList program) thread.lists
  pub few_lines : length thread.lines ≤ 4096
  pub numbers : All (λ (l : Line). (1 ≤ l.number) × (l.number ≤ 4096)) thread.lines
  pub few_variables : length thread.variables ≤ 64
  pub flag : IsFlag program thread
  pub rows : thread.rows ≡ no_rows
  pub nested : IsNested thread.lines
  pub resolved : (j : ℕ) (s : Stmt) → stmt_at thread.lines j ≡ Some s → IsResolved program (length thread.variables) (length thread.lists) s
  pub linked : (j : ℕ) (s : Stmt) → stmt_at thread.lines j ≡ Some s → IsLinked thread.lines thread.ends j s
  pub queues : (j k : ℕ) → stmt_at thread.lines j ≡ Some (Loop k) → MaySayQueue thread j k
  pub puts : (j : ℕ) (pool : Option ℕ) (k : ℕ) → stmt_at thread.lines j ≡ Some (Put pool k) → IsOfPool (items_at thread.lists k)
  pub takes : (j : ℕ) (pool : Option ℕ) (k : ℕ) → stmt_at thread.lines j ≡ Some (If (Take pool k)) → IsOfPool (items_at thread.lists k)

-- What a pool has at the start is items of the program, as what is put into one.
pub record IsStock (program : Program) (stock : Stock) : Type 0 where
  pub pool : DeclaresPool program stock.pool
  pub line : (1 ≤ stock.line) × (stock.line ≤ 4096)
  pub items : IsItems program stock.items
  pub of_pool : IsOfPool stock.items

-- No two lines are of one pool.
abbrev pub IsEachPoolOnce : List Stock → Type 0
IsEachPoolOnce stock = (i j : ℕ) (a b : Stock) → slice_get stock i ≡ Some a → slice_get stock j ≡ Some b → a.pool ≡ b.pool → i ≡ j

-- A file has a number up to 1,023 and at most 65,536 bytes, a buffer 1 to 4,096 bytes in 1 to 16 shares.
pub record IsFile (file : File) : Type 0 where
  pub number : file.number ≤ 1023
  pub len : file.len ≤ 65536

pub record IsBuffer (buffer : Buffer) : Type 0 where
  pub name : is_name buffer.name ≡ true
  pub bytes : (1 ≤ buffer.bytes) × (buffer.bytes ≤ 4096)
  pub shares : (1 ≤ buffer.shares) × (buffer.shares ≤ 16)

-- A token of a read or a write names a buffer, and that of a write as many of its shares as it takes.
abbrev pub IsTokenKind : Program → TokenKind → Type 0
IsTokenKind program (Read b) = b < length program.buffers
IsTokenKind program (Write b k) = (b < length program.buffers) × IsShare program b k
IsTokenKind program _ = Unit {0}

-- A thread is the next copy after another: all but the names and the numbers is the same.
pub record IsNextCopy (earlier later : Thread) : Type 0 where
  pub number : ℕ
  pub after : earlier.copy ≡ Some number
  pub has : later.copy ≡ Some (number + 1)
  pub name : before_bracket later.name ≡ before_bracket earlier.name
  pub same : later ≡ record earlier { name = later.name; copy = later.copy }

-- The thread at place i stands right behind the copy before it.
pub record FollowsCopy (threads : List Thread) (i : ℕ) (thread : Thread) : Type 0 where
  pub place : ℕ
  pub before : i ≡ place + 1
  pub earlier : Thread
  pub stands : slice_get threads place ≡ Some earlier
  pub next : IsNextCopy earlier thread

-- The numbers of the lines that say what pools have, of a thread's lines, from its header's on, and of those of all
-- threads. Copies have one text.
abbrev pub stock_numbers : List Stock → List ℕ
stock_numbers stock = map (λ (s : Stock). s.line) stock

abbrev pub numbers_from : ℕ → List Line → List ℕ
numbers_from header lines = header ∷ map (λ (l : Line). l.number) lines

abbrev pub own_numbers : Thread → List ℕ
own_numbers t = if is_further t.copy then [] else numbers_from t.line t.lines

abbrev pub line_numbers : List Thread → List ℕ
line_numbers threads = flat_map own_numbers threads

-- What each made program keeps: the limits, nesting, resolved names, that copies stand in the order of their numbers, and
-- that of the lines of pools' stock and those from the first header on each has a higher number than the one before.
pub record IsProgram (program : Program) : Type 0 where
  pub version : (1 ≤ program.version) × (program.version ≤ 5)
  pub entries : IsRingSize 1024 program.entries
  pub completion_entries : IsRingSize 2048 program.completion_entries
  pub room : program.entries ≤ program.completion_entries
  pub left : program.left ≤ program.entries
  pub few_files : length program.files ≤ 16
  pub files : All IsFile program.files
  pub distinct_files : IsDistinct nat_eq (map (λ (f : File). f.number) program.files)
  pub few_buffers : length program.buffers ≤ 64
  pub buffers : All IsBuffer program.buffers
  pub distinct_buffers : IsDistinct bytes_eq (map (λ (b : Buffer). b.name) program.buffers)
  pub few_tokens : length program.tokens ≤ 256
  pub tokens : All (λ (t : Token). All (IsTokenKind program) (kinds_in t)) program.tokens
  pub distinct_kinds : All (λ (t : Token). IsDistinct is_one_kind (kinds_in t)) program.tokens
  pub distinct_tokens : IsDistinct nat_eq (map (λ (t : Token). t.user_data) program.tokens)
  pub few_pools : length program.pools ≤ 16
  pub pools : All (λ n. is_name n ≡ true) program.pools
  pub distinct_pools : IsDistinct bytes_eq program.pools
  pub no_pools : program.version ≤ 3 → program.pools ≡ []
  pub few_stock : length program.stock ≤ 17
  pub stock : All (IsStock program) program.stock
  pub stock_once : IsEachPoolOnce program.stock
  pub no_stock : program.version ≤ 4 → program.stock ≡ []
  pub few_threads : length program.threads ≤ 64
  pub distinct_names : IsDistinct bytes_eq (map (λ (t : Thread). t.name) program.threads)
  pub each : (i : ℕ) (t : Thread) → slice_get program.threads i ≡ Some t → IsThread program t
  pub copies : (i : ℕ) (t : Thread) → slice_get program.threads i ≡ Some t → is_further t.copy ≡ true → FollowsCopy program.threads i t
  pub numbers : IsStrictlyIncreasing (stock_numbers program.stock ++ line_numbers program.threads)
