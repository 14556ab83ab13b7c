-- What is above a line.
use Rattle.std.specs.Prelude.{ℕ, ◌+◌, List, [], ◌∷◌, ◌++◌, map, Option, Some, None, is_none, Bool, true, false, not, ◌==◌, if◌then◌else◌}
use Rattle.std.specs.List.{list_any}
use Rattle.std.specs.Str.{bytes_eq}
use Rattle.rc_lang.specs.declared.lines.Block.{Block}
use Rattle.rc_lang.specs.declared.lines.Line.{Line}
use Rattle.rc_lang.specs.declared.program.File.{File}
use Rattle.rc_lang.specs.declared.program.Head.{Head}
use Rattle.rc_lang.specs.declared.program.Token.{Token}
use Rattle.rc_lang.specs.Names.{before_bracket}
use Rattle.rc_lang.specs.Program.{Buffer, Items, Stock, Thread, no_items}
use Rattle.rc_read.specs.declared.parts.Region.{Region}
use Rattle.rc_read.specs.declared.parts.Region.TheVariants.{Start}
use Rattle.rc_read.specs.declared.table.Part.{Part}
use Rattle.rc_read.specs.declared.table.Part.TheVariants.{Variable, Operand, Flag}
use Rattle.rc_read.specs.Spots.{Spot, begins_number}

-- The arms that the open peek has so far.
pub record Arms : Type 0 where
  pub cases : List ℕ
  pub other : Bool
  pub none : Bool

-- A thread so far: its name, how many copies its header declares if it says so, the line of the header and what it
-- holds, its lists of items, its variables in the order of their first uses, the blocks that are open in it (the
-- innermost last), its lines, where the lines that a jump starts from lead to, the arms of the open peek, and the
-- variable of its first `when`.
pub record Draft : Type 0 where
  pub name : List ℕ
  pub copies : Option ℕ
  pub line : ℕ
  pub items : Items
  pub lists : List Items
  pub names : List (List ℕ)
  pub blocks : List Block
  pub lines : List Line
  pub ends : List ℕ
  pub arms : Arms
  pub flag : Option ℕ

-- What is above a line: how many lines, in which part of the model it is, what the head says, what is declared (of
-- pools their names, and what they have at the start), the finished threads and the open one.
pub record Sheet : Type 0 where
  pub count : ℕ
  pub region : Region
  pub head : Head
  pub files : List File
  pub buffers : List Buffer
  pub tokens : List Token
  pub pools : List (List ℕ)
  pub stock : List Stock
  pub threads : List Thread
  pub draft : Draft

abbrev pub no_arms : Arms
no_arms = record { cases = []; other = false; none = false }

-- a thread's header, before its first line
abbrev pub headed : List ℕ → Option ℕ → ℕ → Items → Draft
headed name copies line items = record { name = name; copies = copies; line = line; items = items; lists = []; names = []; blocks = []; lines = []; ends = []; arms = no_arms; flag = None }

abbrev pub no_draft : Draft
no_draft = headed [] None 0 no_items

-- the sheet above the first line
abbrev pub empty : Sheet
empty = record {
  count = 0;
  region = Start;
  head = record { version = 1; entries = 1; completion_entries = 2; left = 0 };
  files = [];
  buffers = [];
  tokens = [];
  pools = [];
  stock = [];
  threads = [];
  draft = no_draft;
}

-- ---- names

-- The number of a name, which for a new one is that of the next.
abbrev pub number_in : List (List ℕ) → List ℕ → ℕ
number_in [] word = 0
number_in (n ∷ ns) word = if bytes_eq n word then 0 else number_in ns word + 1

abbrev pub is_among : List (List ℕ) → List ℕ → Bool
is_among names word = list_any (λ n. bytes_eq n word) names

abbrev pub with_name : List (List ℕ) → List ℕ → List (List ℕ)
with_name ns word = if is_among ns word then ns else ns ++ word ∷ []

-- ---- what is declared

abbrev pub buffer_names : List Buffer → List (List ℕ)
buffer_names buffers = map (λ (b : Buffer). b.name) buffers

-- Copies have the name of their line.
abbrev pub thread_names : List Thread → List (List ℕ)
thread_names threads = map (λ (t : Thread). before_bracket t.name) threads

abbrev pub buffer_number : List Buffer → List ℕ → ℕ
buffer_number buffers word = number_in (buffer_names buffers) word

abbrev pub shares_in : List Buffer → List ℕ → Option ℕ
shares_in [] word = None
shares_in (b ∷ bs) word = if bytes_eq b.name word then Some b.shares else shares_in bs word

abbrev pub has_file : List File → ℕ → Bool
has_file files n = list_any (λ (f : File). f.number == n) files

abbrev pub has_token : List Token → ℕ → Bool
has_token tokens u = list_any (λ (t : Token). t.user_data == u) tokens

-- What the pool without a name has is said.
abbrev pub has_unnamed : List Stock → Bool
has_unnamed stock = list_any (λ (s : Stock). is_none s.pool) stock

-- ---- the variables of a line

abbrev pub is_variable : Part → List ℕ → Bool
is_variable Variable w = true
is_variable Flag w = true
is_variable Operand w = not (begins_number w)
is_variable _ w = false

-- The variables after a line with these words in their places.
abbrev pub names_behind : List (List ℕ) → List Spot → List (List ℕ)
names_behind names [] = names
names_behind names (p ∷ ps) = names_behind (if is_variable p.part p.word then with_name names p.word else names) ps

-- The sheet with the variables of a line.
abbrev pub naming : Draft → List Spot → Draft
naming d spots = record d { names = names_behind d.names spots }

abbrev pub with_names : Sheet → List Spot → Sheet
with_names s spots = record s { draft = naming s.draft spots }
