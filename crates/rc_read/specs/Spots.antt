-- Which form a line has, and the places of its words.
use Rattle.std.specs.Prelude.{ℕ, ◌+◌, List, [], ◌∷◌, ◌++◌, take, drop, position, Option, Some, None, Bool, true, false, ◌||◌, ◌&&◌, not, ◌==◌, nat_le, is_some, option_map, unwrap_or, if◌then◌else◌, codes}
use Rattle.std.specs.List.{list_any}
use Rattle.std.specs.Str.{bytes_eq}
use Rattle.rc_lang.specs.declared.lines.Comparison.{Comparison}
use Rattle.rc_lang.specs.declared.lines.Comparison.TheVariants.{Equal, NotEqual, Less, AtMost, Greater, AtLeast}
use Rattle.rc_lang.specs.Names.{before_bracket, from_bracket, is_name, is_reserved_by}
use Rattle.rc_lang.specs.Numbers.{is_digit}
use Rattle.rc_read.specs.declared.fixed.Word.TheVariants.{Or}
use Rattle.rc_read.specs.declared.table.Part.{Part}
use Rattle.rc_read.specs.declared.table.Part.TheVariants.{Fixed, Variable, Operand, Comparison as Compare, Buffer, Pool, NewBuffer, NewPool, NewThread, NewThreads, Copies, Items, Flag, HeldShares, HeldToken, Credits, Queued, Kinds, KindWord, ReadBuffer, WriteShares}
use Rattle.rc_read.specs.declared.table.Row.{Row}
use Rattle.rc_read.specs.Table.{text_of, parts_of, rows, version_of}

-- ---- which words are in a place

abbrev pub comparison_of : List ℕ → Option Comparison
comparison_of w =
    if bytes_eq w (codes "==") then Some Equal
    else (if bytes_eq w (codes "!=") then Some NotEqual
    else (if bytes_eq w (codes "<") then Some Less
    else (if bytes_eq w (codes "<=") then Some AtMost
    else (if bytes_eq w (codes ">") then Some Greater
    else (if bytes_eq w (codes ">=") then Some AtLeast else None)))))

-- a word that begins with a digit or `-`
abbrev pub begins_number : List ℕ → Bool
begins_number [] = false
begins_number (b ∷ bytes) = is_digit b || b == 45

-- `NAME[N]`: a name, and after it in brackets what begins as a number does.
abbrev pub opens_bracket : List ℕ → Bool
opens_bracket [] = false
opens_bracket (b ∷ bytes) = b == 91

abbrev pub in_brackets : List ℕ → List ℕ
in_brackets w = before_bracket (drop 1 (from_bracket w))

abbrev pub closing_in : List ℕ → List ℕ
closing_in w = from_bracket (drop 1 (from_bracket w))

abbrev pub names_copies : List ℕ → Bool
names_copies w = is_name (before_bracket w) && opens_bracket (from_bracket w) && begins_number (in_brackets w) && bytes_eq (closing_in w) (codes "]")

-- a kind's first word
abbrev pub is_kind_word : List ℕ → Bool
is_kind_word w = bytes_eq w (codes "read") || bytes_eq w (codes "write") || bytes_eq w (codes "fsync") || bytes_eq w (codes "nop") || bytes_eq w (codes "other")

-- In a place for a name is a name, and in one for a number any word.
abbrev pub fits : Part → List ℕ → Bool
fits (Fixed fixed) w = bytes_eq w (text_of fixed)
fits Variable w = is_name w
fits Flag w = is_name w
fits Buffer w = is_name w
fits Pool w = is_name w
fits NewBuffer w = is_name w
fits NewPool w = is_name w
fits NewThread w = is_name w
fits NewThreads w = names_copies w
fits Operand w = begins_number w || is_name w
fits Compare w = is_some (comparison_of w)
fits KindWord w = is_kind_word w
fits ReadBuffer w = is_name w
fits _ w = true

-- ---- items

-- An item is cut at its first colon.
abbrev pub colon_in : List ℕ → Option ℕ
colon_in w = position (λ b. b == 58) w

abbrev pub is_item_name : List ℕ → Bool
is_item_name name = bytes_eq name (codes "t") || bytes_eq name (codes "c") || bytes_eq name (codes "q") || is_name name

abbrev pub item_at : List ℕ → Option ℕ → Bool
item_at w None = false
item_at w (Some i) = is_item_name (take i w)

abbrev pub is_item : List ℕ → Bool
is_item w = item_at w (colon_in w)

-- A word in its place, with the part that is there.
pub record Spot : Type 0 where
  pub part : Part
  pub word : List ℕ

-- `t:U`, `c:n`, `q:k` and `B:k`
abbrev pub item_spots : List ℕ → List ℕ → List Spot
item_spots name number =
    if bytes_eq name (codes "t") then record { part = HeldToken; word = number } ∷ []
    else (if bytes_eq name (codes "c") then record { part = Credits; word = number } ∷ []
    else (if bytes_eq name (codes "q") then record { part = Queued; word = number } ∷ []
    else record { part = Buffer; word = name } ∷ record { part = HeldShares; word = number } ∷ []))

abbrev pub spots_cut : List ℕ → Option ℕ → List Spot
spots_cut w None = []
spots_cut w (Some i) = item_spots (take i w) (drop (i + 1) w)

abbrev pub spots_of_item : List ℕ → List Spot
spots_of_item w = spots_cut w (colon_in w)

-- the items in front, and the words after them
abbrev pub spots_of_items : List (List ℕ) → List Spot
spots_of_items [] = []
spots_of_items (w ∷ ws) = if is_item w then spots_of_item w ++ spots_of_items ws else []

abbrev pub behind_items : List (List ℕ) → List (List ℕ)
behind_items [] = []
behind_items (w ∷ ws) = if is_item w then behind_items ws else w ∷ ws

-- ---- one word

abbrev pub is_fixed : Part → Bool
is_fixed (Fixed fixed) = true
is_fixed _ = false

-- The places in a word: of threads with one name their name and their number, and else the word is one.
abbrev pub spots_of_word : Part → List ℕ → List Spot
spots_of_word NewThreads w = record { part = NewThread; word = before_bracket w } ∷ record { part = Copies; word = in_brackets w } ∷ []
spots_of_word part w = record { part = part; word = w } ∷ []

-- The places of a part's word. A fixed word has none.
abbrev pub spot_of_part : Part → List (List ℕ) → List Spot
spot_of_part part [] = []
spot_of_part part (w ∷ ws) = if is_fixed part then [] else spots_of_word part w

-- The words after it, where it is there.
abbrev pub behind_one : Part → List (List ℕ) → Option (List (List ℕ))
behind_one part [] = None
behind_one part (w ∷ ws) = if fits part w then Some ws else None

-- ---- kinds: `read B`, `write B K`, `fsync`, `nop` and `other`, with `or` between two

-- The part of the word after this one.
abbrev pub part_after : Part → List ℕ → Part
part_after KindWord w = if bytes_eq w (codes "read") then ReadBuffer else (if bytes_eq w (codes "write") then Buffer else Fixed Or)
part_after Buffer w = WriteShares
part_after (Fixed fixed) w = KindWord
part_after _ w = Fixed Or

-- From this part on the words are those of kinds, and with the last a kind is whole.
abbrev pub are_kinds : Part → List (List ℕ) → Bool
are_kinds part [] = is_fixed part
are_kinds part (w ∷ ws) = fits part w && are_kinds (part_after part w) ws

abbrev pub count_or : List (List ℕ) → ℕ
count_or [] = 0
count_or (w ∷ ws) = if bytes_eq w (codes "or") then count_or ws + 1 else count_or ws

-- At most four kinds end the line.
abbrev pub behind_kinds : List (List ℕ) → Option (List (List ℕ))
behind_kinds ws = if are_kinds KindWord ws && nat_le (count_or ws) 3 then Some [] else None

abbrev pub spots_of_kinds : Part → List (List ℕ) → List Spot
spots_of_kinds part [] = []
spots_of_kinds part (w ∷ ws) = spot_of_part part (w ∷ ws) ++ spots_of_kinds (part_after part w) ws

-- ---- lines

-- A list of words is in this part, and one word in each other.
abbrev pub is_list : Part → Bool
is_list Items = true
is_list Kinds = true
is_list _ = false

abbrev pub behind_list : Part → List (List ℕ) → Option (List (List ℕ))
behind_list Kinds ws = behind_kinds ws
behind_list _ ws = Some (behind_items ws)

-- The words after those of a part, where they are there.
abbrev pub behind : Part → List (List ℕ) → Option (List (List ℕ))
behind part ws = if is_list part then behind_list part ws else behind_one part ws

abbrev pub is_end : List (List ℕ) → Bool
is_end [] = true
is_end (w ∷ ws) = false

-- The words are those of the parts, from the left.
abbrev pub matches : List Part → List (List ℕ) → Bool
matches [] ws = is_end ws
matches (part ∷ parts) ws = unwrap_or (option_map (λ rest. matches parts rest) (behind part ws)) false

-- The places of a part's words.
abbrev pub spots_of_list : Part → List (List ℕ) → List Spot
spots_of_list Kinds ws = spots_of_kinds KindWord ws
spots_of_list _ ws = spots_of_items ws

abbrev pub spots_at : Part → List (List ℕ) → List Spot
spots_at part ws = if is_list part then spots_of_list part ws else spot_of_part part ws

-- The places of a line, from the left.
abbrev pub spots_of : List Part → List (List ℕ) → List Spot
spots_of [] ws = []
spots_of (part ∷ parts) ws = spots_at part ws ++ spots_of parts (unwrap_or (behind part ws) [])

-- ---- versions

-- In these places are names.
abbrev pub has_name : Part → Bool
has_name Variable = true
has_name Operand = true
has_name Flag = true
has_name Buffer = true
has_name Pool = true
has_name NewBuffer = true
has_name NewPool = true
has_name NewThread = true
has_name ReadBuffer = true
has_name _ = false

-- In the place of a name is a word that this version reserves.
abbrev pub any_reserved : ℕ → List Spot → Bool
any_reserved version ps = list_any (λ (p : Spot). has_name p.part && is_reserved_by version p.word) ps

-- A model of this version has such a form, with these places.
abbrev pub is_form : ℕ → Row → List Spot → Bool
is_form version row ps = nat_le (version_of row) version && not (any_reserved version ps)

-- ---- the form of a line

-- The first row whose parts these words are.
abbrev pub first_row : List Row → List (List ℕ) → Option Row
first_row [] ws = None
first_row (row ∷ rows) ws = if matches (parts_of row) ws then Some row else first_row rows ws

abbrev pub form_by : ℕ → Option Row → List (List ℕ) → Option Row
form_by version None ws = None
form_by version (Some row) ws = if is_form version row (spots_of (parts_of row) ws) then Some row else None

-- The form of a line with these words in a model of this version.
abbrev pub row_of : ℕ → List (List ℕ) → Option Row
row_of version ws = form_by version (first_row rows ws) ws

abbrev pub spots_by : Option Row → List (List ℕ) → List Spot
spots_by None ws = []
spots_by (Some row) ws = spots_of (parts_of row) ws

-- The places of a line, and none where it has no form.
abbrev pub spots_in : ℕ → List (List ℕ) → List Spot
spots_in version ws = spots_by (row_of version ws) ws
