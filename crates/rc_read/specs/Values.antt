-- What the words of a line say in their places.
use Rattle.std.specs.Prelude.{ℕ, ◌+◌, ◌-◌, ◌^◌, List, [], ◌∷◌, take, drop, position, Option, Some, None, Bool, true, false, ◌||◌, ◌&&◌, not, nat_le, is_none, option_map, unwrap_or, if◌then◌else◌, ℤ, pos, negsuc, codes}
use Rattle.std.specs.Str.{bytes_eq}
use Rattle.rc_lang.specs.declared.lines.Comparison.{Comparison}
use Rattle.rc_lang.specs.declared.lines.Operand.TheVariants as operand
use Rattle.rc_lang.specs.declared.program.TokenKind.{TokenKind}
use Rattle.rc_lang.specs.declared.program.TokenKind.TheVariants as kind
use Rattle.rc_lang.specs.Numbers.{is_number, number_of, signed_number_of}
use Rattle.rc_read.specs.declared.table.Part.{Part}
use Rattle.rc_read.specs.declared.table.Part.TheVariants as part
use Rattle.rc_read.specs.declared.table.Range.{Range}
use Rattle.rc_read.specs.declared.table.Range.TheVariants.{Within, Size, CompletionSize, Rounded, Entries, Shares}
use Rattle.rc_read.specs.declared.values.Item.{Item as ItemOf}
use Rattle.rc_read.specs.declared.values.Item.TheVariants as item
use Rattle.rc_read.specs.declared.values.Seen.{Seen}
use Rattle.rc_read.specs.declared.values.Value.{Value}
use Rattle.rc_read.specs.declared.values.Value.TheVariants.{Nothing, Small, UserData, Named, Operand, Compares, Item, Kind}
use Rattle.rc_read.specs.Sheets.{Sheet, number_in, buffer_number, shares_in}
use Rattle.rc_read.specs.Spots.{Spot, begins_number, comparison_of}

-- ---- numbers

-- the first of these numbers that isn't below n
abbrev pub first_from : ℕ → List ℕ → ℕ
first_from n [] = 2048
first_from n (p ∷ ps) = if nat_le n p then p else first_from n ps

-- A ring has the least power of two that isn't below the number asked for, up to 2048 (io_uring_setup(2)).
abbrev pub rounded_up : ℕ → ℕ
rounded_up n = first_from n (1 ∷ 2 ∷ 4 ∷ 8 ∷ 16 ∷ 32 ∷ 64 ∷ 128 ∷ 256 ∷ 512 ∷ 1024 ∷ [])

-- Of a completion ring are asked at least as many entries as the submission ring has.
abbrev pub with_room : ℕ → Option ℕ → Option ℕ
with_room entries None = None
with_room entries (Some n) = if nat_le entries (rounded_up n) then Some n else None

-- Of a buffer that isn't declared any number from 1 on is in its range.
abbrev pub any_share : List ℕ → Option ℕ
any_share w = if is_number w && not (bytes_eq w (codes "0")) then Some 1 else None

abbrev pub share_number : Option ℕ → List ℕ → Option ℕ
share_number None w = any_share w
share_number (Some shares) w = number_of 1 shares w

-- The number that a word spells, where it lies in a range.
abbrev pub number_at : Sheet → Seen → Range → List ℕ → Option ℕ
number_at s seen (Within low high) w = number_of low high w
number_at s seen Size w = number_of 1 1024 w
number_at s seen CompletionSize w = with_room seen.rounded (number_of 1 2048 w)
number_at s seen Rounded w = number_of 0 seen.rounded w
number_at s seen Entries w = number_of 0 s.head.entries w
number_at s seen Shares w = share_number seen.shares w

abbrev pub signed_of : List ℕ → Option ℤ
signed_of w = signed_number_of (negsuc (2 ^ 63 - 1)) (pos (2 ^ 63 - 1)) w

abbrev pub user_data_of : List ℕ → Option ℕ
user_data_of w = number_of 0 (2 ^ 64 - 1) w

abbrev pub file_number_of : List ℕ → Option ℕ
file_number_of w = number_of 0 1023 w

-- ---- places

abbrev pub small_value : Option ℕ → Option Value
small_value n = option_map (λ n. Small n) n

abbrev pub item_value : (ℕ → ItemOf) → Option ℕ → Option Value
item_value item_of n = option_map (λ n. Item (item_of n)) n

abbrev pub signed_value : List ℕ → Option Value
signed_value w = option_map (λ n. Operand (operand.Number n)) (signed_of w)

abbrev pub operand_of : Sheet → List ℕ → Option Value
operand_of s w = if begins_number w then signed_value w else Some (Operand (operand.Variable (number_in s.draft.names w)))

abbrev pub comparison_value : Option Comparison → Value
comparison_value None = Nothing
comparison_value (Some c) = Compares c

-- the kind that a word is without a buffer
abbrev pub kind_alone : List ℕ → Value
kind_alone w =
    if bytes_eq w (codes "fsync") then Kind kind.Fsync
    else (if bytes_eq w (codes "nop") then Kind kind.Nop
    else (if bytes_eq w (codes "other") then Kind kind.Other else Nothing))

-- a write of the buffer before
abbrev pub write_value : Seen → Option ℕ → Option Value
write_value seen n = option_map (λ k. Kind (kind.Write seen.buffer k)) n

-- What the word of a place says; none where the place is a number's and the word is no number or is out of its range.
abbrev pub value_at : Sheet → Seen → Part → List ℕ → Option Value
value_at s seen part.Variable w = Some (Named (number_in s.draft.names w))
value_at s seen part.Operand w = operand_of s w
value_at s seen part.Comparison w = Some (comparison_value (comparison_of w))
value_at s seen part.Signed w = signed_value w
value_at s seen (part.Number range) w = small_value (number_at s seen range w)
value_at s seen part.File w = small_value (file_number_of w)
value_at s seen part.NewFile w = small_value (file_number_of w)
value_at s seen part.Buffer w = Some (Named (buffer_number s.buffers w))
value_at s seen part.Pool w = Some (Named (number_in s.pools w))
value_at s seen part.Token w = option_map (λ u. UserData u) (user_data_of w)
value_at s seen part.NewToken w = option_map (λ u. UserData u) (user_data_of w)
value_at s seen part.Flag w = Some (Item (item.When (number_in s.draft.names w)))
value_at s seen part.HeldShares w = item_value (item.Shares seen.buffer) (number_of 1 16 w)
value_at s seen part.HeldToken w = item_value item.Token (user_data_of w)
value_at s seen part.Credits w = item_value item.Credits (number_of 0 2048 w)
value_at s seen part.Queued w = item_value item.Queued (number_of 0 s.head.entries w)
value_at s seen part.KindWord w = Some (kind_alone w)
value_at s seen part.ReadBuffer w = Some (Kind (kind.Read (buffer_number s.buffers w)))
value_at s seen part.Copies w = small_value (number_of 1 64 w)
value_at s seen part.WriteShares w = write_value seen (share_number seen.shares w)
value_at s seen _ w = Some Nothing

-- What a place says of those after it: the entries of a submission ring, and a buffer.
abbrev pub start : Seen
start = record { rounded = 1; buffer = 0; shares = None }

abbrev pub sized : Seen → Option ℕ → Seen
sized seen None = seen
sized seen (Some n) = record seen { rounded = rounded_up n }

abbrev pub seen_behind : Sheet → Seen → Part → List ℕ → Seen
seen_behind s seen (part.Number Size) w = sized seen (number_of 1 1024 w)
seen_behind s seen part.Buffer w = record seen { buffer = buffer_number s.buffers w; shares = shares_in s.buffers w }
seen_behind s seen _ w = seen

-- ---- lines

-- A word in a number's place is no number or is out of its range.
abbrev pub any_lacks : Sheet → Seen → List Spot → Bool
any_lacks s seen [] = false
any_lacks s seen (p ∷ ps) = is_none (value_at s seen p.part p.word) || any_lacks s (seen_behind s seen p.part p.word) ps

abbrev pub values_of : Sheet → Seen → List Spot → List Value
values_of s seen [] = []
values_of s seen (p ∷ ps) = unwrap_or (value_at s seen p.part p.word) Nothing ∷ values_of s (seen_behind s seen p.part p.word) ps

-- The items of a line, and among them the variable that it names after `when`.
abbrev pub items_in : List Value → List ItemOf
items_in [] = []
items_in (Item i ∷ vs) = i ∷ items_in vs
items_in (v ∷ vs) = items_in vs

-- the kinds that it names
abbrev pub kinds_named : List Value → List TokenKind
kinds_named [] = []
kinds_named (Kind k ∷ vs) = k ∷ kinds_named vs
kinds_named (v ∷ vs) = kinds_named vs

-- ---- the two lists of a line, before `when` and after it

abbrev pub is_when : ItemOf → Bool
is_when (item.When x) = true
is_when _ = false

abbrev pub before_at : List ItemOf → Option ℕ → List ItemOf
before_at is None = is
before_at is (Some i) = take i is

abbrev pub behind_at : List ItemOf → Option ℕ → List ItemOf
behind_at is None = []
behind_at is (Some i) = drop (i + 1) is

abbrev pub before_when : List ItemOf → List ItemOf
before_when is = before_at is (position is_when is)

abbrev pub behind_when : List ItemOf → List ItemOf
behind_when is = behind_at is (position is_when is)

-- The variable that a line names after `when`.
abbrev pub flag_in : List ItemOf → Option ℕ
flag_in [] = None
flag_in (item.When x ∷ is) = Some x
flag_in (i ∷ is) = flag_in is
