-- The fault sentences about a line, given what is above it.
use Rattle.std.specs.Prelude.{ℕ, ◌+◌, unwrap_or, List, [], ◌∷◌, length, take, Option, Some, None, Bool, true, false, ◌&&◌, ◌||◌, not, ◌==◌, nat_lt, nat_le, is_none, if◌then◌else◌, codes}
use Rattle.std.specs.List.{list_any}
use Rattle.std.specs.Str.{bytes_eq}
use Rattle.rc_lang.specs.Kinds.{is_one_kind, kinds_in}
use Rattle.rc_lang.specs.Nesting.{breaks_order, innermost, in_peek, directly_in_peek, locks_in, way_out}
use Rattle.rc_lang.specs.declared.lines.Block.{Block}
use Rattle.rc_lang.specs.declared.lines.Block.TheVariants.{InIf}
use Rattle.rc_lang.specs.declared.program.TokenKind.{TokenKind}
use Rattle.rc_lang.specs.Numbers.{number_of}
use Rattle.rc_read.specs.declared.parts.Region.{Region}
use Rattle.rc_read.specs.declared.parts.Region.TheVariants.{Start, Second, Declarations, InThread, Between}
use Rattle.rc_read.specs.declared.says.Says.{Says}
use Rattle.rc_read.specs.declared.says.Says.TheVariants.{Token, PoolStock, UnnamedStock, Thread, Op, Put, Lock, If, Take, Else, Peek, Case, Other, Nothing, Loop, Break, Close}
use Rattle.rc_read.specs.declared.table.Part.{Part}
use Rattle.rc_read.specs.declared.table.Part.TheVariants as part
use Rattle.rc_read.specs.declared.table.Row.{Row}
use Rattle.rc_read.specs.declared.table.Stand.{Stand}
use Rattle.rc_read.specs.declared.table.Stand.TheVariants as stand
use Rattle.rc_read.specs.declared.values.Item.{Item}
use Rattle.rc_read.specs.declared.values.Item.TheVariants as item
use Rattle.rc_read.specs.Adds.{form_in, places_in, items, says}
use Rattle.rc_read.specs.Sheets.{Sheet, Draft, with_names, names_behind, is_among, buffer_names, thread_names, has_file, has_token, has_unnamed}
use Rattle.rc_read.specs.Spots.{Spot}
use Rattle.rc_read.specs.Table.{stand_of}
use Rattle.rc_read.specs.Values.{any_lacks, start, user_data_of, file_number_of, before_when, behind_when, flag_in}
use Rattle.rc_read.specs.Words.{words_of}

-- ---- P1: among the first 256 bytes is one above 126, or below 32 other than tab and carriage return

abbrev pub is_strange : ℕ → Bool
is_strange b = nat_lt 126 b || (nat_lt b 32 && not (b == 9) && not (b == 13))

abbrev pub any_strange : List ℕ → Bool
any_strange bytes = list_any is_strange bytes

-- ---- P2: the first line with words isn't `ringcheck` and a number from 1 to 5, the second doesn't begin with `ring`

abbrev pub is_version : Option Row → Bool
is_version None = false
is_version (Some row) = is_first (stand_of row)
  where
    is_first : Stand → Bool
    is_first stand.First = true
    is_first _ = false

abbrev pub first_of : List (List ℕ) → List ℕ
first_of [] = []
first_of (w ∷ ws) = w

abbrev pub bad_head : Region → Option Row → List (List ℕ) → Bool
bad_head Start row ws = not (is_version row)
bad_head Second row ws = not (bytes_eq (first_of ws) (codes "ring"))
bad_head _ row ws = false

-- ---- P3: no form, or a form in a wrong part of the model

abbrev pub may_stand : Stand → Region → Bool
may_stand stand.First Start = true
may_stand stand.Second Second = true
may_stand stand.Declaration Declarations = true
may_stand stand.Header Declarations = true
may_stand stand.Header InThread = true
may_stand stand.Header Between = true
may_stand stand.Inside InThread = true
may_stand stand.Brace region = true
may_stand _ region = false

abbrev pub bad_line : Region → Option Row → Bool
bad_line region None = true
bad_line region (Some row) = not (may_stand (stand_of row) region)

-- ---- P4 is `any_lacks`: a word in a number's place is no number or is out of its range

-- ---- P5: a file, a buffer, a token or a pool that isn't declared above

abbrev pub lacks_file : Sheet → Option ℕ → Bool
lacks_file s None = false
lacks_file s (Some n) = not (has_file s.files n)

abbrev pub lacks_token : Sheet → Option ℕ → Bool
lacks_token s None = false
lacks_token s (Some u) = not (has_token s.tokens u)

abbrev pub is_unknown : Sheet → Part → List ℕ → Bool
is_unknown s part.File w = lacks_file s (file_number_of w)
is_unknown s part.Buffer w = not (is_among (buffer_names s.buffers) w)
is_unknown s part.ReadBuffer w = not (is_among (buffer_names s.buffers) w)
is_unknown s part.Pool w = not (is_among s.pools w)
is_unknown s part.Token w = lacks_token s (user_data_of w)
is_unknown s part.HeldToken w = lacks_token s (user_data_of w)
is_unknown s _ w = false

abbrev pub any_unknown : Sheet → List Spot → Bool
any_unknown s ps = list_any (λ (p : Spot). is_unknown s p.part p.word) ps

-- ---- P6: a file, a buffer, a token, a pool or a thread declared twice, an item named twice in a list, a token in both, two kinds of one word and one buffer, a second line of what the pool without a name has

abbrev pub repeats_file : Sheet → Option ℕ → Bool
repeats_file s None = false
repeats_file s (Some n) = has_file s.files n

abbrev pub repeats_token : Sheet → Option ℕ → Bool
repeats_token s None = false
repeats_token s (Some u) = has_token s.tokens u

-- A thread's name is declared from its header on; where no thread is open the draft's is empty, which is no name.
abbrev pub is_double : Sheet → Part → List ℕ → Bool
is_double s part.NewFile w = repeats_file s (file_number_of w)
is_double s part.NewBuffer w = is_among (buffer_names s.buffers) w
is_double s part.NewToken w = repeats_token s (user_data_of w)
is_double s part.NewPool w = is_among s.pools w
is_double s part.NewThread w = is_among (thread_names s.threads) w || bytes_eq s.draft.name w
is_double s _ w = false

abbrev pub any_double : Sheet → List Spot → Bool
any_double s ps = list_any (λ (p : Spot). is_double s p.part p.word) ps

abbrev pub names_same : Item → Item → Bool
names_same (item.Shares b k) (item.Shares c l) = b == c
names_same (item.Token u) (item.Token v) = u == v
names_same (item.Credits n) (item.Credits m) = true
names_same (item.Queued k) (item.Queued l) = true
names_same _ _ = false

-- in one list
abbrev pub any_twice : List Item → Bool
any_twice [] = false
any_twice (i ∷ is) = list_any (names_same i) is || any_twice is

abbrev pub is_token : Item → Bool
is_token (item.Token u) = true
is_token _ = false

-- A token of the one list is in the other.
abbrev pub any_in_both : List Item → List Item → Bool
any_in_both more is = list_any (λ i. is_token i && list_any (names_same i) is) more

abbrev pub any_named_twice : List Item → Bool
any_named_twice is = any_twice (before_when is) || any_twice (behind_when is) || any_in_both (behind_when is) (before_when is)

abbrev pub any_kind_twice : List TokenKind → Bool
any_kind_twice [] = false
any_kind_twice (k ∷ ks) = list_any (is_one_kind k) ks || any_kind_twice ks

-- What a pool with a name has is said where it is declared, so this is said twice of the one without a name alone.
abbrev pub repeats : Sheet → Says → Bool
repeats s (Token t) = any_kind_twice (kinds_in t)
repeats s UnnamedStock = has_unnamed s.stock
repeats s _ = false

-- ---- P7: a closing brace without an open block, an else that closes no first branch, a thread in a thread

abbrev pub is_inside : Region → Bool
is_inside InThread = true
is_inside _ = false

abbrev pub is_first_branch : Option Block → Bool
is_first_branch (Some (InIf o)) = true
is_first_branch _ = false

abbrev pub bad_brace : Sheet → Says → Bool
bad_brace s Close = not (is_inside s.region)
bad_brace s Else = not (is_inside s.region && is_first_branch (innermost s.draft.blocks))
bad_brace s (Thread copies) = is_inside s.region
bad_brace s _ = false

-- ---- P8: line 4,097, more than 256 bytes, a 33rd open block, or one thread, buffer, token, file, pool or variable too many

abbrev pub is_too_long : Sheet → List ℕ → Bool
is_too_long s line = nat_le 4096 s.count || nat_lt 256 (length line)

-- The thread is a block too.
abbrev pub opens_block : Says → Bool
opens_block (Lock l) = true
opens_block (If test) = true
opens_block (Take pool) = true
opens_block (Peek x) = true
opens_block (Case u) = true
opens_block Other = true
opens_block Nothing = true
opens_block Loop = true
opens_block _ = false

abbrev pub is_too_deep : Sheet → Says → Bool
is_too_deep s what = opens_block what && nat_le 31 (length s.draft.blocks)

-- how many threads there may be, all copies counted
abbrev pub most_threads : ℕ → ℕ
most_threads version = if nat_le 5 version then 64 else 16

abbrev pub is_full : Sheet → Part → List ℕ → Bool
is_full s part.NewFile w = nat_le 16 (length s.files)
is_full s part.NewBuffer w = nat_le 64 (length s.buffers)
is_full s part.NewToken w = nat_le 256 (length s.tokens)
is_full s part.NewPool w = nat_le 16 (length s.pools)
is_full s part.NewThread w = nat_le (most_threads s.head.version) (length s.threads)
is_full s part.Copies w = nat_lt 64 (length s.threads + unwrap_or (number_of 1 64 w) 0)
is_full s _ w = false

abbrev pub any_full : Sheet → List Spot → Bool
any_full s ps = list_any (λ (p : Spot). is_full s p.part p.word) ps

abbrev pub has_too_many_names : Sheet → List Spot → Bool
has_too_many_names s spots = nat_lt 64 (length (names_behind s.draft.names spots))

-- ---- P9: a lock that breaks the order of locks, a peek or a loop in a peek, a break outside a loop, queued entries outside a lock of the submission side, after `when`, in what is put or taken or in what a pool has at the start

abbrev pub says_queue : Item → Bool
says_queue (item.Queued k) = true
says_queue _ = false

abbrev pub any_queue : List Item → Bool
any_queue is = list_any says_queue is

abbrev pub bad_nesting : List Block → List Item → Says → Bool
bad_nesting blocks is (Lock l) = breaks_order blocks l
bad_nesting blocks is (Peek x) = in_peek blocks
bad_nesting blocks is Loop = in_peek blocks || (any_queue is && (not (locks_in blocks).sq || any_queue (behind_when is)))
bad_nesting blocks is PoolStock = any_queue is
bad_nesting blocks is UnnamedStock = any_queue is
bad_nesting blocks is (Thread copies) = any_queue is
bad_nesting blocks is (Put pool) = any_queue is
bad_nesting blocks is (Take pool) = any_queue is
bad_nesting blocks is Break = is_none (way_out blocks).loop
bad_nesting blocks is _ = false

-- ---- P10: an arm that isn't directly in a peek, another statement that does, an arm twice, a missing arm

abbrev pub bad_case : Draft → Says → Bool
bad_case d (Case u) = not (directly_in_peek d.blocks) || list_any (λ v. v == u) d.arms.cases
bad_case d Other = not (directly_in_peek d.blocks) || d.arms.other
bad_case d Nothing = not (directly_in_peek d.blocks) || d.arms.none
bad_case d Close = directly_in_peek d.blocks && not (d.arms.other && d.arms.none)
bad_case d (Op op) = directly_in_peek d.blocks
bad_case d (Put pool) = directly_in_peek d.blocks
bad_case d (Lock l) = directly_in_peek d.blocks
bad_case d (If test) = directly_in_peek d.blocks
bad_case d (Take pool) = directly_in_peek d.blocks
bad_case d (Peek x) = directly_in_peek d.blocks
bad_case d Loop = directly_in_peek d.blocks
bad_case d Break = directly_in_peek d.blocks
bad_case d _ = false

-- ---- P11: after `when` is another variable than after the thread's first

abbrev pub other_flag : Option ℕ → Option ℕ → Bool
other_flag (Some x) (Some y) = not (x == y)
other_flag _ _ = false

-- ---- the sentences about a line, by their numbers

abbrev pub form_sentences : Sheet → List ℕ → List (List ℕ) → List (ℕ × Bool)
form_sentences s line ws =
    (2, bad_head s.region (form_in s ws) ws)
    ∷ (3, bad_line s.region (form_in s ws))
    ∷ (4, any_lacks (with_names s (places_in s ws)) start (places_in s ws))
    ∷ (5, any_unknown s (places_in s ws))
    ∷ (6, any_double s (places_in s ws) || any_named_twice (items s ws) || repeats s (says s ws))
    ∷ (7, bad_brace s (says s ws))
    ∷ (8, is_too_long s line || is_too_deep s (says s ws) || any_full s (places_in s ws) || has_too_many_names s (places_in s ws))
    ∷ (9, bad_nesting s.draft.blocks (items s ws) (says s ws))
    ∷ (10, bad_case s.draft (says s ws))
    ∷ (11, other_flag s.draft.flag (flag_in (items s ws)))
    ∷ []

-- A line without words is too long, or nothing is wrong with it but strange bytes.
abbrev pub word_sentences : Sheet → List ℕ → List (List ℕ) → List (ℕ × Bool)
word_sentences s line [] = (8, is_too_long s line) ∷ []
word_sentences s line (w ∷ ws) = form_sentences s line (w ∷ ws)

abbrev pub sentences : Sheet → List ℕ → List (ℕ × Bool)
sentences s line = (1, any_strange (take 256 line)) ∷ word_sentences s line (words_of line)

-- the least number of a true sentence
abbrev pub first_true : List (ℕ × Bool) → Option ℕ
first_true [] = None
first_true ((n, b) ∷ rest) = if b then Some n else first_true rest
