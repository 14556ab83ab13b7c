-- What the lines of a log say: `THREAD FILE:LINE CALL ARGUMENTS`.
use Rattle.std.specs.Prelude.{ℕ, ◌-◌, ◌^◌, Bool, true, false, ◌&&◌, ◌||◌, not, ◌==◌, nat_le, nat_lt, is_some, if◌then◌else◌, List, [], ◌∷◌, length, position, Option, Some, None, Result, Ok, Err, ℤ, pos, negsuc, codes, option_map, option_and_then, unwrap_or}
use Rattle.std.specs.List.{list_any, slice_split}
use Rattle.std.specs.Option.{ok_or, option_or}
use Rattle.std.specs.Str.{bytes_eq}
use Rattle.rc_lang.specs.declared.lines.Locks.{Locks}
use Rattle.rc_lang.specs.declared.program.File.{File}
use Rattle.rc_lang.specs.declared.program.Token.{Token}
use Rattle.rc_lang.specs.declared.program.TokenKind.{TokenKind}
use Rattle.rc_lang.specs.declared.program.TokenKind.TheVariants as kind
use Rattle.rc_lang.specs.Kinds.{kinds_in}
use Rattle.rc_lang.specs.Locks.{both_locks}
use Rattle.rc_lang.specs.Names.{all_name_bytes, before_bracket, from_bracket, is_lower}
use Rattle.rc_lang.specs.Numbers.{number_of, signed_number_of}
use Rattle.rc_lang.specs.Program.{Buffer, Program, Thread}
use Rattle.rc_log.specs.declared.arguments.Transfer.{Transfer}
use Rattle.rc_log.specs.declared.call.Call.{Call}
use Rattle.rc_log.specs.declared.call.Call.TheVariants.{GetSqe, PrepRead, PrepWrite, PrepFsync, PrepNop, PrepOther, SetData64, Submit, Peek, PeekNone, CqeSeen, SqReady, SqSpaceLeft, Exit, Lock, Unlock, Reads, Writes, Put, Take, Ends, Foreign}
use Rattle.rc_log.specs.declared.call.Lack.{Lack}
use Rattle.rc_log.specs.declared.call.Lack.TheVariants.{NoEntry, NoSuchRequest, NoFlags, FsyncFlags, UnsaidFile, NoFile, UnsaidBuffer, PastBuffer, NoBuffer, NoPool}
use Rattle.rc_log.specs.declared.call.PoolMark.{PoolMark}
use Rattle.rc_log.specs.declared.call.Said.{Said}
use Rattle.rc_log.specs.declared.call.Why.{Why}
use Rattle.rc_log.specs.declared.call.Why.TheVariants.{TooLong, NoHead, NoRing, NoPlace, NoCall, WrongWords}

-- ---- words

-- Words are cut at each blank, so that between two blanks is an empty word.
abbrev pub is_blank : ℕ → Bool
is_blank b = b == 32

abbrev pub words_of : List ℕ → List (List ℕ)
words_of line = slice_split is_blank line

-- whether there is no word; and where there is one, two or four
abbrev pub is_end : List (List ℕ) → Bool
is_end [] = true
is_end (w ∷ ws) = false

abbrev pub one_of : List (List ℕ) → Option (List ℕ)
one_of [] = None
one_of (a ∷ ws) = if is_end ws then Some a else None

abbrev pub two_of : List (List ℕ) → Option (List ℕ × List ℕ)
two_of [] = None
two_of (a ∷ ws) = option_map (λ b. (a, b)) (one_of ws)

abbrev pub four_of : List (List ℕ) → Option (List ℕ × List ℕ × List ℕ × List ℕ)
four_of [] = None
four_of (a ∷ []) = None
four_of (a ∷ b ∷ ws) = option_map (λ w. (a, b, w.0, w.1)) (two_of ws)

-- A name: a small letter, then at most 22 small letters, digits and _.
abbrev pub is_name : List ℕ → Bool
is_name [] = false
is_name (b ∷ bytes) = is_lower b && all_name_bytes bytes && nat_lt (length bytes) 23

-- FILE:LINE: one byte or more that are printed, a colon, and a number.
abbrev pub is_printed : ℕ → Bool
is_printed b = nat_le 33 b && nat_le b 126

abbrev pub is_line : List ℕ → Bool
is_line w = is_some (number_of 0 (2 ^ 32 - 1) w)

abbrev pub goes_on : List ℕ → Bool
goes_on [] = false
goes_on (b ∷ bytes) = (b == 58 && is_line bytes) || (is_printed b && goes_on bytes)

abbrev pub is_place : List ℕ → Bool
is_place [] = false
is_place (b ∷ bytes) = is_printed b && goes_on bytes

-- ---- numbers

abbrev pub count : List ℕ → Option ℕ
count w = number_of 0 (2 ^ 32 - 1) w

-- a length, a place of a file, and user data
abbrev pub long : List ℕ → Option ℕ
long w = number_of 0 (2 ^ 64 - 1) w

-- a call's answer, and a completion's result
abbrev pub answer : List ℕ → Option ℤ
answer w = signed_number_of (negsuc (2 ^ 31 - 1)) (pos (2 ^ 31 - 1)) w

-- ---- threads

-- Nothing, or a copy's number in brackets.
abbrev pub is_copy : List ℕ → Bool
is_copy [] = true
is_copy (b ∷ bytes) = b == 91 && is_some (count (before_bracket bytes)) && bytes_eq (from_bracket bytes) (codes "]")

abbrev pub is_thread : List ℕ → Bool
is_thread w = is_name (before_bracket w) && is_copy (from_bracket w)

-- ---- what the program has

abbrev pub thread_named : Program → List ℕ → Option ℕ
thread_named p w = position (λ (t : Thread). bytes_eq t.name w) p.threads

abbrev pub buffer_named : Program → List ℕ → Option ℕ
buffer_named p w = position (λ (b : Buffer). bytes_eq b.name w) p.buffers

-- The buffer that a word names, or why there is none; nothing where the word is no name.
abbrev pub named_buffer : Program → List ℕ → Option (Result ℕ Lack)
named_buffer p w = if is_name w then Some (ok_or (buffer_named p w) NoBuffer) else None

abbrev pub buffer_of : Program → List ℕ → Option (Result ℕ Lack)
buffer_of p w =
    if bytes_eq w (codes "?") then Some (Err UnsaidBuffer)
    else (if bytes_eq w (codes "!") then Some (Err PastBuffer) else named_buffer p w)

-- the same of a pool
abbrev pub pool_of : Program → List ℕ → Option (Result ℕ Lack)
pool_of p w = if is_name w then Some (ok_or (position (λ n. bytes_eq n w) p.pools) NoPool) else None

abbrev pub declared : Program → ℕ → Result ℕ Lack
declared p n = if list_any (λ (f : File). f.number == n) p.files then Ok n else Err NoFile

abbrev pub file_of : Program → List ℕ → Option (Result ℕ Lack)
file_of p w = if bytes_eq w (codes "-1") then Some (Err UnsaidFile) else option_map (declared p) (number_of 0 (2 ^ 31 - 1) w)

-- ---- the calls, by the words after their first

-- what the call is of a part of the program, or that it has none
abbrev pub of : (ℕ → Call) → Result ℕ Lack → Call
of call (Ok n) = call n
of call (Err lack) = Foreign lack

-- a call without words after it
abbrev pub alone : Call → List (List ℕ) → Option Call
alone call ws = if is_end ws then Some call else None

-- `get_sqe 1`, or `get_sqe 0` where no entry was free
abbrev pub get_sqe : List (List ℕ) → Option Call
get_sqe ws = option_and_then (λ w. option_map (λ n. if n == 1 then GetSqe else Foreign NoEntry) (number_of 0 1 w)) (one_of ws)

-- `prep_read FILE BUFFER LEN OFF` and `prep_write FILE BUFFER LEN OFF`
abbrev pub moved : Result ℕ Lack → Result ℕ Lack → ℕ → Result Transfer Lack
moved (Ok file) (Ok buffer) len = Ok (record { file = file; buffer = buffer; len = len })
moved (Ok file) (Err lack) len = Err lack
moved (Err lack) buffer len = Err lack

abbrev pub transfer_by : Option (Result ℕ Lack) → Option (Result ℕ Lack) → Option ℕ → Option ℕ → Option (Result Transfer Lack)
transfer_by (Some file) (Some buffer) (Some len) (Some off) = Some (moved file buffer len)
transfer_by _ _ _ _ = None

abbrev pub transfer : Program → List (List ℕ) → Option (Result Transfer Lack)
transfer p ws = option_and_then (λ w. transfer_by (file_of p w.0) (buffer_of p w.1) (long w.2) (long w.3)) (four_of ws)

abbrev pub read_of : Result Transfer Lack → Call
read_of (Ok t) = PrepRead t.file t.buffer t.len
read_of (Err lack) = Foreign lack

abbrev pub write_of : Result Transfer Lack → Call
write_of (Ok t) = PrepWrite t.file t.buffer t.len
write_of (Err lack) = Foreign lack

-- `prep_fsync FILE FLAGS`; there is one flag, 1 (io_uring_enter(2))
abbrev pub fsync_of : Result ℕ Lack → ℕ → Call
fsync_of (Ok file) flags = if nat_le flags 1 then PrepFsync file (flags == 1) else Foreign FsyncFlags
fsync_of (Err lack) flags = Foreign lack

abbrev pub fsync_by : Option (Result ℕ Lack) → Option ℕ → Option Call
fsync_by (Some file) (Some flags) = Some (fsync_of file flags)
fsync_by _ _ = None

abbrev pub prep_fsync : Program → List (List ℕ) → Option Call
prep_fsync p ws = option_and_then (λ w. fsync_by (file_of p w.0) (count w.1)) (two_of ws)

-- `prep_other OPCODE` and `flags N`
abbrev pub of_byte : Call → List (List ℕ) → Option Call
of_byte call ws = option_and_then (λ w. option_map (λ n. call) (number_of 0 255 w)) (one_of ws)

abbrev pub is_other : TokenKind → Bool
is_other kind.Other = true
is_other _ = false

-- One of the token's kinds is that of another request.
abbrev pub may_be_other : Token → Bool
may_be_other t = list_any is_other (kinds_in t)

-- A program without a token for another request makes none.
abbrev pub prep_other : Program → Call
prep_other p = if list_any may_be_other p.tokens then PrepOther else Foreign NoSuchRequest

-- `set_data64 TOKEN` and `cqe_seen TOKEN`; `sq_ready N`, `sq_space_left N` and `exit N`
abbrev pub of_token : (ℕ → Call) → List (List ℕ) → Option Call
of_token call ws = option_map call (option_and_then long (one_of ws))

abbrev pub of_count : (ℕ → Call) → List (List ℕ) → Option Call
of_count call ws = option_map call (option_and_then count (one_of ws))

-- `submit ANSWER` and `submit_and_wait WANTED ANSWER`
abbrev pub submit : List (List ℕ) → Option Call
submit ws = option_map (λ n. Submit n) (option_and_then answer (one_of ws))

abbrev pub waited : Option ℕ → Option ℤ → Option Call
waited (Some wanted) (Some n) = Some (Submit n)
waited _ _ = None

abbrev pub submit_and_wait : List (List ℕ) → Option Call
submit_and_wait ws = option_and_then (λ w. waited (count w.0) (answer w.1)) (two_of ws)

-- `peek_cqe none` and `peek_cqe TOKEN RES`
abbrev pub peeked : Option ℕ → Option ℤ → Option Call
peeked (Some u) (Some r) = Some (Peek u r)
peeked _ _ = None

abbrev pub peek_cqe : List (List ℕ) → Option Call
peek_cqe [] = None
peek_cqe (w ∷ ws) = if bytes_eq w (codes "none") then alone PeekNone ws else peeked (long w) (option_and_then answer (one_of ws))

-- `lock`, `lock sq` and `lock cq`; `unlock`, `unlock sq` and `unlock cq`
abbrev pub side : List ℕ → Option Locks
side w =
    if bytes_eq w (codes "sq") then Some (record { sq = true; cq = false })
    else (if bytes_eq w (codes "cq") then Some (record { sq = false; cq = true }) else None)

abbrev pub sides : List (List ℕ) → Option Locks
sides [] = Some both_locks
sides (w ∷ ws) = if is_end ws then side w else None

abbrev pub of_sides : (Locks → Call) → List (List ℕ) → Option Call
of_sides call ws = option_map call (sides ws)

-- `reads BUFFER` and `writes BUFFER`
abbrev pub of_buffer : (ℕ → Call) → Program → List (List ℕ) → Option Call
of_buffer call p ws = option_map (of call) (option_and_then (buffer_of p) (one_of ws))

-- `put POOL` and `put POOL BUFFER`; `take POOL` and `take POOL BUFFER`
abbrev pub unnamed : Result ℕ Lack → Result PoolMark Lack
unnamed (Ok pool) = Ok (record { pool = pool; buffer = None })
unnamed (Err lack) = Err lack

abbrev pub named : Result ℕ Lack → Result ℕ Lack → Result PoolMark Lack
named (Ok pool) (Ok buffer) = Ok (record { pool = pool; buffer = Some buffer })
named (Ok pool) (Err lack) = Err lack
named (Err lack) buffer = Err lack

abbrev pub pool_mark_by : Program → List (List ℕ) → Result ℕ Lack → Option (Result PoolMark Lack)
pool_mark_by p ws pool = if is_end ws then Some (unnamed pool) else option_map (named pool) (option_and_then (buffer_of p) (one_of ws))

abbrev pub pool_mark : Program → List (List ℕ) → Option (Result PoolMark Lack)
pool_mark p [] = None
pool_mark p (w ∷ ws) = option_and_then (pool_mark_by p ws) (pool_of p w)

abbrev pub of_mark : (PoolMark → Call) → Result PoolMark Lack → Call
of_mark call (Ok mark) = call mark
of_mark call (Err lack) = Foreign lack

abbrev pub of_pool : (PoolMark → Call) → Program → List (List ℕ) → Option Call
of_pool call p ws = option_map (of_mark call) (pool_mark p ws)

-- ---- the table

-- The calls that make an entry,
abbrev pub entry_call : Program → List ℕ → List (List ℕ) → Option (Option Call)
entry_call p call ws =
    if bytes_eq call (codes "get_sqe") then Some (get_sqe ws)
    else (if bytes_eq call (codes "prep_read") then Some (option_map read_of (transfer p ws))
    else (if bytes_eq call (codes "prep_write") then Some (option_map write_of (transfer p ws))
    else (if bytes_eq call (codes "prep_fsync") then Some (prep_fsync p ws)
    else (if bytes_eq call (codes "prep_nop") then Some (alone PrepNop ws)
    else (if bytes_eq call (codes "prep_other") then Some (of_byte (prep_other p) ws)
    else (if bytes_eq call (codes "flags") then Some (of_byte (Foreign NoFlags) ws)
    else (if bytes_eq call (codes "set_data64") then Some (of_token SetData64 ws)
    else None)))))))

-- those on the rings,
abbrev pub ring_call : List ℕ → List (List ℕ) → Option (Option Call)
ring_call call ws =
    if bytes_eq call (codes "submit") then Some (submit ws)
    else (if bytes_eq call (codes "submit_and_wait") then Some (submit_and_wait ws)
    else (if bytes_eq call (codes "peek_cqe") then Some (peek_cqe ws)
    else (if bytes_eq call (codes "cqe_seen") then Some (of_token CqeSeen ws)
    else (if bytes_eq call (codes "sq_ready") then Some (of_count SqReady ws)
    else (if bytes_eq call (codes "sq_space_left") then Some (of_count (λ n. SqSpaceLeft) ws)
    else (if bytes_eq call (codes "exit") then Some (of_count Exit ws)
    else None))))))

-- and the mutexes and the marks.
abbrev pub mark : Program → List ℕ → List (List ℕ) → Option (Option Call)
mark p call ws =
    if bytes_eq call (codes "lock") then Some (of_sides Lock ws)
    else (if bytes_eq call (codes "unlock") then Some (of_sides Unlock ws)
    else (if bytes_eq call (codes "reads") then Some (of_buffer Reads p ws)
    else (if bytes_eq call (codes "writes") then Some (of_buffer Writes p ws)
    else (if bytes_eq call (codes "put") then Some (of_pool Put p ws)
    else (if bytes_eq call (codes "take") then Some (of_pool Take p ws)
    else (if bytes_eq call (codes "ends") then Some (alone Ends ws)
    else None))))))

-- What a word and those after it say: nothing where the word is no call's, and no call where those after it aren't its.
abbrev pub call_of : Program → List ℕ → List (List ℕ) → Option (Option Call)
call_of p call ws = option_or (entry_call p call ws) (option_or (ring_call call ws) (mark p call ws))

-- ---- lines

abbrev pub said_by : Option ℕ → Option (Option Call) → Result Said Why
said_by thread None = Err NoCall
said_by thread (Some None) = Err WrongWords
said_by thread (Some (Some call)) = Ok (record { thread = thread; call = call })

-- What the words of a line say.
abbrev pub said_in : Program → List (List ℕ) → Result Said Why
said_in p (thread ∷ place ∷ call ∷ ws) =
    if is_thread thread && is_place place then said_by (thread_named p thread) (call_of p call ws) else Err NoPlace
said_in p _ = Err NoPlace

-- What a line says, which is given without its line feed.
abbrev pub said : Program → List ℕ → Result Said Why
said p line = if nat_lt 4096 (length line) then Err TooLong else said_in p (words_of line)

-- Why a line can't be read, in words.
abbrev pub words_of_why : Why → List ℕ
words_of_why TooLong = codes "longer than 4096 bytes"
words_of_why NoHead = codes "no ringcheck log 1"
words_of_why NoRing = codes "no ring SQ CQ"
words_of_why NoPlace = codes "no thread and place"
words_of_why NoCall = codes "no such call"
words_of_why WrongWords = codes "wrong words after"
