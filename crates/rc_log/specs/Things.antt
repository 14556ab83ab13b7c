-- What lines say that a program has: `THREAD FILE:LINE` and `buffer NAME SIZE`, `token TOKEN` or `file FILE`.
use Rattle.std.specs.Prelude.{ℕ, ◌-◌, ◌^◌, ◌&&◌, ◌==◌, nat_lt, is_some, if◌then◌else◌, List, [], ◌∷◌, length, Option, Some, None, Result, Ok, Err, codes, option_map, option_and_then}
use Rattle.std.specs.List.{list_any}
use Rattle.std.specs.Str.{bytes_eq}
use Rattle.rc_lang.specs.declared.program.File.{File}
use Rattle.rc_lang.specs.Numbers.{number_of}
use Rattle.rc_lang.specs.Program.{Program, bytes_at, token_place}
use Rattle.rc_log.specs.declared.call.Lack.{Lack}
use Rattle.rc_log.specs.declared.call.Lack.TheVariants.{NoFile, NoBuffer, NoToken, SmallBuffer}
use Rattle.rc_log.specs.declared.call.Why.{Why}
use Rattle.rc_log.specs.declared.call.Why.TheVariants.{TooLong, NoPlace, NoCall, WrongWords}
use Rattle.rc_log.specs.declared.declared.Declared.{Declared}
use Rattle.rc_log.specs.declared.declared.Declared.TheVariants.{Buffer, Token, File as FileThing}
use Rattle.rc_log.specs.Said.{buffer_named, is_name, is_place, long, one_of, two_of, words_of}

-- A buffer of so many bytes, user data, a file.
pub data Thing : Type 0 where
  has_buffer : List ℕ → ℕ → Thing
  has_token : ℕ → Thing
  has_file : ℕ → Thing

abbrev pub thing : Declared → Thing
thing (Buffer name bytes) = has_buffer name.now bytes
thing (Token u) = has_token u
thing (FileThing n) = has_file n

abbrev pub thing_in : Option Declared → Option Thing
thing_in d = option_map thing d

abbrev pub things_in : Option (Option Declared) → Option (Option Thing)
things_in d = option_map thing_in d

abbrev pub thing_or : Result Declared Why → Result Thing Why
thing_or (Ok d) = Ok (thing d)
thing_or (Err why) = Err why

-- ---- lines

abbrev pub buffer_by : List ℕ → List ℕ → Option Thing
buffer_by name bytes = if is_name name then option_map (has_buffer name) (long bytes) else None

abbrev pub buffer_in : List (List ℕ) → Option Thing
buffer_in ws = option_and_then (λ w. buffer_by w.0 w.1) (two_of ws)

abbrev pub token_in : List (List ℕ) → Option Thing
token_in ws = option_map has_token (option_and_then long (one_of ws))

abbrev pub file_in : List (List ℕ) → Option Thing
file_in ws = option_map has_file (option_and_then (number_of 0 (2 ^ 31 - 1)) (one_of ws))

-- What a word and those after it declare: nothing where the word declares none, and no thing where those after it aren't
-- its.
abbrev pub declares : List ℕ → List (List ℕ) → Option (Option Thing)
declares word ws =
    if bytes_eq word (codes "buffer") then Some (buffer_in ws)
    else (if bytes_eq word (codes "token") then Some (token_in ws)
    else (if bytes_eq word (codes "file") then Some (file_in ws)
    else None))

abbrev pub declared_by : Option (Option Thing) → Result Thing Why
declared_by None = Err NoCall
declared_by (Some None) = Err WrongWords
declared_by (Some (Some t)) = Ok t

abbrev pub declared_in : List (List ℕ) → Result Thing Why
declared_in (thread ∷ place ∷ word ∷ ws) = if is_name thread && is_place place then declared_by (declares word ws) else Err NoPlace
declared_in _ = Err NoPlace

-- What a line declares, which is given without its line feed.
abbrev pub declared : List ℕ → Result Thing Why
declared line = if nat_lt 4096 (length line) then Err TooLong else declared_in (words_of line)

-- ---- what the program has of it

abbrev pub lack_by : Program → ℕ → Option ℕ → Option Lack
lack_by p bytes None = Some NoBuffer
lack_by p bytes (Some b) = if nat_lt bytes (bytes_at p.buffers b) then Some (SmallBuffer (bytes_at p.buffers b)) else None

abbrev pub lack_of_buffer : Program → List ℕ → ℕ → Option Lack
lack_of_buffer p name bytes = lack_by p bytes (buffer_named p name)

abbrev pub lack_of_file : Program → ℕ → Option Lack
lack_of_file p n = if list_any (λ (f : File). f.number == n) p.files then None else Some NoFile

-- Why the program hasn't the thing; nothing where it has. Of a buffer it has the bytes or fewer.
abbrev pub lack_of : Program → Thing → Option Lack
lack_of p (has_buffer name bytes) = lack_of_buffer p name bytes
lack_of p (has_token u) = if is_some (token_place p.tokens u) then None else Some NoToken
lack_of p (has_file n) = lack_of_file p n
