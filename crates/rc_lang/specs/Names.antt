-- Which words are names.
use Rattle.std.specs.Prelude.{ℕ, List, [], ◌∷◌, ◌++◌, length, drop, Option, Some, None, Bool, false, ◌&&◌, ◌||◌, not, ◌==◌, nat_lt, nat_le, codes, decimal}
use Rattle.std.specs.List.{before_first, list_all, position_or_len}
use Rattle.std.specs.Str.{bytes_eq}
use Rattle.rc_lang.specs.Numbers.{is_digit}

abbrev pub is_lower : ℕ → Bool
is_lower b = nat_le 97 b && nat_le b 122

abbrev pub is_name_byte : ℕ → Bool
is_name_byte b = is_lower b || is_digit b || b == 95

abbrev pub all_name_bytes : List ℕ → Bool
all_name_bytes bytes = list_all is_name_byte bytes

-- The words that are no names: those of the head, of declarations and items,
abbrev pub is_heading : List ℕ → Bool
is_heading w =
    bytes_eq w (codes "ringcheck") || bytes_eq w (codes "ring") || bytes_eq w (codes "left") || bytes_eq w (codes "file") || bytes_eq w (codes "buffer")
    || bytes_eq w (codes "token") || bytes_eq w (codes "thread") || bytes_eq w (codes "holds") || bytes_eq w (codes "t") || bytes_eq w (codes "c") || bytes_eq w (codes "q")

-- those of what a thread does alone,
abbrev pub is_acting : List ℕ → Bool
is_acting w =
    bytes_eq w (codes "read") || bytes_eq w (codes "write") || bytes_eq w (codes "fsync") || bytes_eq w (codes "nop") || bytes_eq w (codes "load")
    || bytes_eq w (codes "store") || bytes_eq w (codes "fill") || bytes_eq w (codes "print") || bytes_eq w (codes "lock")

-- those of the calls on the ring,
abbrev pub is_calling : List ℕ → Bool
is_calling w =
    bytes_eq w (codes "get_sqe") || bytes_eq w (codes "prep_read") || bytes_eq w (codes "prep_write") || bytes_eq w (codes "prep_fsync") || bytes_eq w (codes "prep_nop")
    || bytes_eq w (codes "set_data64") || bytes_eq w (codes "submit") || bytes_eq w (codes "submit_and_wait") || bytes_eq w (codes "peek_cqe") || bytes_eq w (codes "cqe_seen")

-- and those of branches.
abbrev pub is_branching : List ℕ → Bool
is_branching w =
    bytes_eq w (codes "case") || bytes_eq w (codes "other") || bytes_eq w (codes "none") || bytes_eq w (codes "if") || bytes_eq w (codes "else") || bytes_eq w (codes "loop")
    || bytes_eq w (codes "keeps") || bytes_eq w (codes "break") || bytes_eq w (codes "sq_ready") || bytes_eq w (codes "sq_space_left") || bytes_eq w (codes "kernel")

abbrev pub is_reserved : List ℕ → Bool
is_reserved w = is_heading w || is_acting w || is_calling w || is_branching w

-- those of what is put and taken
abbrev pub is_of_pool : List ℕ → Bool
is_of_pool w = bytes_eq w (codes "put") || bytes_eq w (codes "take")

-- those of version 5
abbrev pub is_of_fifth : List ℕ → Bool
is_of_fifth w =
    bytes_eq w (codes "any") || bytes_eq w (codes "by") || bytes_eq w (codes "or") || bytes_eq w (codes "cqe_get_data64") || bytes_eq w (codes "prep_other")

-- The words that a later version of the notation reserves besides: in its models they are no names either.
abbrev pub is_reserved_by : ℕ → List ℕ → Bool
is_reserved_by version w =
    (nat_le 2 version && bytes_eq w (codes "when")) || (nat_le 3 version && is_of_pool w) || (nat_le 4 version && bytes_eq w (codes "pool")) || (nat_le 5 version && is_of_fifth w)

-- A name: a lower case letter, then up to 15 lower case letters, digits or _, and no reserved word.
abbrev pub is_spelt : List ℕ → Bool
is_spelt [] = false
is_spelt (b ∷ bytes) = is_lower b && all_name_bytes bytes && nat_lt (length bytes) 16

abbrev pub is_name : List ℕ → Bool
is_name w = is_spelt w && not (is_reserved w)

-- What is before the first bracket of a word, and what is from it on.
abbrev pub is_bracket : ℕ → Bool
is_bracket b = b == 91 || b == 93

abbrev pub before_bracket : List ℕ → List ℕ
before_bracket w = before_first is_bracket w

abbrev pub from_bracket : List ℕ → List ℕ
from_bracket w = drop (position_or_len is_bracket w) w

-- A copy of a thread has its number after the name, in brackets.
abbrev pub numbered : List ℕ → Option ℕ → List ℕ
numbered name None = name
numbered name (Some copy) = name ++ (codes "[" ++ decimal copy ++ codes "]")
