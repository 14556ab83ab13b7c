-- Escapes of a JSON string that are one half of a surrogate pair, without the other.
use Rattle.std.specs.Prelude.{ℕ, zero, suc, ◌+◌, ◌&&◌, ◌||◌, ◌==◌, Bool, not, if◌then◌else◌, nat_le, List, ◌++◌, codes, drop, get_or, length, take}

abbrev pub is_between : ℕ → ℕ → ℕ → Bool
is_between first last b = nat_le first b && nat_le b last

-- the letters from one to another, small and large
abbrev pub is_letter_between : ℕ → ℕ → ℕ → Bool
is_letter_between first last b = is_between (97 + first) (97 + last) b || is_between (65 + first) (65 + last) b

abbrev pub is_hex : ℕ → Bool
is_hex b = is_between 48 57 b || is_letter_between 0 5 b

-- Bytes begin with `\u`, a d, such a digit and two more.
abbrev pub begins_half : (ℕ → Bool) → List ℕ → Bool
begins_half is_second bytes =
    (get_or bytes 0 0 == 92) && (get_or bytes 1 0 == 117) && is_letter_between 3 3 (get_or bytes 2 0)
    && is_second (get_or bytes 3 0) && is_hex (get_or bytes 4 0) && is_hex (get_or bytes 5 0)

-- the first half: `\ud800` to `\udbff`
abbrev pub begins_high : List ℕ → Bool
begins_high bytes = begins_half (λ b. is_between 56 57 b || is_letter_between 0 1 b) bytes

-- the second half: `\udc00` to `\udfff`
abbrev pub begins_low : List ℕ → Bool
begins_low bytes = begins_half (is_letter_between 2 5) bytes

abbrev pub begins_pair : List ℕ → Bool
begins_pair bytes = begins_high bytes && begins_low (drop 6 bytes)

-- how many bytes belong together at the beginning
abbrev pub piece_length : List ℕ → ℕ
piece_length bytes =
    if begins_pair bytes then 12
    else (if begins_high bytes || begins_low bytes then 6
    else (if get_or bytes 0 0 == 92 then 2 else 1))

-- They stay, but U+FFFD stands for a half alone.
abbrev pub repaired_piece : List ℕ → List ℕ
repaired_piece bytes =
    if not (begins_pair bytes) && (begins_high bytes || begins_low bytes) then codes "\\ufffd"
    else take (piece_length bytes) bytes

abbrev pub repaired_in : ℕ → List ℕ → List ℕ
repaired_in zero bytes = bytes
repaired_in (suc n) bytes = repaired_piece bytes ++ repaired_in n (drop (piece_length bytes) bytes)

-- The bytes with U+FFFD for each half of a pair that is alone.
abbrev pub repaired : List ℕ → List ℕ
repaired bytes = repaired_in (length bytes) bytes
