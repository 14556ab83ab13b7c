-- Text as it is shown to a reader: what would move the cursor, end a line or turn the direction of text is escaped.
use Rattle.std.specs.Prelude.{ℕ, Bool, not, ◌&&◌, ◌||◌, ◌==◌, if◌then◌else◌, nat_lt, List, [], ◌∷◌, ◌++◌, codes}
use Rattle.std.specs.Char.{encode_utf8}
use Rattle.std.specs.Char.Escape.{hex_digit_at}
use Rattle.std.specs.List.{flat_map}
use Rattle.std.specs.Str.{chars}

-- a character from the first to one before the last
abbrev pub is_from : ℕ → ℕ → ℕ → Bool
is_from first last c = not (nat_lt c first) && nat_lt c last

-- Control characters (C0, DEL and C1), and the marks that turn the direction of text.
abbrev pub is_hidden : ℕ → Bool
is_hidden c =
    nat_lt c 0x20 || is_from 0x7f 0xa0 c || c == 0x61c || is_from 0x200e 0x2010 c || is_from 0x202a 0x202f c || is_from 0x2066 0x206a c

-- Four hex digits. NUL, which no argument has, is before the two hex digits of a byte that isn't text.
abbrev pub escaped : ℕ → List ℕ
escaped c =
    if c == 0 then codes "\\x" else codes "\\u" ++ hex_digit_at 0x1000 c ∷ hex_digit_at 0x100 c ∷ hex_digit_at 0x10 c ∷ hex_digit_at 1 c ∷ []

abbrev pub shown_char : ℕ → List ℕ
shown_char c = if is_hidden c then escaped c else encode_utf8 c

abbrev pub shown : List ℕ → List ℕ
shown text = flat_map shown_char (chars text)
