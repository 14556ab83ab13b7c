-- Numbers in bytes: `byteorder` reads and writes them as std's conversions do, and those turn back.
use Rattle.std.proofs.Common.{◌≡◌, ℕ, zero, suc, ◌/◌, ◌<◌, ◌^◌, List, [], ◌∷◌, ◌++◌, take, drop, get_or, replicate, arith}
use Rattle.std.specs.Int.{w32, w64, from_le_bytes, bytes_low_first, byte_at}
use Rattle.std.proofs.Math.Nat.{mod-lt}
use Rattle.byteorder.specs.Endian.{little_number}

pub little_number-4 : (xs : List ℕ) → little_number 4 xs ≡ from_le_bytes w32 xs
little_number-4 xs = omega arith

pub little_number-8 : (xs : List ℕ) → little_number 8 xs ≡ from_le_bytes w64 xs
little_number-8 xs = omega arith

-- each is a byte
abbrev pub AreBytes : List ℕ → Type 0
AreBytes xs = (i : ℕ) → get_or xs i 0 < 256

pub AreBytes-cons : (x : ℕ) (xs : List ℕ) → x < 256 → AreBytes xs → AreBytes (x ∷ xs)
AreBytes-cons x xs here rest zero = here
AreBytes-cons x xs here rest (suc i) = rest i

pub AreBytes-append : (xs ys : List ℕ) → AreBytes xs → AreBytes ys → AreBytes (xs ++ ys)
AreBytes-append [] ys f g = g
AreBytes-append (x ∷ xs) ys f g = AreBytes-cons x (xs ++ ys) (f 0) (AreBytes-append xs ys (λ i. f (suc i)) g)

pub AreBytes-nil : AreBytes []
AreBytes-nil i = omega arith

pub AreBytes-zeros : (n : ℕ) → AreBytes (replicate n 0)
AreBytes-zeros zero = AreBytes-nil
AreBytes-zeros (suc n) = AreBytes-cons 0 (replicate n 0) (omega arith) (AreBytes-zeros n)

byte_at-lt : (i n : ℕ) → byte_at i n < 256
byte_at-lt zero n = omega arith
byte_at-lt (suc i) n = mod-lt (n / 256 ^ suc i) (omega arith)

pub AreBytes-low_first : (i k n : ℕ) → AreBytes (bytes_low_first i k n)
AreBytes-low_first i zero n = AreBytes-nil
AreBytes-low_first i (suc k) n =
    AreBytes-cons (byte_at i n) (bytes_low_first (suc i) k n) (byte_at-lt i n) (AreBytes-low_first (suc i) k n)

pub AreBytes-take : (n : ℕ) (xs : List ℕ) → AreBytes xs → AreBytes (take n xs)
AreBytes-take zero xs small = AreBytes-nil
AreBytes-take (suc n) [] small = AreBytes-nil
AreBytes-take (suc n) (x ∷ xs) small = AreBytes-cons x (take n xs) (small 0) (AreBytes-take n xs (λ i. small (suc i)))

pub AreBytes-drop : (n : ℕ) (xs : List ℕ) → AreBytes xs → AreBytes (drop n xs)
AreBytes-drop zero xs small = small
AreBytes-drop (suc n) [] small = AreBytes-nil
AreBytes-drop (suc n) (x ∷ xs) small = AreBytes-drop n xs (λ i. small (suc i))
