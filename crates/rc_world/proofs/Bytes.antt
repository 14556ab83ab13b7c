-- The bytes of a buffer, of which the first are listed and each after them is the same.
use Rattle.std.proofs.Common.{◌≡◌, ◌+◌, ◌-◌, ◌<◌, ◌≤◌, ℕ, List, ◌++◌, drop, length, replicate, slice_set, append_assoc, ap, sym, ◌∙◌, arith}
use Rattle.std.proofs.lemmas.List.{drop-append-le, length-append, length-drop, length-replicate, length-set, replicate-append-replicate, set-append_left}
use Rattle.rc_world.specs.Parts.{bytes_in, refilled}

sized : (count rest : ℕ) (first : List ℕ) → length (bytes_in count rest first) ≡ length first + (count - length first)
sized count rest first = length-append first (replicate (count - length first) rest) ∙ ap (λ n. length first + n) (length-replicate (count - length first) rest)

pub as_long : (len rest : ℕ) (first : List ℕ) → length first ≤ len → length (bytes_in len rest first) ≡ len
as_long len rest first le = let size = sized len rest first in omega arith

-- more of them are listed
pub grown : (len count rest : ℕ) (first : List ℕ) → count ≤ len → bytes_in len rest (bytes_in count rest first) ≡ bytes_in len rest first
grown len count rest first le =
    let size : length (bytes_in count rest first) ≡ length first + (count - length first) = sized count rest first in
    let more : (count - length first) + (len - length (bytes_in count rest first)) ≡ len - length first = omega arith in
    append_assoc first (replicate (count - length first) rest) (replicate (len - length (bytes_in count rest first)) rest)
    ∙ ap (λ xs. first ++ xs)
    (replicate-append-replicate (count - length first) (len - length (bytes_in count rest first)) rest ∙ ap (λ n. replicate n rest) more)

-- a byte is written among them
pub stored : (len i rest byte : ℕ) (first new : List ℕ) → i < len → new ≡ bytes_in (i + 1) rest first → bytes_in len rest (slice_set new i byte) ≡ slice_set (bytes_in len rest first) i byte
stored len i rest byte first new lt e =
    let size : length new ≡ length first + ((i + 1) - length first) = ap length e ∙ sized (i + 1) rest first in
    let there : i < length new = omega arith in
    let le : i + 1 ≤ len = omega arith in
    ap (λ n. slice_set new i byte ++ replicate (len - n) rest) (length-set new i byte)
    ∙ sym (set-append_left new (replicate (len - length new) rest) i byte there)
    ∙ ap (λ xs. slice_set xs i byte) (ap (bytes_in len rest) e ∙ grown len (i + 1) rest first le)

-- the first ones are all written
pub written : (len count fill rest : ℕ) (first new last : List ℕ) → count ≤ len → new ≡ bytes_in count rest first → last ≡ refilled count fill new → bytes_in len rest last ≡ refilled count fill (bytes_in len rest first)
written len count fill rest first new last le e f =
    let size : length new ≡ length first + (count - length first) = ap length e ∙ sized count rest first in
    let there : count ≤ length new = omega arith in
    let same : length last ≡ length new =
    ap length f ∙ length-append (replicate count fill) (drop count new) ∙ ap (λ n. n + length (drop count new)) (length-replicate count fill)
    ∙ ap (λ n. count + n) (length-drop count new) ∙ (let sum : count + (length new - count) ≡ length new = omega arith in sum) in
    ap (λ xs. xs ++ replicate (len - length last) rest) f
    ∙ ap (λ n. refilled count fill new ++ replicate (len - n) rest) same
    ∙ append_assoc (replicate count fill) (drop count new) (replicate (len - length new) rest)
    ∙ ap (λ xs. replicate count fill ++ xs) (sym (drop-append-le count new (replicate (len - length new) rest) there))
    ∙ ap (refilled count fill) (ap (bytes_in len rest) e ∙ grown len count rest first le)
