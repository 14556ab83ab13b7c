-- What a read leaves of the bytes handed in, and a write of the file.
use Rattle.std.proofs.Common.{◌≡◌, ℕ, ◌+◌, ◌-◌, ◌<◌, ◌≤◌, max, List, [], ◌∷◌, ◌++◌, length, take, drop, replicate, refl, sym, ◌∙◌, ap, rules, arith, Option, None, Some}
use Rattle.std.proofs.lemmas.List.{append_assoc, take_all, same_lists, places, length-take}
use Rattle.std.proofs.lemmas.Slice.{drop-append-drop}
use Rattle.rc_device.specs.Files.{DiskFile, content_at, read_from, written_to, served_read}

pub filled_front : (content : List ℕ) (off m : ℕ) → off ≤ m → length content ≤ m
    → take off (content ++ replicate (m - length content) 0) ≡ take off (content ++ replicate off 0)
filled_front content off m h l = same_lists _ _ (search (rules, places)) (λ k d w. grind (arith, places))

pub filled_back : (content : List ℕ) (off n m : ℕ) → m ≡ max (length content) (off + n)
    → drop n (drop off (content ++ replicate (m - length content) 0)) ≡ drop (off + n) content
filled_back content off n m e = same_lists _ _ (search (rules, places)) (λ k d w. grind (arith, places))

pub written_some : (content bytes : List ℕ) (off : ℕ) → 0 < length bytes
    → written_to content off bytes ≡ take off (content ++ replicate off 0) ++ bytes ++ drop (off + length bytes) content
written_some content [] off h = absurd (omega arith)
written_some content (b ∷ bytes) off h = refl

-- a file that was filled up with zeros and then written over
pub overwritten : (content x bytes : List ℕ) (off m : ℕ) → 0 < length bytes → m ≡ max (length content) (off + length bytes)
    → x ≡ take m content ++ replicate (m - length content) 0
    → take off x ++ (bytes ++ drop (length bytes) (drop off x)) ≡ written_to content off bytes
overwritten content x bytes off m some e is =
    let whole : take m content ≡ content = take_all m content (omega arith) in
    let is_filled : x ≡ content ++ replicate (m - length content) 0 = is ∙ ap (λ (xs : List ℕ). xs ++ replicate (m - length content) 0) whole in
    let front : take off x ≡ take off (content ++ replicate off 0) = ap (take off) is_filled ∙ filled_front content off m (omega arith) (omega arith) in
    let back : drop (length bytes) (drop off x) ≡ drop (off + length bytes) content =
    ap (λ (xs : List ℕ). drop (length bytes) (drop off xs)) is_filled ∙ filled_back content off (length bytes) m e in
    sym (append_assoc (take off x) bytes (drop (length bytes) (drop off x)))
    ∙ ap (λ (xs : List ℕ). xs ++ bytes ++ drop (length bytes) (drop off x)) front
    ∙ ap (λ (xs : List ℕ). take off (content ++ replicate off 0) ++ bytes ++ xs) back
    ∙ sym (written_some content bytes off some)

-- a read leaves the bytes from its length on
pub rest_stays : (files : List DiskFile) (bytes : List ℕ) (off count n : ℕ) → count ≤ n → (o : Option ℕ)
    → drop n (served_read files bytes off count o).bytes ≡ drop n bytes
rest_stays files bytes off count n h None = refl
rest_stays files bytes off count n h (Some k) =
    let moved : List ℕ = read_from (content_at files k) off count in
    let few : length moved ≤ n = omega (arith, length-take count (drop off (content_at files k))) in
    drop-append-drop (length moved) bytes moved n few refl
