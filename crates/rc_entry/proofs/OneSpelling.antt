-- A value has one spelling: each part of the bytes follows from its number, and the bytes from their parts.
use Rattle.std.proofs.Common.{◌≡◌, ℕ, zero, suc, ◌+◌, ◌-◌, ◌<◌, ◌≤◌, ◌^◌, ℤ, List, [], ◌∷◌, ◌++◌, length, drop, slice_range, get_or, replicate, sym, ap, ◌∙◌, refl, arith}
use Rattle.std.specs.Prelude.{All}
use Rattle.std.specs.Int.{w32, w64, from_le_bytes, cast_unsigned}
use Rattle.std.proofs.lemmas.Int.{of_z-to_z}
use Rattle.std.proofs.lemmas.Nat.{le_bytes_4, le_bytes_8}
use Rattle.std.proofs.lemmas.List.{length-take, length-drop, drop_all}
use Rattle.std.proofs.lemmas.List.Folds.{drop_split}
use Rattle.rc_entry.specs.declared.Cqe.{Cqe}
use Rattle.rc_entry.specs.declared.Entry.{Entry}
use Rattle.rc_entry.specs.declared.Entry.TheVariants.{Nop, Fsync, Read, Write}
use Rattle.rc_entry.specs.Spelling.{u32_at, u64_at, i32_at, AreZero, HasFields, SpellsCqe, SpellsEntry}
use Rattle.rc_entry.proofs.Bytes.{AreBytes, AreBytes-take, AreBytes-drop}

length-slice_range : (xs : List ℕ) (from to : ℕ) → from ≤ to → to ≤ length xs → length (slice_range xs from to) ≡ to - from
length-slice_range xs from to le h = omega (arith, length-take (to - from) (drop from xs), length-drop from xs)

AreBytes-slice_range : (xs : List ℕ) (from to : ℕ) → AreBytes xs → AreBytes (slice_range xs from to)
AreBytes-slice_range xs from to small = AreBytes-take (to - from) (drop from xs) (AreBytes-drop from xs small)

same-4 : (xs ys : List ℕ) → length xs ≡ 4 → length ys ≡ 4 → AreBytes xs → AreBytes ys
    → from_le_bytes w32 xs ≡ from_le_bytes w32 ys → xs ≡ ys
same-4 xs ys l m s t same = sym (le_bytes_4 xs (from_le_bytes w32 xs) l s refl) ∙ le_bytes_4 ys (from_le_bytes w32 xs) m t same

same-8 : (xs ys : List ℕ) → length xs ≡ 8 → length ys ≡ 8 → AreBytes xs → AreBytes ys
    → from_le_bytes w64 xs ≡ from_le_bytes w64 ys → xs ≡ ys
same-8 xs ys l m s t same = sym (le_bytes_8 xs (from_le_bytes w64 xs) l s refl) ∙ le_bytes_8 ys (from_le_bytes w64 xs) m t same

same-zeros : (n : ℕ) (xs : List ℕ) → length xs ≡ n → All (λ byte. byte ≡ 0) xs → xs ≡ replicate n 0
same-zeros zero [] l zeros = refl
same-zeros zero (x ∷ xs) l zeros = absurd (omega arith)
same-zeros (suc n) [] l zeros = absurd (omega arith)
same-zeros (suc n) (x ∷ xs) l zeros =
    let here : x ≡ 0 = zeros 0 0 (omega arith) in
    let rest = same-zeros n xs (omega arith) (λ k d within. zeros (suc k) d (omega arith)) in
    λ i. here i ∷ rest i

-- two lists of one length and of bytes
pub record AreAlike (n : ℕ) (xs ys : List ℕ) : Type 0 where
  pub size_x : length xs ≡ n
  pub size_y : length ys ≡ n
  pub small_x : AreBytes xs
  pub small_y : AreBytes ys

-- they agree from a place on
abbrev pub Agree : ℕ → List ℕ → List ℕ → Type 0
Agree from xs ys = drop from xs ≡ drop from ys

agree-before : (xs ys : List ℕ) (from to : ℕ) → from ≤ to → slice_range xs from to ≡ slice_range ys from to → Agree to xs ys → Agree from xs ys
agree-before xs ys from to le part rest =
    drop_split xs from to le ∙ ((λ i. part i ++ rest i) ∙ sym (drop_split ys from to le))

agree-end : (n : ℕ) (xs ys : List ℕ) → AreAlike n xs ys → Agree n xs ys
agree-end n xs ys alike = drop_all n xs (omega arith) ∙ sym (drop_all n ys (omega arith))

agree-u32 : (n : ℕ) (xs ys : List ℕ) (place : ℕ) → place + 4 ≤ n → AreAlike n xs ys → u32_at place xs ≡ u32_at place ys
    → Agree (place + 4) xs ys → Agree place xs ys
unfolding u32_at
agree-u32 n xs ys place fits alike same =
    agree-before xs ys place (place + 4) (omega arith)
    (same-4 (slice_range xs place (place + 4)) (slice_range ys place (place + 4))
    (length-slice_range xs place (place + 4) (omega arith) (omega arith) ∙ omega arith)
    (length-slice_range ys place (place + 4) (omega arith) (omega arith) ∙ omega arith)
    (AreBytes-slice_range xs place (place + 4) alike.small_x) (AreBytes-slice_range ys place (place + 4) alike.small_y) same)

agree-u64 : (n : ℕ) (xs ys : List ℕ) (place : ℕ) → place + 8 ≤ n → AreAlike n xs ys → u64_at place xs ≡ u64_at place ys
    → Agree (place + 8) xs ys → Agree place xs ys
unfolding u64_at
agree-u64 n xs ys place fits alike same =
    agree-before xs ys place (place + 8) (omega arith)
    (same-8 (slice_range xs place (place + 8)) (slice_range ys place (place + 8))
    (length-slice_range xs place (place + 8) (omega arith) (omega arith) ∙ omega arith)
    (length-slice_range ys place (place + 8) (omega arith) (omega arith) ∙ omega arith)
    (AreBytes-slice_range xs place (place + 8) alike.small_x) (AreBytes-slice_range ys place (place + 8) alike.small_y) same)

u32_at-lt : (place : ℕ) (xs : List ℕ) → AreBytes xs → u32_at place xs < 2 ^ 32
unfolding u32_at
u32_at-lt place xs small =
    let part = AreBytes-slice_range xs place (place + 4) small in
    omega (arith, part 0, part 1, part 2, part 3)

agree-i32 : (n : ℕ) (xs ys : List ℕ) (place : ℕ) → place + 4 ≤ n → AreAlike n xs ys → i32_at place xs ≡ i32_at place ys
    → Agree (place + 4) xs ys → Agree place xs ys
unfolding i32_at
agree-i32 n xs ys place fits alike same =
    agree-u32 n xs ys place fits alike
    (sym (of_z-to_z w32 (u32_at place xs) (u32_at-lt place xs alike.small_x))
    ∙ (ap (cast_unsigned w32) same ∙ of_z-to_z w32 (u32_at place ys) (u32_at-lt place ys alike.small_y)))

agree-zeros : (n : ℕ) (xs ys : List ℕ) (from to : ℕ) → from ≤ to → to ≤ n → AreAlike n xs ys → AreZero xs from to → AreZero ys from to
    → Agree to xs ys → Agree from xs ys
agree-zeros n xs ys from to le fits alike zeros_x zeros_y =
    agree-before xs ys from to le
    (same-zeros (to - from) (slice_range xs from to) (length-slice_range xs from to le (omega arith)) zeros_x
    ∙ sym (same-zeros (to - from) (slice_range ys from to) (length-slice_range ys from to le (omega arith)) zeros_y))

first-same : (xs ys : List ℕ) → 0 < length xs → 0 < length ys → get_or xs 0 0 ≡ get_or ys 0 0 → Agree 1 xs ys → xs ≡ ys
first-same [] ys l m same rest = absurd (omega arith)
first-same (x ∷ xs) [] l m same rest = absurd (omega arith)
first-same (x ∷ xs) (y ∷ ys) l m same rest = λ i. same i ∷ rest i

same-fields : (opcode : ℕ) (fd : ℤ) (off addr len flags user_data : ℕ) (xs ys : List ℕ)
    → HasFields opcode fd off addr len flags user_data xs → HasFields opcode fd off addr len flags user_data ys → xs ≡ ys
same-fields opcode fd off addr len flags user_data xs ys h k =
    let alike : AreAlike 64 xs ys = record { size_x = h.size; size_y = k.size; small_x = h.small; small_y = k.small } in
    let from40 = agree-zeros 64 xs ys 40 64 (omega arith) (omega arith) alike h.others.back k.others.back (agree-end 64 xs ys alike) in
    let from32 = agree-u64 64 xs ys 32 (omega arith) alike (h.user_data_is ∙ sym k.user_data_is) from40 in
    let from28 = agree-u32 64 xs ys 28 (omega arith) alike (h.flags_is ∙ sym k.flags_is) from32 in
    let from24 = agree-u32 64 xs ys 24 (omega arith) alike (h.len_is ∙ sym k.len_is) from28 in
    let from16 = agree-u64 64 xs ys 16 (omega arith) alike (h.addr_is ∙ sym k.addr_is) from24 in
    let from8 = agree-u64 64 xs ys 8 (omega arith) alike (h.off_is ∙ sym k.off_is) from16 in
    let from4 = agree-i32 64 xs ys 4 (omega arith) alike (h.fd_is ∙ sym k.fd_is) from8 in
    let from1 = agree-zeros 64 xs ys 1 4 (omega arith) (omega arith) alike h.others.front k.others.front from4 in
    first-same xs ys (omega arith) (omega arith) (h.opcode_is ∙ sym k.opcode_is) from1

pub same-entry : (e : Entry) (xs ys : List ℕ) → SpellsEntry e xs → SpellsEntry e ys → xs ≡ ys
same-entry (Nop user_data) xs ys h k = same-fields _ _ _ _ _ _ _ xs ys h k
same-entry (Fsync fd datasync user_data) xs ys h k = same-fields _ _ _ _ _ _ _ xs ys h k
same-entry (Read fd addr len off user_data) xs ys h k = same-fields _ _ _ _ _ _ _ xs ys h k
same-entry (Write fd addr len off user_data) xs ys h k = same-fields _ _ _ _ _ _ _ xs ys h k

pub same-cqe : (c : Cqe) (xs ys : List ℕ) → SpellsCqe c xs → SpellsCqe c ys → xs ≡ ys
same-cqe c xs ys h k =
    let alike : AreAlike 16 xs ys = record { size_x = h.size; size_y = k.size; small_x = h.small; small_y = k.small } in
    let from12 = agree-u32 16 xs ys 12 (omega arith) alike (h.flags_is ∙ sym k.flags_is) (agree-end 16 xs ys alike) in
    let from8 = agree-i32 16 xs ys 8 (omega arith) alike (h.res_is ∙ sym k.res_is) from12 in
    agree-u64 16 xs ys 0 (omega arith) alike (h.user_data_is ∙ sym k.user_data_is) from8
