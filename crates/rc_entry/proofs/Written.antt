-- What bytes that are written number by number read as.
use Rattle.std.proofs.Common.{◌≡◌, ℕ, ◌<◌, ◌^◌, ℤ, pos, negsuc, List, ◌∷◌, ◌++◌, replicate, ap, ◌∙◌, refl, sym, subst, arith}
use Rattle.std.specs.Int.{w32, w64, to_le_bytes, cast_unsigned, cast_signed}
use Rattle.std.specs.Prelude.{FitsSigned}
use Rattle.std.proofs.lemmas.Int.{to_z-of_z}
use Rattle.std.proofs.lemmas.Nat.{from_le_bytes-to_le_bytes_4, from_le_bytes-to_le_bytes_8}
use Rattle.std.proofs.lemmas.List.Elements.{All-replicate}
use Rattle.rc_entry.proofs.Bytes.{AreBytes, AreBytes-cons, AreBytes-append, AreBytes-low_first, AreBytes-zeros}
use Rattle.rc_entry.specs.declared.Cqe.{Cqe}
use Rattle.rc_entry.specs.Spelling.{u32_at, u64_at, i32_at, HasFields, SpellsCqe}
use Rattle.rc_entry.specs.Fields.{with_u32, with_u64}

pub cast_unsigned-lt : (z : ℤ) → FitsSigned w32 z → cast_unsigned w32 z < 2 ^ 32
cast_unsigned-lt (pos n) fits = omega arith
cast_unsigned-lt (negsuc n) fits = omega arith

-- the 16 bytes of a completion
abbrev pub cqe_bytes : ℕ → ℕ → List ℕ
cqe_bytes user_data res = to_le_bytes w64 user_data ++ (to_le_bytes w32 res ++ replicate 4 0)

AreBytes-u32 : (n : ℕ) (rest : List ℕ) → AreBytes rest → AreBytes (to_le_bytes w32 n ++ rest)
AreBytes-u32 n rest small = AreBytes-append (to_le_bytes w32 n) rest (AreBytes-low_first 0 4 n) small

AreBytes-u64 : (n : ℕ) (rest : List ℕ) → AreBytes rest → AreBytes (to_le_bytes w64 n ++ rest)
AreBytes-u64 n rest small = AreBytes-append (to_le_bytes w64 n) rest (AreBytes-low_first 0 8 n) small

-- `res` is handed to the write through its bits, as z
pub SpellsCqe-written : (cqe : Cqe) (z : ℤ) (b1 b2 : List ℕ) → cqe.user_data < 2 ^ 64 → FitsSigned w32 cqe.res
    → z ≡ cqe.res → b1 ≡ with_u64 0 cqe.user_data (replicate 16 0) → b2 ≡ with_u32 8 (cast_unsigned w32 z) b1
    → SpellsCqe cqe b2
unfolding u32_at u64_at i32_at
SpellsCqe-written cqe z b1 b2 data_fits res_fits same first second =
    let res = cast_unsigned w32 cqe.res in
    let res_lt = cast_unsigned-lt cqe.res res_fits in
    let is : cqe_bytes cqe.user_data res ≡ b2 =
    sym (second ∙ (ap (with_u32 8 (cast_unsigned w32 z)) first ∙ ap (λ (y : ℤ). cqe_bytes cqe.user_data (cast_unsigned w32 y)) same)) in
    let small = AreBytes-u64 cqe.user_data (to_le_bytes w32 res ++ replicate 4 0)
    (AreBytes-u32 res (replicate 4 0) (AreBytes-zeros 4)) in
    subst (SpellsCqe cqe) is record {
      size = refl;
      small = small;
      user_data_is = from_le_bytes-to_le_bytes_8 cqe.user_data data_fits;
      res_is = ap (cast_signed w32) (from_le_bytes-to_le_bytes_4 res res_lt) ∙ to_z-of_z w32 cqe.res res_fits;
      flags_is = refl;
    }

-- the 64 bytes of a submission entry
abbrev pub sqe_bytes : ℕ → ℕ → ℕ → ℕ → ℕ → ℕ → ℕ → List ℕ
sqe_bytes opcode fd off addr len flags user_data =
    opcode ∷ (replicate 3 0 ++ (to_le_bytes w32 fd ++ (to_le_bytes w64 off ++ (to_le_bytes w64 addr
    ++ (to_le_bytes w32 len ++ (to_le_bytes w32 flags ++ (to_le_bytes w64 user_data ++ replicate 24 0)))))))

sqe_bytes-are_bytes : (opcode fd off addr len flags user_data : ℕ) → opcode < 256
    → AreBytes (sqe_bytes opcode fd off addr len flags user_data)
sqe_bytes-are_bytes opcode fd off addr len flags user_data small =
    let from32 : List ℕ = to_le_bytes w64 user_data ++ replicate 24 0 in
    let from28 : List ℕ = to_le_bytes w32 flags ++ from32 in
    let from24 : List ℕ = to_le_bytes w32 len ++ from28 in
    let from16 : List ℕ = to_le_bytes w64 addr ++ from24 in
    let from8 : List ℕ = to_le_bytes w64 off ++ from16 in
    let from4 : List ℕ = to_le_bytes w32 fd ++ from8 in
    let small32 = AreBytes-u64 user_data (replicate 24 0) (AreBytes-zeros 24) in
    let small28 = AreBytes-u32 flags from32 small32 in
    let small24 = AreBytes-u32 len from28 small28 in
    let small16 = AreBytes-u64 addr from24 small24 in
    let small8 = AreBytes-u64 off from16 small16 in
    let small4 = AreBytes-u32 fd from8 small8 in
    AreBytes-cons opcode (replicate 3 0 ++ from4) small (AreBytes-append (replicate 3 0) from4 (AreBytes-zeros 3) small4)

sqe_bytes-fields : (opcode : ℕ) (fd : ℤ) (off addr len flags user_data : ℕ) → opcode < 256 → FitsSigned w32 fd → off < 2 ^ 64
    → addr < 2 ^ 64 → len < 2 ^ 32 → flags < 2 ^ 32 → user_data < 2 ^ 64
    → HasFields opcode fd off addr len flags user_data (sqe_bytes opcode (cast_unsigned w32 fd) off addr len flags user_data)
unfolding u32_at u64_at i32_at
sqe_bytes-fields opcode fd off addr len flags user_data o f g a l w d = record {
  size = refl;
  small = sqe_bytes-are_bytes opcode (cast_unsigned w32 fd) off addr len flags user_data o;
  opcode_is = refl;
  fd_is = ap (cast_signed w32) (from_le_bytes-to_le_bytes_4 (cast_unsigned w32 fd) (cast_unsigned-lt fd f)) ∙ to_z-of_z w32 fd f;
  off_is = from_le_bytes-to_le_bytes_8 off g;
  addr_is = from_le_bytes-to_le_bytes_8 addr a;
  len_is = from_le_bytes-to_le_bytes_4 len l;
  flags_is = from_le_bytes-to_le_bytes_4 flags w;
  user_data_is = from_le_bytes-to_le_bytes_8 user_data d;
  others = record {
    front = All-replicate (λ byte. byte ≡ 0) 3 0 refl;
    back = All-replicate (λ byte. byte ≡ 0) 24 0 refl;
  };
}

-- `fd` is handed to the write through its bits, as z
pub HasFields-written : (opcode : ℕ) (fd z : ℤ) (off addr len flags user_data : ℕ) (b1 b2 b3 b4 b5 b6 : List ℕ)
    → opcode < 256 → FitsSigned w32 fd → off < 2 ^ 64 → addr < 2 ^ 64 → len < 2 ^ 32 → flags < 2 ^ 32 → user_data < 2 ^ 64
    → z ≡ fd → b1 ≡ with_u32 4 (cast_unsigned w32 z) (opcode ∷ replicate 63 0) → b2 ≡ with_u64 8 off b1
    → b3 ≡ with_u64 16 addr b2 → b4 ≡ with_u32 24 len b3 → b5 ≡ with_u32 28 flags b4 → b6 ≡ with_u64 32 user_data b5
    → HasFields opcode fd off addr len flags user_data b6
HasFields-written opcode fd z off addr len flags user_data b1 b2 b3 b4 b5 b6 o f g a l w d same e1 e2 e3 e4 e5 e6 =
    let i2 = e2 ∙ ap (with_u64 8 off) e1 in
    let i3 = e3 ∙ ap (with_u64 16 addr) i2 in
    let i4 = e4 ∙ ap (with_u32 24 len) i3 in
    let i5 = e5 ∙ ap (with_u32 28 flags) i4 in
    let i6 : b6 ≡ sqe_bytes opcode (cast_unsigned w32 z) off addr len flags user_data = e6 ∙ ap (with_u64 32 user_data) i5 in
    let is = sym (i6 ∙ ap (λ (y : ℤ). sqe_bytes opcode (cast_unsigned w32 y) off addr len flags user_data) same) in
    subst (HasFields opcode fd off addr len flags user_data) is (sqe_bytes-fields opcode fd off addr len flags user_data o f g a l w d)
