-- Marks as bits of words.
use Rattle.std.proofs.Common.{◌≡◌, ℕ, ◌/◌, ◌%◌, ◌<◌, Bool, true, false, cond, ◌&&◌, nat_eq, List, inl, inr, length, get_or, min, zero, suc, refl, sym, ap, subst, ◌∙◌, arith, w64}
use Rattle.std.specs.Prelude.{bit_and, ◌^◌, ◌*◌, ◌≢◌}
use Rattle.std.specs.Int.{bit_at, bit_not}
use Rattle.std.proofs.Math.ListN.{set}
use Rattle.std.proofs.lemmas.Bool.{cases_eq, cases_lt, eq-eqb, eqb-true}
use Rattle.std.proofs.lemmas.List.{get_or-set_same, get_or-set_other}
use Rattle.std.proofs.lemmas.Nat.Bits.{bit_at_and, bit_at_above, bit_at_clear_other, bit_at-lt}
use Rattle.rc_split.specs.Holdings.{is_marked}

-- a word whose bit at a place is this, and whose others are as before
module _ (words : List ℕ) (place word : ℕ) (held : Bool) (within : place % 4 < length words) (same : nat_eq (bit_at word (place / 4)) 1 ≡ held) (others : (i : ℕ) → (i ≡ place / 4 → ⊥) → bit_at word i ≡ bit_at (get_or words (place % 4) 0) i) where
  in_word : (k : ℕ) → k % 4 ≡ place % 4 → get_or (set words (place % 4) word) (k % 4) 0 ≡ word
  in_word k e = ap (λ i. get_or (set words (place % 4) word) i 0) e ∙ get_or-set_same words (place % 4) word 0 within

  apart : (k : ℕ) → (place ≡ k → ⊥) → is_marked (set words (place % 4) word) k ≡ is_marked words k
  apart k ne = elim (cases_eq (k % 4) (place % 4)) [
    | inl e ↦
        ap (λ w. nat_eq (bit_at w (k / 4)) 1) (in_word k e)
        ∙ ap (λ b. nat_eq b 1) (others (k / 4) (λ f. ne (omega (arith, e, f))))
        ∙ ap (λ i. nat_eq (bit_at (get_or words i 0) (k / 4)) 1) (sym e)
    | inr d ↦ ap (λ w. nat_eq (bit_at w (k / 4)) 1) (get_or-set_other words (place % 4) (k % 4) word 0 d)
  ]

  pub mark_written : (k : ℕ) → is_marked (set words (place % 4) word) k ≡ cond (nat_eq place k) held (is_marked words k)
  mark_written k = go (nat_eq place k) refl
    where
      go : (b : Bool) → nat_eq place k ≡ b → is_marked (set words (place % 4) word) k ≡ cond b held (is_marked words k)
      go true e =
          let q : place ≡ k = eqb-true place k e in
          subst (λ n. is_marked (set words (place % 4) word) n ≡ held) q (ap (λ w. nat_eq (bit_at w (place / 4)) 1) (in_word place refl) ∙ same)
      go false e = apart k (λ q. absurd (let g : nat_eq place k ≡ true = eq-eqb place k q in cc (g, e)))

both_bits : (a b : ℕ) → a < 2 → b < 2 → nat_eq (min a b) 1 ≡ (nat_eq a 1 && nat_eq b 1)
both_bits zero b l m = ap (λ x. nat_eq x 1) (let e : min zero b ≡ zero = omega arith in e)
both_bits (suc zero) zero l m = refl
both_bits (suc zero) (suc zero) l m = refl
both_bits (suc zero) (suc (suc b)) l m = absurd (omega (arith, m))
both_bits (suc (suc a)) b l m = absurd (omega (arith, l))

pub none_and : (n : ℕ) → bit_and 0 n ≡ 0
none_and n = refl

-- the marks of words that are met
pub marks_met : (new old others : List ℕ) → ((j : ℕ) → get_or new j 0 ≡ bit_and (get_or old j 0) (get_or others j 0)) → (k : ℕ) → is_marked new k ≡ (is_marked old k && is_marked others k)
marks_met new old others each k =
    let a = get_or old (k % 4) 0 in
    let b = get_or others (k % 4) 0 in
    ap (λ w. nat_eq (bit_at w (k / 4)) 1) (each (k % 4)) ∙ ap (λ x. nat_eq x 1) (bit_at_and a b (k / 4)) ∙ both_bits (bit_at a (k / 4)) (bit_at b (k / 4)) (bit_at-lt a (k / 4)) (bit_at-lt b (k / 4))

-- a bit that is cleared leaves the others, also those that a word of 64 bits hasn't
pub other_bits : (word k i : ℕ) → word < 2 ^ 64 → k < 64 → i ≢ k → bit_at (bit_and word (bit_not w64 (1 * 2 ^ k % 2 ^ 64))) i ≡ bit_at word i
other_bits word k i small within ne = elim (cases_lt i 64) [
  | inl lt ↦ bit_at_clear_other w64 word k within i lt ne
  | inr le ↦
      let none : bit_at word i ≡ 0 = bit_at_above word 64 i small le in
      bit_at_and word (bit_not w64 (1 * 2 ^ k % 2 ^ 64)) i ∙ omega (arith, none)
]
