-- The sizes of rings that a head says.
use Rattle.std.proofs.Common.{◌≡◌, ℕ, suc, ◌+◌, ◌*◌, ◌^◌, ◌<◌, ◌≤◌, Bool, true, false, cond, nat_le, refl, ap, ◌∙◌, pow-suc, arith}
use Rattle.std.proofs.lemmas.Bool.{leb-false}
use Rattle.rc_lang.specs.declared.program.Head.{Head}
use Rattle.rc_lang.specs.Resolved.{IsRingSize}
use Rattle.rc_read.specs.declared.says.Rings.{Rings}
use Rattle.rc_read.specs.Values.{rounded_up}

-- a power of two up to the limit
power : (k : ℕ) → 2 ^ k ≤ 2048 → IsRingSize 2048 (2 ^ k)
power k h = record { power = (k, refl); within = h }

chosen : (b : Bool) (x y : ℕ) → IsRingSize 2048 x → IsRingSize 2048 y → IsRingSize 2048 (cond b x y)
chosen true x y a b = a
chosen false x y a b = b

ring_size : (n : ℕ) → IsRingSize 2048 (rounded_up n)
ring_size n =
    chosen (nat_le n 1) 1 _ (power 0 (omega arith))
    (chosen (nat_le n 2) 2 _ (power 1 (omega arith))
    (chosen (nat_le n 4) 4 _ (power 2 (omega arith))
    (chosen (nat_le n 8) 8 _ (power 3 (omega arith))
    (chosen (nat_le n 16) 16 _ (power 4 (omega arith))
    (chosen (nat_le n 32) 32 _ (power 5 (omega arith))
    (chosen (nat_le n 64) 64 _ (power 6 (omega arith))
    (chosen (nat_le n 128) 128 _ (power 7 (omega arith))
    (chosen (nat_le n 256) 256 _ (power 8 (omega arith))
    (chosen (nat_le n 512) 512 _ (power 9 (omega arith))
    (chosen (nat_le n 1024) 1024 2048 (power 10 (omega arith)) (power 11 (omega arith))))))))))))

few : (b : Bool) (x y : ℕ) → x ≤ 1024 → (b ≡ false → y ≤ 1024) → cond b x y ≤ 1024
few true x y a h = a
few false x y a h = h refl

few_entries : (n : ℕ) → n ≤ 1024 → rounded_up n ≤ 1024
few_entries n le =
    few (nat_le n 1) 1 _ (omega arith) (λ a.
    few (nat_le n 2) 2 _ (omega arith) (λ b.
    few (nat_le n 4) 4 _ (omega arith) (λ c.
    few (nat_le n 8) 8 _ (omega arith) (λ d.
    few (nat_le n 16) 16 _ (omega arith) (λ e.
    few (nat_le n 32) 32 _ (omega arith) (λ f.
    few (nat_le n 64) 64 _ (omega arith) (λ g.
    few (nat_le n 128) 128 _ (omega arith) (λ h.
    few (nat_le n 256) 256 _ (omega arith) (λ i.
    few (nat_le n 512) 512 _ (omega arith) (λ j.
    few (nat_le n 1024) 1024 2048 (omega arith) (λ k. let lt : 1024 < n = leb-false n 1024 k in absurd (omega arith))))))))))))

-- Rings have the sizes that rings have.
pub record AreRings (rings : Rings) : Type 0 where
  pub entries : IsRingSize 1024 rings.entries
  pub completion_entries : IsRingSize 2048 rings.completion_entries
  pub room : rings.entries ≤ rings.completion_entries
  pub left : rings.left ≤ rings.entries

-- The head says a version and such rings.
pub record IsHead (h : Head) : Type 0 where
  pub version : (1 ≤ h.version) × (h.version ≤ 5)
  pub rings : AreRings (record { entries = h.entries; completion_entries = h.completion_entries; left = h.left })

submission : (size : ℕ) → size ≤ 1024 → IsRingSize 1024 (rounded_up size)
submission size le = record { power = (ring_size size).power; within = few_entries size le }

double : (k : ℕ) → 2 * 2 ^ k ≡ 2 ^ (k + 1)
double k = let n : suc k ≡ k + 1 = omega arith in let p : 2 ^ suc k ≡ 2 ^ k * 2 = pow-suc 2 k in let q : 2 ^ suc k ≡ 2 ^ (k + 1) = ap (λ m. 2 ^ m) n in omega arith

twice : (n : ℕ) → IsRingSize 1024 n → IsRingSize 2048 (2 * n)
twice n h = record {
  power = (h.power.0 + 1, ap (λ m. 2 * m) h.power.1 ∙ double h.power.0);
  within = let le : n ≤ 1024 = h.within in omega arith;
}

pub one_size : (size left : ℕ) → size ≤ 1024 → left ≤ rounded_up size → AreRings (record { entries = rounded_up size; completion_entries = 2 * rounded_up size; left = left })
one_size size left le few = record { entries = submission size le; completion_entries = twice (rounded_up size) (submission size le); room = omega arith; left = few }

pub two_sizes : (size completion left : ℕ) → size ≤ 1024 → rounded_up size ≤ rounded_up completion → left ≤ rounded_up size → AreRings (record { entries = rounded_up size; completion_entries = rounded_up completion; left = left })
two_sizes size completion left le room few = record { entries = submission size le; completion_entries = ring_size completion; room = room; left = few }

pub head_start : IsHead (record { version = 1; entries = 1; completion_entries = 2; left = 0 })
head_start = record { version = (omega arith, omega arith); rings = one_size 0 0 (omega arith) (omega arith) }
