-- The least fault of bytes that have a known opcode and not every zero.
use Rattle.std.proofs.Common.{◌≡◌, ◌<◌, Result, Err, List, ℕ, refl, ap, subst, arith}
use Rattle.rc_entry.specs.declared.Entry.{Entry}
use Rattle.rc_entry.specs.declared.EntryFault.{EntryFault}
use Rattle.rc_entry.specs.declared.EntryFault.TheVariants.{UnknownOpcode, NonZeroField, NopFd, FsyncFlags, CompletionFlags}
use Rattle.rc_entry.specs.Spelling.{sqe_opcode, IsKnown, HasZeros, IsFaultOfEntry, IsLeastFault, fault_number}

none_below : (bytes : List ℕ) → IsKnown (sqe_opcode bytes) → (other : EntryFault) → fault_number other < 2 → ¬ IsFaultOfEntry other bytes
none_below bytes known UnknownOpcode lt = λ unknown. unknown known
none_below bytes known _ lt = absurd (omega arith)

nonzero_is_least : (bytes : List ℕ) → IsKnown (sqe_opcode bytes) → ¬ HasZeros bytes → IsLeastFault IsFaultOfEntry bytes NonZeroField
nonzero_is_least bytes known nonzero = record { holds = nonzero; least = none_below bytes known }

no_lesser : (bytes : List ℕ) (f : EntryFault) → IsLeastFault IsFaultOfEntry bytes f → ¬ HasZeros bytes → fault_number f < 3
no_lesser bytes UnknownOpcode least nonzero = omega arith
no_lesser bytes NonZeroField least nonzero = omega arith
no_lesser bytes NopFd least nonzero = absurd (least.least NonZeroField (omega arith) nonzero)
no_lesser bytes FsyncFlags least nonzero = absurd (least.least NonZeroField (omega arith) nonzero)
no_lesser bytes CompletionFlags least nonzero = absurd least.holds

is_nonzero : (bytes : List ℕ) (f : EntryFault) → IsKnown (sqe_opcode bytes) → fault_number f < 3 → IsFaultOfEntry f bytes → NonZeroField ≡ f
is_nonzero bytes UnknownOpcode known lt holds = absurd (holds known)
is_nonzero bytes NonZeroField known lt holds = refl
is_nonzero bytes NopFd known lt holds = absurd (omega arith)
is_nonzero bytes FsyncFlags known lt holds = absurd (omega arith)
is_nonzero bytes CompletionFlags known lt holds = absurd holds

-- NonZeroField is answered exactly where it is the least fault
pub nonzero-answers : (bytes : List ℕ) → IsKnown (sqe_opcode bytes) → ¬ HasZeros bytes → (f : EntryFault)
    → let answer : Result Entry EntryFault = Err NonZeroField in
    (answer ≡ Err f → IsLeastFault IsFaultOfEntry bytes f) × (IsLeastFault IsFaultOfEntry bytes f → answer ≡ Err f)
nonzero-answers bytes known nonzero f = (
  λ is. let same : NonZeroField ≡ f = cc in subst (IsLeastFault IsFaultOfEntry bytes) same (nonzero_is_least bytes known nonzero),
  λ least. ap (λ (g : EntryFault). let answer : Result Entry EntryFault = Err g in answer)
      (is_nonzero bytes f known (no_lesser bytes f least nonzero) least.holds),
)
