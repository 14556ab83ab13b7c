-- What the verifier answers.
use Rattle.std.specs.Prelude.{ℕ, ◌≡◌, ◌⊎◌, Result, Ok, Err, Some, length, slice_get}
use Rattle.rc_lang.specs.declared.lines.Line.{Line}
use Rattle.rc_lang.specs.Program.{Program, Thread}
use Rattle.rc_lang.specs.Views.{view_of}
use Rattle.rc_rules.specs.Causes.{premise_number}
use Rattle.rc_rules.specs.Labellings.{HasLabels, Passes, Accepts, IsHeaderRefused, IsBodyRefused, IsPoolRefused, IsRefused, IsRefusedAt, IsThreadRefused, pool_asks}
use Rattle.rc_rules.specs.Premises.{Meets}
use Rattle.rc_verify.specs.declared.refusal.Refusal.{Refusal}
use Rattle.rc_verify.specs.declared.refusal.VerifyFault.{VerifyFault}
use Rattle.rc_verify.specs.declared.refusal.VerifyFault.TheVariants.{Refused, OutOfMemory}

-- It is so of the thread with this number.
abbrev pub OnThread : Program → ℕ → (Thread → Type 0) → Type 0
OnThread P i F = (t : Thread) → slice_get P.threads i ≡ Some t → F t

-- The lines of a thread have a labelling, or this one is refused.
abbrev pub IsWalked : {X : Type 0} → Program → ℕ → Thread → Result X Refusal → Type 0
IsWalked P i t (Ok x) = HasLabels (view_of P i) t t.lines
IsWalked P i t (Err r) = (j : ℕ) × (l : Line) × (l.number ≡ r.line) × IsRefusedAt (view_of P i) t j l (premise_number r.cause)

-- The thread passes, or its header or its body is refused at this line.
abbrev pub IsJudged : {X : Type 0} → Program → ℕ → Thread → Result X Refusal → Type 0
IsJudged P i t (Ok x) = Passes P i t
IsJudged P i t (Err r) = ((t.line ≡ r.line) × IsHeaderRefused P i (premise_number r.cause)) ⊎ IsBodyRefused P i t r.line (premise_number r.cause)

-- The lines of pools meet their premises, or one is refused.
abbrev pub ArePoolsJudged : {X : Type 0} → Program → Result X Refusal → Type 0
ArePoolsJudged P (Ok x) = Meets (pool_asks P (length P.stock))
ArePoolsJudged P (Err r) = IsPoolRefused P r.line (premise_number r.cause)

-- Each thread passes, or one is refused, where the lines of pools meet their premises.
abbrev pub AreThreadsJudged : {X : Type 0} → Program → Result X Refusal → Type 0
AreThreadsJudged P (Ok x) = (i : ℕ) (thread : Thread) → slice_get P.threads i ≡ Some thread → Passes P i thread
AreThreadsJudged P (Err r) = IsThreadRefused P r.line (premise_number r.cause)

abbrev pub IsProgramJudged : {X : Type 0} → Program → Result X Refusal → Type 0
IsProgramJudged P (Ok x) = Accepts P
IsProgramJudged P (Err r) = IsRefused P r.line (premise_number r.cause)

-- The program is accepted, or refused at this line for this cause.
abbrev pub Verifies : {X : Type 0} → Program → Result X VerifyFault → Type 0
Verifies P (Ok x) = Accepts P
Verifies P (Err (Refused r)) = IsRefused P r.line (premise_number r.cause)
Verifies P (Err OutOfMemory) = ⊥
