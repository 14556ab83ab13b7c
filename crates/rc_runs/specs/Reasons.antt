-- Why an item isn't enabled.
use Rattle.std.specs.Prelude.{ℕ, ℤ, ◌≡◌, ◌<◌, ◌≤ℤ◌, ◌≢◌, ◌&&◌, Bool, true, false, length, Option, Some, None, pos, negsuc}
use Rattle.rc_lang.specs.declared.lines.Line.{Line}
use Rattle.rc_lang.specs.declared.lines.Locks.{Locks}
use Rattle.rc_lang.specs.declared.lines.Stmt.{Stmt}
use Rattle.rc_lang.specs.declared.lines.Stmt.TheVariants.{If}
use Rattle.rc_lang.specs.declared.lines.Test.TheVariants.{Any}
use Rattle.rc_lang.specs.Requests.{largest}
use Rattle.rc_world.specs.declared.controls.Holders.{Holders}
use Rattle.rc_world.specs.declared.controls.Next.TheVariants.{Ready, TakenLock, Ended as HasEnded}
use Rattle.rc_world.specs.declared.event.Item.{Item}
use Rattle.rc_world.specs.declared.event.Item.TheVariants.{Thread, Kernel}
use Rattle.rc_world.specs.Faults.{is_holder}
use Rattle.rc_world.specs.Items.{is_enabled, is_given, next_of, pending_at, pending_place, takes}
use Rattle.rc_world.specs.Machine.{Pending, World, is_read}
use Rattle.rc_world.specs.Readers.{taken_by}
use Rattle.rc_runs.specs.declared.why.Reason.{Reason}
use Rattle.rc_runs.specs.declared.why.Reason.TheVariants.{LockTaken, Ended, NoSubmit, TooMany, NoErrno, NotPending, TooManyBytes, NoRead, NoChoice}

-- The number is below -4095, so it is no errno.
abbrev pub IsNoErrno : ℤ → Type 0
IsNoErrno r = r ≤ℤ negsuc 4095

abbrev pub is_any : Stmt → Bool
is_any (If Any) = true
is_any _ = false

-- The reason holds of an answer where a thread has this line next: the line is neither a submit nor an `if any`, or the
-- submit can't take so many or answer so, or the `if any` has no such branch.
abbrev pub KeepsAnswer : World → Line → ℤ → Reason → Type 0
KeepsAnswer w l r (NoSubmit n) = (is_given l.stmt ≡ false) × (n ≡ l.number)
KeepsAnswer w l r (NoChoice n) = (is_any l.stmt ≡ true) × (n ≡ l.number)
KeepsAnswer w l r (TooMany n) = (is_any l.stmt ≡ false) × (k : ℕ) × (r ≡ pos k) × (n ≡ length w.queued) × (n < k)
KeepsAnswer w l r (NoErrno s) = (s ≡ r) × IsNoErrno r
KeepsAnswer w l r _ = ⊥

-- which of the wanted locks a thread has
abbrev pub taken_of : Locks → Holders → ℕ → Locks
taken_of wanted h i = record { sq = wanted.sq && is_holder h.sq i; cq = wanted.cq && is_holder h.cq i }

-- The reason holds of a thread's item with an answer or without: a thread has one of the locks that its next line wants, it
-- has ended, or its next line can't be answered so.
abbrev pub KeepsThread : World → ℕ → Option ℤ → Reason → Type 0
KeepsThread w i take (LockTaken j taken) = (wanted : Locks) × (next_of w.program w.controls i ≡ TakenLock wanted) × (taken_by wanted w.controls.holders ≡ Some j) × (taken ≡ taken_of wanted w.controls.holders j)
KeepsThread w i take (Ended j) = (next_of w.program w.controls i ≡ HasEnded) × (j ≡ i)
KeepsThread w i take reason = (l : Line) × (r : ℤ) × (next_of w.program w.controls i ≡ Ready l) × (take ≡ Some r) × KeepsAnswer w l r reason

-- The reason holds of the kernel's item with this user data, result and fill byte, which names this pending request: there is
-- none, it can't move so many bytes or answer so, or it is no read.
abbrev pub KeepsKernel : Option Pending → (u : ℕ) → ℤ → (fill : ℕ) → Reason → Type 0
KeepsKernel p u res fill (NotPending v) = (p ≡ None) × (v ≡ u)
KeepsKernel p u res fill (TooManyBytes v most) = (q : Pending) × (k : ℕ) × (p ≡ Some q) × (v ≡ u) × (res ≡ pos k) × (most ≡ largest q.request.len q.request.kind) × (most < k)
KeepsKernel p u res fill (NoErrno r) = (r ≡ res) × IsNoErrno res
KeepsKernel p u res fill (NoRead v) = (q : Pending) × (p ≡ Some q) × (v ≡ u) × (is_read q.request.kind ≡ false) × (fill ≢ 0)
KeepsKernel p u res fill _ = ⊥

abbrev pub Keeps : World → Item → Reason → Type 0
Keeps w (Thread i take) reason = KeepsThread w i take reason
Keeps w (Kernel u res fill) reason = KeepsKernel (pending_at w (pending_place w u)) u res fill reason

-- The item is enabled and there is no reason, or it isn't and this reason keeps it.
abbrev pub IsReason : World → Item → Option Reason → Type 0
IsReason w item None = is_enabled w item ≡ true
IsReason w item (Some reason) = (is_enabled w item ≡ false) × Keeps w item reason

-- The same of an answer alone.
abbrev pub IsReasonAt : World → Line → ℤ → Option Reason → Type 0
IsReasonAt w l r None = takes w (Some r) l.stmt ≡ true
IsReasonAt w l r (Some reason) = (takes w (Some r) l.stmt ≡ false) × KeepsAnswer w l r reason
