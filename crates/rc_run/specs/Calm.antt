-- What holds of each world of a run of a program that is safe.
use Rattle.std.specs.Prelude.{◌≡◌, ℕ, ◌<◌, false, length, None, Some, slice_get}
use Rattle.rc_admit.specs.Worlds.{CallsUnderLock, DataIsFresh, DataIsOne, EntrySuits, HasRoom, NoKernelClash}
use Rattle.rc_lang.specs.declared.request.Request.{Request}
use Rattle.rc_world.specs.Faults.{fault_of, has_buffer}
use Rattle.rc_world.specs.Kept.{IsKept}
use Rattle.rc_run.specs.Lives.{HoldersGo, IsInOrder}
use Rattle.rc_world.specs.Laws.{CompletesFreely, GoesOn}
use Rattle.rc_world.specs.Machine.{Pending, World}

-- What moves no bytes asks for none.
abbrev pub IsPlain : Request → Type 0
IsPlain r = has_buffer r.kind ≡ false → r.len ≡ 0

pub record IsCalm (w : World) : Type 0 where
  pub kept : IsKept w
  pub no_fault : fault_of w ≡ None
  pub goes_on : (i : ℕ) → i < length w.controls.threads → GoesOn w i
  pub completes : CompletesFreely w
  pub under_lock : CallsUnderLock w
  pub entry_suits : EntrySuits w
  pub has_room : HasRoom w
  pub data_is_fresh : DataIsFresh w
  pub data_is_one : DataIsOne w
  pub plain : (k : ℕ) (p : Pending) → slice_get w.pending k ≡ Some p → IsPlain p.request
  pub in_order : IsInOrder w.pending
  pub no_clash : NoKernelClash w
  pub holders_go : HoldersGo w
