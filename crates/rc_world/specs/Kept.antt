-- What each world keeps: there is room for what is queued, buffers have their bytes, and where one is absent, a pending
-- read fills it, which keeps its bytes.
use Rattle.std.specs.Prelude.{ℕ, ◌≡◌, ◌<◌, ◌≤◌, true, List, length, Option, Some, None, slice_get}
use Rattle.rc_lang.specs.declared.request.Request.{Request}
use Rattle.rc_lang.specs.Program.{Program, bytes_at}
use Rattle.rc_lang.specs.Kept.{IsProgram}
use Rattle.rc_world.specs.declared.world.Slot.{Slot}
use Rattle.rc_world.specs.declared.world.Slot.TheVariants.{Closed, Vacant, Prepared}
use Rattle.rc_world.specs.Faults.{clashes, has_buffer, is_filling}
use Rattle.rc_world.specs.Machine.{Pending, World, fits_buffer, is_read, used_entries}

-- A request names a buffer that is there and has as many bytes as it moves.
abbrev pub BufferExists : Program → Request → Type 0
BufferExists program r = has_buffer r.kind ≡ true → r.buffer < length program.buffers

pub record IsFitting (program : Program) (r : Request) : Type 0 where
  pub exists : BufferExists program r
  pub room : fits_buffer program r ≡ true

abbrev pub SlotFits : Program → Slot → Type 0
SlotFits program Closed = Unit {0}
SlotFits program Vacant = Unit {0}
SlotFits program (Prepared r) = IsFitting program r

abbrev pub AllFit : Program → List Request → Type 0
AllFit program rs = (k : ℕ) (r : Request) → slice_get rs k ≡ Some r → IsFitting program r

-- A pending read keeps all bytes of its buffer, unless two pending requests clash, and others keep none.
pub record IsKeptPending (program : Program) (ps : List Pending) (p : Pending) : Type 0 where
  pub fitting : IsFitting program p.request
  pub of_read : (bytes : List ℕ) → p.bytes ≡ Some bytes → is_read p.request.kind ≡ true
  pub sized : (bytes : List ℕ) → p.bytes ≡ Some bytes → length bytes ≡ bytes_at program.buffers p.request.buffer
  pub stands : is_read p.request.kind ≡ true → p.bytes ≡ None → clashes ps ≡ true

-- The pending requests and the buffers.
pub record IsMemory (program : Program) (ps : List Pending) (buffers : List (Option (List ℕ))) : Type 0 where
  pub pending : (k : ℕ) (p : Pending) → slice_get ps k ≡ Some p → IsKeptPending program ps p
  pub as_many : length buffers ≡ length program.buffers
  pub sized : (b : ℕ) (bytes : List ℕ) → slice_get buffers b ≡ Some (Some bytes) → length bytes ≡ bytes_at program.buffers b
  pub filled : (b : ℕ) → slice_get buffers b ≡ Some None → is_filling ps b ≡ true

pub record IsKept (w : World) : Type 0 where
  pub made : IsProgram w.program
  pub room : used_entries w ≤ w.program.entries
  pub slot : SlotFits w.program w.slot
  pub queued : AllFit w.program w.queued
  pub memory : IsMemory w.program w.pending w.buffers
