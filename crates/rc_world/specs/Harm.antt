-- Whether a statement does any harm, and that a thread has no fault, as one pass over the threads asks.
use Rattle.std.specs.Prelude.{◌≡◌, ℕ, Bool, false, ◌||◌, if◌then◌else◌, List, Option, Some, None}
use Rattle.std.specs.List.{list_any}
use Rattle.rc_lang.specs.declared.lines.Line.{Line}
use Rattle.rc_lang.specs.declared.lines.Stmt.{Stmt}
use Rattle.rc_world.specs.declared.event.Item.{Item}
use Rattle.rc_world.specs.declared.event.Item.TheVariants.{Thread, Kernel}
use Rattle.rc_world.specs.declared.fault.FaultKind.{FaultKind}
use Rattle.rc_world.specs.Controls.{next_line}
use Rattle.rc_world.specs.Faults.{Access, access_of, clashes, has_cq, has_data, has_fault, has_sq, is_ambiguous_at, is_cq_call, is_double_at, is_full_at, is_out_at, is_raw_at, is_sq_call, is_unknown_at, races, reads_filling, writes_pending}
use Rattle.rc_world.specs.Machine.{Pending, World}

-- the line that a thread has next
abbrev pub line_of : World → ℕ → Option Line
line_of w i = next_line w.program w.controls i

-- whether one of the pending requests has this user data
abbrev pub is_pending : ℕ → List Pending → Bool
is_pending u ps = list_any (λ (p : Pending). has_data u p.request) ps

abbrev pub harms_buffer : World → ℕ → Option Access → Bool
harms_buffer w i None = false
harms_buffer w i (Some a) = writes_pending w.pending (Some a) || reads_filling w.pending (Some a) || races w i (Some a)

-- so in the ring of a side, of who has it and of any other thread
abbrev pub harms_sq : World → ℕ → Stmt → Bool
harms_sq w i s = if has_sq w i then is_full_at w s || is_ambiguous_at w s || is_raw_at w.slot s else is_sq_call s

abbrev pub harms_cq : World → ℕ → Stmt → Bool
harms_cq w i s = if has_cq w i then is_unknown_at w s else is_cq_call s

abbrev pub is_harmful : World → ℕ → Stmt → Bool
is_harmful w i s = harms_buffer w i (access_of s) || is_out_at w.program s || harms_sq w i s || harms_cq w i s || is_double_at w i s

-- whether the line that the thread has next is harmful
abbrev pub harms_at : World → ℕ → Option Line → Bool
harms_at w i None = false
harms_at w i (Some l) = is_harmful w i l.stmt

-- Whether the step that an item names does harm itself: its thread's next statement is harmful, or it is the kernel's and
-- two pending requests clash.
abbrev pub does_harm : World → Item → Bool
does_harm w (Thread i take) = harms_at w i (line_of w i)
does_harm w (Kernel user_data res fill) = clashes w.pending

-- At its next line the thread has no fault of any kind.
abbrev pub IsHarmless : World → ℕ → Type 0
IsHarmless w i = (kind : FaultKind) (l : Line) → line_of w i ≡ Some l → has_fault w kind i l.stmt ≡ false

-- So for the step that an item names: its thread has none, or no two pending requests clash.
abbrev pub DoesNoHarm : World → Item → Type 0
DoesNoHarm w (Thread i take) = IsHarmless w i
DoesNoHarm w (Kernel user_data res fill) = clashes w.pending ≡ false
