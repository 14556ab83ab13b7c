-- Which faults a world has, each said alone, and which of them is the least.
use Rattle.std.specs.Prelude.{ℕ, ◌≡◌, ◌≤◌, true, Option, Some, None}
use Rattle.rc_lang.specs.declared.lines.Line.{Line}
use Rattle.rc_world.specs.declared.fault.Fault.{Fault}
use Rattle.rc_world.specs.declared.fault.FaultKind.{FaultKind}
use Rattle.rc_world.specs.declared.fault.Party.{Party}
use Rattle.rc_world.specs.declared.fault.Party.TheVariants.{At, InKernel}
use Rattle.rc_world.specs.FaultNames.{number_of_fault}
use Rattle.rc_world.specs.Controls.{next_line}
use Rattle.rc_world.specs.Faults.{fault_of, has_fault, in_kernel}
use Rattle.rc_world.specs.Machine.{World}

-- A fault of this kind is there: at a thread whose next line has that number, or in the kernel.
abbrev pub IsFaultAt : World → FaultKind → Party → Type 0
IsFaultAt w kind (At i n) = (l : Line) × (next_line w.program w.controls i ≡ Some l) × (n ≡ l.number) × (has_fault w kind i l.stmt ≡ true)
IsFaultAt w kind InKernel = in_kernel w kind ≡ true

abbrev pub IsFault : World → Fault → Type 0
IsFault w f = IsFaultAt w f.kind f.party

-- the number of a thread; a kind of fault is of threads or of the kernel, so that the kernel's number doesn't matter
abbrev pub thread_of : Party → ℕ
thread_of (At i n) = i
thread_of InKernel = 0

-- Faults come by their numbers, and those of one kind by their threads.
pub record IsNotAfter (f g : Fault) : Type 0 where
  pub kinds : number_of_fault f.kind ≤ number_of_fault g.kind
  pub threads : f.kind ≡ g.kind → thread_of f.party ≤ thread_of g.party

-- The world has no fault at all, or this one, and none before it.
abbrev pub IsLeastFault : World → Option Fault → Type 0
IsLeastFault w None = (f : Fault) → IsFault w f → ⊥
IsLeastFault w (Some f) = IsFault w f × ((g : Fault) → IsFault w g → IsNotAfter f g)

-- What is named as the fault of a world is the least one that it has, and where it has none, nothing.
abbrev pub FaultsAreLeast : Type 0
FaultsAreLeast = (w : World) → IsLeastFault w (fault_of w)
