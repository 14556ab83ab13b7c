-- Stray steps: what a thread may do in a weak run that no step of the machine does. An `if take` goes to its second branch although its pool has all items, and a load gives any byte.
use Rattle.std.specs.Prelude.{ℕ, Bool, false, Option, Some, None, is_some, slice_get}
use Rattle.rc_lang.specs.declared.lines.Line.{Line}
use Rattle.rc_lang.specs.declared.lines.Op.TheVariants.{Load}
use Rattle.rc_lang.specs.declared.lines.Stmt.{Stmt}
use Rattle.rc_lang.specs.declared.lines.Stmt.TheVariants.{Do, If}
use Rattle.rc_lang.specs.declared.lines.Test.TheVariants.{Take}
use Rattle.rc_lang.specs.Program.{Program}
use Rattle.rc_world.specs.declared.controls.Answer.TheVariants.{Byte}
use Rattle.rc_world.specs.declared.event.Event.{Event}
use Rattle.rc_world.specs.Controls.{Controls, Move, Standing, as_event, branches, loads, made, next_line}
use Rattle.rc_world.specs.Machine.{World, with_controls}

-- A load gives this byte.
abbrev pub strays : Program → Controls → ℕ → Standing → ℕ → Stmt → Option Move
strays program c i t byte (If (Take pool k)) = Some (branches program c i t false)
strays program c i t byte (Do (Load x b j)) = loads c t x (Byte byte)
strays program c i t byte _ = None

-- its event, and the controls after it
abbrev pub strays_on : Program → Controls → ℕ → ℕ → Option Standing → Option Line → Option (Event × Controls)
strays_on program c i byte None l = None
strays_on program c i byte (Some t) None = None
strays_on program c i byte (Some t) (Some l) = as_event program i l (made program c i (strays program c i t byte l.stmt))

abbrev pub controls_stray : Program → Controls → ℕ → ℕ → Option (Event × Controls)
controls_stray program c i byte = strays_on program c i byte (slice_get c.threads i) (next_line program c i)

-- The stray step of a thread: the event, and the world after it. None where the thread has none.
abbrev pub stray_step : World → ℕ → ℕ → Option (Event × World)
stray_step w i byte = with_controls (Some w) (controls_stray w.program w.controls i byte)

-- Whether a thread has one. It has one with every byte or with none.
abbrev pub can_stray : World → ℕ → Bool
can_stray w i = is_some (stray_step w i 0)
