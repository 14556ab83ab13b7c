-- A world in which nothing goes on any more, whatever its threads and the kernel do: the program hangs.
use Rattle.std.specs.Prelude.{ℕ, ◌≡◌, Bool, true, false, ◌||◌, List, [], ◌∷◌, length, nat_lt, Option, Some, None}
use Rattle.rc_lang.specs.declared.lines.Line.{Line}
use Rattle.rc_lang.specs.declared.lines.Op.{Op}
use Rattle.rc_lang.specs.declared.lines.Op.TheVariants.{SetData64, Submit, SubmitAndWait, CqeSeen}
use Rattle.rc_lang.specs.declared.lines.Stmt.{Stmt}
use Rattle.rc_lang.specs.declared.lines.Stmt.TheVariants.{Do, Put, If}
use Rattle.rc_lang.specs.declared.lines.Test.TheVariants.{Take, Any}
use Rattle.rc_split.specs.Pools.{includes, pool_of}
use Rattle.rc_world.specs.declared.event.Event.{Event}
use Rattle.rc_world.specs.declared.event.Item.{Item}
use Rattle.rc_world.specs.declared.event.Item.TheVariants.{Thread, Kernel}
use Rattle.rc_world.specs.Controls.{next_line, list_here}
use Rattle.rc_world.specs.Faults.{fault_of}
use Rattle.rc_world.specs.Items.{is_enabled, item_step, next_of}
use Rattle.rc_world.specs.Machine.{World}
use Rattle.rc_world.specs.Trace.{all_ended, has_ended}

-- Which items count. A submit takes all that is queued: if the kernel might take nothing forever, every program that
-- submits could hang. An `if any` may go either way, a request may complete with any result.
abbrev pub is_any : Stmt → Bool
is_any (If Any) = true
is_any _ = false

abbrev pub is_any_at : Option Line → Bool
is_any_at None = false
is_any_at (Some l) = is_any l.stmt

abbrev pub counts : World → Item → Bool
counts w (Thread i None) = true
counts w (Thread i (Some r)) = is_any_at (next_line w.program w.controls i)
counts w (Kernel u res fill) = true

-- A statement moves something where a request is made, entries go to the kernel, a completion is taken away, or items
-- come into a pool or leave one.
abbrev pub op_moves : World → Op → Bool
op_moves w (SetData64 u) = true
op_moves w (Submit x) = nat_lt 0 (length w.queued)
op_moves w (SubmitAndWait x n) = nat_lt 0 (length w.queued)
op_moves w CqeSeen = true
op_moves w _ = false

abbrev pub stmt_moves : World → ℕ → Stmt → Bool
stmt_moves w i (Do op) = op_moves w op
stmt_moves w i (Put pool k) = true
stmt_moves w i (If (Take pool k)) = includes w.program (pool_of w.controls.pools pool) (list_here w.program w.controls i k)
stmt_moves w i _ = false

abbrev pub line_moves : World → ℕ → Option Line → Bool
line_moves w i None = false
line_moves w i (Some l) = stmt_moves w i l.stmt

-- So does the last step of a thread, and each step of the kernel.
abbrev pub moves : World → Item → World → Bool
moves w (Thread i take) after = line_moves w i (next_line w.program w.controls i) || has_ended (next_of after.program after.controls i)
moves w (Kernel u res fill) after = true

-- The item counts, and its step leads from a world without a fault to the next.
pub record GoesBy (w : World) (item : Item) (next : World) : Type 0 where
  pub no_fault : fault_of w ≡ None
  pub counts : counts w item ≡ true
  pub enabled : is_enabled w item ≡ true
  pub step : (e : Event) × (item_step w item ≡ Some (e, next))

-- After these items' steps the run is in the second world.
abbrev pub IsOnward : World → List Item → World → Type 0
IsOnward w [] after = w ≡ after
IsOnward w (item ∷ items) after = (next : World) × GoesBy w item next × IsOnward next items after

-- The world has no fault, and no step that counts moves anything in it.
pub record IsStill (w : World) : Type 0 where
  pub no_fault : fault_of w ≡ None
  pub moves_nothing : (item : Item) (next : World) → GoesBy w item next → moves w item next ≡ false

-- A thread hasn't ended, and every world that is reached from here is still. So no thread ends any more, nothing is
-- queued, submitted, completed, reaped, put or taken, and no request is pending.
pub record IsStuck (w : World) : Type 0 where
  pub left : all_ended w ≡ false
  pub still : (items : List Item) (after : World) → IsOnward w items after → IsStill after
