-- What is known of the worlds that are reached from a world by steps that move nothing and can be compared.
use Rattle.std.specs.Prelude.{ℕ, ◌≡◌, ◌<◌, ◌≤◌, Bool, true, false, ◌&&◌, ◌||◌, not, List, [], length, map, nat_lt, Option, Some, None, option_map, slice_get, slice_index_or, ℤ, pos, ◌+◌, ◌*◌}
use Rattle.rc_lang.specs.declared.lines.Line.{Line}
use Rattle.rc_lang.specs.declared.lines.Op.{Op}
use Rattle.rc_lang.specs.declared.lines.Op.TheVariants.{Assign, Add, Subtract, Store, Fill}
use Rattle.rc_lang.specs.declared.lines.Stmt.{Stmt}
use Rattle.rc_lang.specs.declared.lines.Stmt.TheVariants.{Do, If}
use Rattle.rc_lang.specs.declared.lines.Test.{Test}
use Rattle.rc_lang.specs.declared.lines.Test.TheVariants.{Compare}
use Rattle.rc_lang.specs.declared.lines.Operand.{Operand}
use Rattle.rc_lang.specs.declared.lines.Operand.TheVariants.{Variable, Number as Literal}
use Rattle.rc_world.specs.declared.controls.Look.TheVariants.{Unseen}
use Rattle.rc_world.specs.declared.world.Slot.TheVariants.{Closed}
use Rattle.rc_world.specs.declared.event.Event.{Event}
use Rattle.rc_world.specs.declared.event.Item.{Item}
use Rattle.rc_world.specs.declared.event.Item.TheVariants.{Thread}
use Rattle.rc_world.specs.Controls.{Controls, Standing, next_line, nobody}
use Rattle.rc_world.specs.Faults.{fault_of}
use Rattle.rc_world.specs.Items.{is_enabled, item_step, next_of}
use Rattle.rc_world.specs.Machine.{World}
use Rattle.rc_world.specs.Readers.{variable_in}
use Rattle.rc_world.specs.Trace.{has_ended}
use Rattle.rc_runs.specs.Stuck.{GoesBy, IsOnward, IsStill, counts, line_moves, moves}
use Rattle.rc_lang.specs.Kept.{IsProgram}

-- ---- on which variables something depends

-- A list says it, 64 places for each thread.
abbrev pub matters : List Bool → ℕ → ℕ → Bool
matters kept i x = nat_lt x 64 && slice_index_or kept (i * 64 + x) false

abbrev pub operand_matters : List Bool → ℕ → Operand → Bool
operand_matters kept i (Variable x) = matters kept i x
operand_matters kept i (Literal n) = true

-- A variable that is compared matters, and so does one from which a variable that matters is computed. Nothing is stored
-- and nothing filled.
abbrev pub op_follows : List Bool → ℕ → Op → Bool
op_follows kept i (Assign x y) = not (matters kept i x) || matters kept i y
op_follows kept i (Add x y z) = not (matters kept i x) || (operand_matters kept i y && operand_matters kept i z)
op_follows kept i (Subtract x y z) = not (matters kept i x) || (operand_matters kept i y && operand_matters kept i z)
op_follows kept i (Store b j x) = false
op_follows kept i (Fill b x) = false
op_follows kept i _ = true

abbrev pub test_follows : List Bool → ℕ → Test → Bool
test_follows kept i (Compare x comparison n) = matters kept i x
test_follows kept i _ = true

abbrev pub stmt_follows : List Bool → ℕ → Stmt → Bool
stmt_follows kept i (Do op) = op_follows kept i op
stmt_follows kept i (If test) = test_follows kept i test
stmt_follows kept i _ = true

abbrev pub line_follows : List Bool → ℕ → Option Line → Bool
line_follows kept i None = true
line_follows kept i (Some l) = stmt_follows kept i l.stmt

-- ---- worlds that differ only in variables on which nothing depends

-- Both are there and alike, or neither is.
abbrev pub IfBoth : {A : Type 0} → (A → A → Type 0) → Option A → Option A → Type 0
IfBoth P None None = Unit {0}
IfBoth P None (Some y) = ⊥
IfBoth P (Some x) None = ⊥
IfBoth P (Some x) (Some y) = P x y

abbrev pub Pairwise : (ℕ → Standing → Standing → Type 0) → List Standing → List Standing → Type 0
Pairwise P xs ys = (j : ℕ) → IfBoth (P j) (slice_get xs j) (slice_get ys j)

-- The thread is at the same place, and its variables that matter have the same values.
pub record AreLikeStandings (kept : List Bool) (i : ℕ) (t u : Standing) : Type 0 where
  pub place : t.place ≡ u.place
  pub many : length t.variables ≡ length u.variables
  pub same : (x : ℕ) → matters kept i x ≡ true → slice_index_or t.variables x (pos 0) ≡ slice_index_or u.variables x (pos 0)

abbrev pub with_threads : World → List Standing → World
with_threads w ts = record w { controls = record w.controls { threads = ts } }

pub record IsLike (kept : List Bool) (a b : World) : Type 0 where
  pub rest : a ≡ with_threads b a.controls.threads
  pub threads : Pairwise (AreLikeStandings kept) a.controls.threads b.controls.threads

-- ---- what is left of a world

-- What a step leaves that moves, stores and fills nothing: all but where the threads are, the values of their variables,
-- who has the locks, what was done with the front completion, the open entry, and which completed requests aren't reaped.
abbrev pub still_standing : Standing → Standing
still_standing t = record { place = length t.variables; variables = [] }

abbrev pub still_controls : Controls → Controls
still_controls c = record c { threads = map still_standing c.threads; holders = nobody; look = Unseen }

abbrev pub still_with : Controls → World → World
still_with c w = record w { controls = c; slot = Closed; completed = [] }

abbrev pub still : World → World
still w = still_with (still_controls w.controls) w

-- What such steps change besides the threads is the same.
pub record HasSameParts (a b : World) : Type 0 where
  pub slot : a.slot ≡ b.slot
  pub look : a.controls.look ≡ b.controls.look
  pub holders : a.controls.holders ≡ b.controls.holders
  pub completed : a.completed ≡ b.completed

-- The variable has the same value in both, if it matters.
abbrev pub IsSameVariable : List Bool → World → World → ℕ → ℕ → Type 0
IsSameVariable kept a b i x = matters kept i x ≡ true → variable_in (slice_get a.controls.threads i) x ≡ variable_in (slice_get b.controls.threads i) x

-- The thread is at the same place in both, and its first 64 variables are the same, where they matter. No others matter.
pub record IsSameThread (kept : List Bool) (a b : World) (i : ℕ) : Type 0 where
  pub place : option_map (λ (t : Standing). t.place) (slice_get a.controls.threads i) ≡ option_map (λ (t : Standing). t.place) (slice_get b.controls.threads i)
  pub variables : (x : ℕ) → x < 64 → IsSameVariable kept a b i x

-- ---- which worlds are known

-- One of them is the same but for variables on which nothing depends.
abbrev pub HasWorld : List Bool → List World → World → Type 0
HasWorld kept ws w = (k : ℕ) × (v : World) × (slice_get ws k ≡ Some v) × IsLike kept w v

-- What such steps don't change is the same in all of them as in this one, and in any two of them.
abbrev pub AllLike : World → List World → Type 0
AllLike w ws = (k : ℕ) (v : World) → slice_get ws k ≡ Some v → still v ≡ still w

abbrev pub AreAlike : List World → Type 0
AreAlike ws = (k : ℕ) (w : World) → slice_get ws k ≡ Some w → AllLike w ws

-- Others may be known besides.
pub record IsGrown (old new : List World) : Type 0 where
  pub longer : length old ≤ length new
  pub kept : (k : ℕ) (w : World) → slice_get old k ≡ Some w → slice_get new k ≡ Some w
  pub alike : AreAlike old → AreAlike new

-- whether an item counts and is enabled
abbrev pub is_asked : World → Item → Bool
is_asked w item = counts w item && is_enabled w item

-- The item's step moves nothing, and leads to one of these worlds, but for variables on which nothing depends.
abbrev pub Leads : List Bool → World → List World → Item → Type 0
Leads kept w ws item = (next : World) → GoesBy w item next → (moves w item next ≡ false) × HasWorld kept ws next

-- If the thread has a step that counts, it moves, stores and fills nothing, and depends only on variables that matter.
abbrev pub Follows : List Bool → World → ℕ → Option ℤ → Type 0
Follows kept w i take = is_asked w (Thread i take) ≡ true → (line_moves w i (next_line w.program w.controls i) ≡ false) × (line_follows kept i (next_line w.program w.controls i) ≡ true)

pub record IsLed (kept : List Bool) (w : World) (ws : List World) (i : ℕ) (take : Option ℤ) : Type 0 where
  pub leads : Leads kept w ws (Thread i take)
  pub follows : Follows kept w i take

pub record IsThreadLed (kept : List Bool) (w : World) (ws : List World) (i : ℕ) : Type 0 where
  pub leads : (take : Option ℤ) → Leads kept w ws (Thread i take)
  pub follows : Follows kept w i None

-- So it is in the world that had this number.
abbrev pub IsLedAt : List Bool → List World → ℕ → List World → ℕ → Option ℤ → Type 0
IsLedAt kept old number new i take = (w : World) → slice_get old number ≡ Some w → IsLed kept w new i take

abbrev pub IsThreadLedAt : List Bool → List World → ℕ → List World → ℕ → Type 0
IsThreadLedAt kept old number new i = (w : World) → slice_get old number ≡ Some w → IsThreadLed kept w new i

-- So it is for each item.
pub record IsQuiet (kept : List Bool) (ws : List World) (w : World) : Type 0 where
  pub made : IsProgram w.program
  pub no_fault : fault_of w ≡ None
  pub nothing_pending : length w.pending ≡ 0
  pub leads : (item : Item) → Leads kept w ws item
  pub follows : (i : ℕ) → Follows kept w i None

abbrev pub IsQuietAt : List Bool → List World → ℕ → List World → Type 0
IsQuietAt kept old number new = (w : World) → slice_get old number ≡ Some w → IsQuiet kept new w

pub record IsCalm (w : World) : Type 0 where
  pub no_fault : fault_of w ≡ None
  pub nothing_pending : length w.pending ≡ 0

-- The world after the thread's step, by which it doesn't end.
abbrev pub GoesOnly : World → ℕ → Option ℤ → Option World → Type 0
GoesOnly w i take None = Unit {0}
GoesOnly w i take (Some next) = ((e : Event) × (item_step w (Thread i take) ≡ Some (e, next))) × (has_ended (next_of next.program next.controls i) ≡ false)

-- Each world that is reached onward is still.
abbrev pub StillOnward : World → Type 0
StillOnward w = (items : List Item) (after : World) → IsOnward w items after → IsStill after
