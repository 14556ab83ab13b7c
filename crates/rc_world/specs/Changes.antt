-- The parts of a step of a thread in its controls, one after another.
use Rattle.std.specs.Prelude.{ℕ, ◌≡◌, ◌<◌, ◌≤◌, [], if◌then◌else◌, Bool, length, Option, Some, option_map, slice_index_or, slice_set, ℤ}
use Rattle.rc_lang.specs.declared.lines.Op.{Op}
use Rattle.rc_lang.specs.declared.lines.Op.TheVariants.{Set, Assign, Add, Subtract, Load, Store, Fill, Print, PrepRead, PrepWrite, PrepFsync, Submit, SubmitAndWait}
use Rattle.rc_lang.specs.declared.lines.Stmt.{Stmt}
use Rattle.rc_lang.specs.declared.lines.Stmt.TheVariants.{Do, If}
use Rattle.rc_lang.specs.declared.lines.Test.{Test}
use Rattle.rc_lang.specs.declared.lines.Test.TheVariants.{Compare, ReadyZero, SpaceAtLeast, Take, Any}
use Rattle.rc_lang.specs.Program.{Program, lines_of, lists_of, stmt_at}
use Rattle.rc_lang.specs.Kept.{IsProgram}
use Rattle.rc_lang.specs.Resolved.{IsOperand}
use Rattle.rc_split.specs.Pools.{Pools, taken_from}
use Rattle.rc_world.specs.declared.controls.Answer.{Answer}
use Rattle.rc_world.specs.declared.controls.Holders.{Holders}
use Rattle.rc_world.specs.declared.controls.Look.TheVariants.{Unseen}
use Rattle.rc_world.specs.declared.event.Action.{Action}
use Rattle.rc_world.specs.Controls.{Controls, Move, Standing, acts, branches, hop_of, is_arm_end, list_at, made, passes_arm, rest_at}

-- where a thread is; for a number that names no thread that says nothing
abbrev pub nowhere : Standing
nowhere = record { place = 0; variables = [] }

abbrev pub standing_at : Controls → ℕ → Standing
standing_at c i = slice_index_or c.threads i nowhere

-- The thread's move, as a rule says it of the controls and of where the thread is: it does this, and these controls are
-- left. The rule may be that of a statement.
abbrev pub Moves : Program → ℕ → Controls → (Controls → Standing → Option Move) → Action → Controls → Type 0
Moves program i old rule action new = made program old i (rule old (standing_at old i)) ≡ Some (action, new)

abbrev pub act_at : Program → ℕ → Controls → Stmt → Answer → Option Move
act_at program i c s a = acts program c i (standing_at c i) s a

abbrev pub Acts : Program → ℕ → Controls → Stmt → Answer → Action → Controls → Type 0
Acts program i old s a action new = Moves program i old (λ c t. acts program c i t s a) action new

-- the rule of an if that is decided
abbrev pub if_rule : Program → ℕ → Bool → Controls → Standing → Option Move
if_rule program i holds c t = Some (branches program c i t holds)

-- The test holds or not, and leaves these controls.
abbrev pub Decides : Program → ℕ → Controls → Test → Answer → Bool → Controls → Type 0
Decides program i old test a holds new = act_at program i old (If test) a ≡ Some (branches program new i (standing_at old i) holds)

-- what is left where the thread takes the items of its list with this number, and where it doesn't
abbrev pub after_take : Program → ℕ → Option ℕ → ℕ → Controls → Bool → Controls
after_take program i pool k c holds = record c { pools = if holds then taken_from program pool (list_at program i (standing_at c i) k) c.pools else c.pools }

-- with another value of a variable
abbrev pub with_variable : Controls → ℕ → ℕ → ℤ → Controls
with_variable c i x v =
    record c { threads = slice_set c.threads i (record { place = (standing_at c i).place; variables = slice_set (standing_at c i).variables x v }) }

-- with other holders of the locks
abbrev pub with_holders : Controls → Holders → Controls
with_holders c h = record c { holders = h }

-- with other pools
abbrev pub with_pools : Controls → Pools → Controls
with_pools c pools = record c { pools = pools }

-- with the thread gone to a place
abbrev pub gone_to : Program → Controls → ℕ → ℕ → Controls
gone_to program c i j =
    record c {
      threads = slice_set c.threads i (record { place = rest_at program i j; variables = (standing_at c i).variables });
      look = if passes_arm program i j then Unseen else c.look;
    }

-- The thread is at place j of a made program, where this statement is.
pub record StandsAt (program : Program) (c : Controls) (i j : ℕ) (s : Stmt) : Type 0 where
  pub made : IsProgram program
  pub exists : i < length c.threads
  pub place : (standing_at c i).place ≡ j
  pub within : j ≤ 4096
  pub line : stmt_at (lines_of program i) j ≡ Some s

-- the place that a line leads to which is no event, and whether it ends an arm
abbrev pub hop_at : Program → ℕ → ℕ → Option (ℕ × Bool)
hop_at program i j = option_map (λ k. (k, is_arm_end (stmt_at (lines_of program i) j))) (hop_of program i j (stmt_at (lines_of program i) j))

-- The numbers of a test are small enough: its variable is one of 64, and its items are some of the thread's lists.
abbrev pub TestIsSmall : Program → ℕ → Test → Type 0
TestIsSmall program i (Compare x comparison n) = x < 64
TestIsSmall program i ReadyZero = Unit {0}
TestIsSmall program i (SpaceAtLeast n) = Unit {0}
TestIsSmall program i (Take pool k) = k < length (lists_of program i)
TestIsSmall program i Any = Unit {0}

-- The numbers of a statement are small enough: its variables are some of 64, and a prep names a file and a buffer that
-- may be there.
abbrev pub CallIsSmall : Program → Op → Type 0
CallIsSmall program (Set x n) = x < 64
CallIsSmall program (Assign x y) = (x < 64) × (y < 64)
CallIsSmall program (Add x y z) = (x < 64) × IsOperand 64 y × IsOperand 64 z
CallIsSmall program (Subtract x y z) = (x < 64) × IsOperand 64 y × IsOperand 64 z
CallIsSmall program (Load x b i) = x < 64
CallIsSmall program (Store b i x) = x < 64
CallIsSmall program (Fill b x) = x < 64
CallIsSmall program (Print x) = x < 64
CallIsSmall program (PrepRead fd b len off) = (fd ≤ 1023) × (b < 64) × (b < length program.buffers)
CallIsSmall program (PrepWrite fd b len off k) = (fd ≤ 1023) × (b < 64) × (b < length program.buffers)
CallIsSmall program (PrepFsync fd datasync) = fd ≤ 1023
CallIsSmall program (Submit x) = x < 64
CallIsSmall program (SubmitAndWait x n) = x < 64
CallIsSmall program _ = Unit {0}

abbrev pub StmtIsSmall : Program → Stmt → Type 0
StmtIsSmall program (Do op) = CallIsSmall program op
StmtIsSmall program _ = Unit {0}
