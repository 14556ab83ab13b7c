-- What a world in the code stands for.
use Rattle.std.specs.Prelude.{ℕ, ◌≡◌, List, [], ◌∷◌, ◌++◌, Option, Some, None, Result, MatchResult, map, option_map, slice_set, ℤ}
use Rattle.std.specs.Global.{Vec}
use Rattle.rc_lang.specs.declared.lines.Stmt.{Stmt}
use Rattle.rc_lang.specs.declared.request.Request.{Request}
use Rattle.rc_world.specs.declared.world.Pending.{Pending as PendingPart}
use Rattle.rc_world.specs.declared.world.World.TheInside.{Inside}
use Rattle.rc_world.specs.declared.world.faults.statements.Access.{Access as AccessPart}
use Rattle.rc_world.specs.Changes.{standing_at}
use Rattle.rc_world.specs.Faults.{Access}
use Rattle.rc_world.specs.Machine.{Pending, World, in_rings, taken_bytes, without_taken}

-- the bytes of a buffer that is a Vec, where it is there
abbrev pub view_bytes : Option (Vec ℕ) → Option (List ℕ)
view_bytes bytes = option_map (λ (v : Vec ℕ). v.items) bytes

abbrev pub view_pending : PendingPart → Pending
view_pending p = record { request = p.request; bytes = p.bytes }

abbrev pub view_world : Inside → World
view_world w = record {
  program = w.program.now;
  controls = w.controls;
  slot = w.slot;
  queued = w.queued.items;
  pending = map view_pending w.pending.items;
  completed = w.completed.items;
  completions = w.completions.items;
  made = w.made;
  buffers = w.buffers.items;
}

-- What a call leaves that takes memory: what this makes of the old value, or the step that this is, with its event or
-- without. Where memory is refused, nothing changes.
abbrev pub Becomes : {A E W : Type 0} → Result A E → W → W → (W → W) → Type 0
Becomes result old new made = MatchResult result (λ _. new ≡ made old) (λ _. new ≡ old)

abbrev pub Tries : {A E W : Type 0} → Result A E → W → W → (W → Option W) → Type 0
Tries result old new step = MatchResult result (λ _. step old ≡ Some new) (λ _. new ≡ old)

abbrev pub TriesEvent : {A E W : Type 0} → Result A E → W → W → (W → Option (A × W)) → Type 0
TriesEvent result old new step = MatchResult result (λ e. step old ≡ Some (e, new)) (λ _. new ≡ old)

-- what a statement of the thread does in the rings, where a submit is answered r
abbrev pub ring_step : World → ℕ → ℤ → Stmt → Option World
ring_step w i r s = in_rings w (standing_at w.controls i) r s

-- What becomes of the pending requests and of the buffers where these requests become pending.
abbrev pub begun_pending : List Pending → List (Option (List ℕ)) → List Request → List Pending
begun_pending ps buffers [] = ps
begun_pending ps buffers (r ∷ rs) = begun_pending (ps ++ record { request = r; bytes = taken_bytes buffers r } ∷ []) (without_taken buffers r) rs

abbrev pub begun_buffers : List (Option (List ℕ)) → List Request → List (Option (List ℕ))
begun_buffers buffers [] = buffers
begun_buffers buffers (r ∷ rs) = begun_buffers (without_taken buffers r) rs

abbrev pub HaveBegun : Vec PendingPart → Vec PendingPart → List (Option (List ℕ)) → List Request → Type 0
HaveBegun old new buffers rs = map view_pending new.items ≡ begun_pending (map view_pending old.items) buffers rs

-- what a statement does with a buffer
abbrev pub view_access : AccessPart → Access
view_access a = record { buffer = a.buffer; writes = a.writes }

-- the buffers where these bytes come back to theirs
abbrev pub given_in : List (Option (List ℕ)) → ℕ → Option (List ℕ) → List (Option (List ℕ))
given_in buffers buffer None = buffers
given_in buffers buffer (Some bytes) = slice_set buffers buffer (Some bytes)
