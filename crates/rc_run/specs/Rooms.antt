-- Room for the threads of a group, and for what they count.
use Rattle.std.specs.Prelude.{ℕ, ◌≡◌, ◌≤◌, []}
use Rattle.std.specs.Global.{Vec}
use Rattle.std.specs.Vec.{vec_capacity, vec_len}

-- No thread is started, and there is room for so many.
abbrev pub HasRoom : {X Y : Type 0} → ℕ → Vec X → Vec Y → Type 0
HasRoom n started counts = (started.items ≡ []) × (n ≤ vec_capacity started) × (counts.items ≡ []) × (n ≤ vec_capacity counts)

-- So many threads are started, and nothing is counted yet.
abbrev pub IsStarted : {X Y : Type 0} → ℕ → Vec X → Vec Y → Type 0
IsStarted n started counts = (vec_len started ≡ n) × (counts.items ≡ []) × (n ≤ vec_capacity counts)
