-- What is kept of each file in memory.
use Rattle.std.specs.Prelude.{ℕ, ◌≤◌}

-- a file has at most 65,536 bytes, and memory for them
pub record IsRoomy (len capacity : ℕ) : Type 0 where
  pub few : len ≤ 65536
  pub room : 65536 ≤ capacity
