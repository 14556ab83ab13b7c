-- Where a frame is in bytes that begin with it.
use Rattle.std.specs.Prelude.{ℕ, ◌<◌, ◌≤◌, List, length}
use Rattle.rc_lsp.specs.declared.heads.Begin.{Begin}
use Rattle.rc_lsp.specs.declared.heads.Begin.TheVariants.{Frame, Part, NoHead, TooLarge}

-- The body is within the bytes, after a head.
abbrev pub IsWithin : List ℕ → Begin → Type 0
IsWithin bytes (Frame start end) = (0 < start) × (start ≤ end) × (end ≤ length bytes)
IsWithin bytes Part = Unit {0}
IsWithin bytes NoHead = Unit {0}
IsWithin bytes TooLarge = Unit {0}
