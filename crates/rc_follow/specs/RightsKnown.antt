-- What is kept of rights that were asked for.
use Rattle.std.specs.Prelude.{ℕ}
use Rattle.rc_lang.specs.Program.{Program}
use Rattle.rc_follow.specs.declared.rights.Held.{Held}
use Rattle.rc_follow.specs.declared.rights.Spot.{Spot}
use Rattle.rc_follow.specs.Rights.{SharesAt}

-- so many shares are held there, or more
abbrev pub IsHeldAt : Program → Spot → ℕ → Type 0
IsHeldAt P s k = SharesAt P s.thread s.place s.zero s.buffer k

abbrev pub IsHeld : Program → Held → Type 0
IsHeld P h = IsHeldAt P h.spot h.shares
