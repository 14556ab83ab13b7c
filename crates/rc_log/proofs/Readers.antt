-- What a reader gives of a log.
use Rattle.std.proofs.Common.{◌≡◌, ℕ, List, [], ◌++◌, Option, Some, None, refl, ap}
use Rattle.std.specs.Io.KnownBytes.{prepend_known}

pub nothing_waits : (known : Option (List ℕ)) (w : List ℕ) → w ≡ [] → prepend_known w known ≡ known
nothing_waits None w e = refl
nothing_waits (Some xs) w e = ap (λ v. Some (v ++ xs)) e
