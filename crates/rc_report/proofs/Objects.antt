-- A verdict as JSON has whole numbers alone.
use Rattle.std.proofs.Common.{◌≡◌, ℕ, List, Option, Some, None, false, refl}
use Rattle.serde_json.specs.Written.{has_float}
use Rattle.rc_report.specs.Verdicts.{Finding, finding_object}

pub object_has_no_float : (file : Option (List ℕ)) (f : Option Finding) → has_float (finding_object file f) ≡ false
object_has_no_float None None = refl
object_has_no_float None (Some f) = refl
object_has_no_float (Some file) None = refl
object_has_no_float (Some file) (Some f) = refl
