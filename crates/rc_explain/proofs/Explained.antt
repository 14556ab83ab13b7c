-- A verdict, and what explains it.
use Rattle.std.proofs.Common.{◌≡◌, List, ℕ, ◌++◌, Option, Result, Ok, Err, codes, refl, ap, ◌∙◌, append_assoc}
use Rattle.std.specs.Global.{Vec}
use Rattle.rc_report.specs.declared.verdict.Verdict.{Verdict}
use Rattle.rc_report.specs.Shown.{shown}
use Rattle.rc_report.specs.Text.{Puts, PutsSome}
use Rattle.rc_explain.specs.Explains.{BeginsWith, IsObjectOf, IsObjectText}

-- The line of the verdict, and then what explains it.
pub begins_both : {X E : Type 0} (line rest : List ℕ) (old mid new : Vec ℕ) (r : Result X E) → mid.items ≡ old.items ++ line → Puts mid new rest r → PutsSome (BeginsWith line) old new r
begins_both line rest old mid new (Ok x) p q = (line ++ rest, (rest, refl), q ∙ ap (λ u. u ++ rest) p ∙ append_assoc old.items line rest)
begins_both line rest old mid new (Err e) p q = tt

-- The object as it is shown, and a line feed.
pub tells_object : {X E : Type 0} (file : Option (List ℕ)) (v : Verdict) (json : List ℕ) (old mid new : Vec ℕ) (r : Result X E) → IsObjectOf file v json →
    mid.items ≡ old.items ++ shown json → Puts mid new (codes "\n") r → PutsSome (IsObjectText file v) old new r
tells_object file v json old mid new (Ok x) h p q =
    (shown json ++ codes "\n", (json, h, refl), q ∙ ap (λ u. u ++ codes "\n") p ∙ append_assoc old.items (shown json) (codes "\n"))
tells_object file v json old mid new (Err e) h p q = tt
