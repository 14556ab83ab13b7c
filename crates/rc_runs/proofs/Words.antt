-- What is printed of what was found.
use Rattle.std.proofs.Common.{◌≡◌, ◌∙◌, ◌++◌, ℕ, List, Option, Some, None, Result, Ok, Err, ap, append_assoc, false, refl}
use Rattle.std.specs.Global.{Vec}
use Rattle.serde_json.specs.Written.{has_float}
use Rattle.rc_report.specs.Verdicts.{Finding}
use Rattle.rc_text.specs.Text.{Puts}
use Rattle.rc_runs.specs.declared.harm.Harm.{Harm}
use Rattle.rc_runs.specs.Finds.{found_by, run_data}

-- Three parts, one after another.
pub puts_three : {X E : Type 0} (a b c d : Vec ℕ) (s t u : List ℕ) (r : Result X E) → b.items ≡ a.items ++ s → c.items ≡ b.items ++ t → Puts c d u r → Puts a d (s ++ t ++ u) r
puts_three a b c d s t u (Ok x) p q h = h ∙ ap (λ i. i ++ u) (q ∙ ap (λ i. i ++ t) p) ∙ simp append_assoc
puts_three a b c d s t u (Err x) p q h = tt

-- What is printed as JSON has whole numbers alone.
pub found_has_no_float : (file : Option (List ℕ)) (run : Option (ℕ × Harm)) (f : Option Finding) → has_float (found_by file (run_data run) f) ≡ false
found_has_no_float None None None = refl
found_has_no_float None None (Some f) = refl
found_has_no_float None (Some (walk, harm)) None = refl
found_has_no_float None (Some (walk, harm)) (Some f) = refl
found_has_no_float (Some file) None None = refl
found_has_no_float (Some file) None (Some f) = refl
found_has_no_float (Some file) (Some (walk, harm)) None = refl
found_has_no_float (Some file) (Some (walk, harm)) (Some f) = refl
