use Rattle.std.proofs.Common.{◌≡◌, ◌∙◌, ap, false}
use Rattle.std.specs.Prelude.{option_copied}
use Rattle.serde_json.specs.View.{view}
use Rattle.serde_json.specs.Written.{compact_text, has_float}
use Rattle.rc_report.specs.Files.{object_line}
use Rattle.rc_report.specs.Verdicts.{finding, finding_object}
use Rattle.rc_report.proofs.Objects.{object_has_no_float}
use Rattle.rc_text.proofs.Texts.{puts_along}
use Rattle.rc_report.proofs.verdict.put_object.Goals as goal

pub returns : goal.returns
returns c =
    let file = option_copied c.args.file in
    let told = finding c.args.verdict.now in
    let no_float : has_float (view c.in_ok-object_of.field-0) ≡ false = ap (λ d. has_float d) c.in_ok-object_of.ensures ∙ object_has_no_float file told in
    let text : c.as_str.result.now ≡ compact_text (finding_object file told) =
    c.as_str.ensures.value ∙ c.in_ok-object.ensures.text no_float ∙ ap (λ d. compact_text d) c.in_ok-object_of.ensures in
    puts_along c.args.text.now c.put_object_line.new.text _ _ c.put_object_line.result (ap (λ t. object_line file t) text) c.put_object_line.ensures
