use Rattle.std.proofs.Common.{◌++◌, ◌∙◌, ap, codes}
use Rattle.serde_json.specs.Written.{compact_text, has_float}
use Rattle.rc_report.specs.Shown.{shown}
use Rattle.rc_text.proofs.Texts.{puts_along}
use Rattle.rc_command.proofs.Objects.{unmade_has_no_float}
use Rattle.rc_command.proofs.departures.object.put_unmade_object.Goals as goal

pub returns : goal.returns
returns c =
    puts_along c.args.text.now c.put_object.new.text _ _ c.put_object.result (ap (λ d. shown (compact_text d) ++ codes "\n") c.in_ok-object.ensures)
    (c.put_object.ensures (ap has_float c.in_ok-object.ensures ∙ unmade_has_no_float c.args.unmade.now))
