use Rattle.std.proofs.Common.{◌≡◌, None, rules, sym, ap, ◌∙◌}
use Rattle.std.specs.Prelude.{option_map}
use Rattle.rc_read.specs.Causes.{number_of_cause}
use Rattle.rc_read.specs.View.{view_sheet}
use Rattle.rc_read.proofs.KeptForms.{few_above}
use Rattle.rc_read.proofs.judge.judge_row.Goals as goal

pub add-requires : goal.add-requires
add-requires c =
    let none : c.later_cause.result ≡ None = search rules in
    few_above (view_sheet c.put_values.new.parts) c.args.line.now c.in-Some.wrong c.deref-3.result.now c.says_of-says.result (sym c.later_cause.ensures ∙ ap (option_map number_of_cause) none)
