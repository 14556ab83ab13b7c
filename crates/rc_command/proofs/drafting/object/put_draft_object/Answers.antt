use Rattle.std.proofs.Common.{◌∙◌, ap}
use Rattle.serde_json.specs.Written.{has_float}
use Rattle.rc_command.specs.Drafting.{object_line}
use Rattle.rc_text.proofs.Texts.{puts_along}
use Rattle.rc_command.proofs.Drafts.{draft_has_no_float}
use Rattle.rc_command.proofs.drafting.object.put_draft_object.Goals as goal

pub returns : goal.returns
returns c =
    puts_along c.args.text.now c.put_object.new.text _ _ c.put_object.result (ap object_line c.in_ok-object.ensures)
    (c.put_object.ensures (ap has_float c.in_ok-object.ensures ∙ draft_has_no_float c.args.drafted.now.text.items c.args.drafted.now.notes.items c.args.verdict.now c.args.ends.now))
