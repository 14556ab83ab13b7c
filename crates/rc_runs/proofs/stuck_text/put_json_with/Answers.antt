use Rattle.std.proofs.Common.{◌≡◌, ◌++◌, ◌∙◌, ap, codes, false}
use Rattle.std.specs.Prelude.{option_copied as named}
use Rattle.serde_json.specs.View.{view}
use Rattle.serde_json.specs.Written.{compact_text, has_float}
use Rattle.rc_report.specs.Shown.{shown}
use Rattle.rc_report.specs.Verdicts.{finding}
use Rattle.rc_text.proofs.Texts.{puts_after, puts_along}
use Rattle.rc_runs.specs.FindsStuck.{has_run, stuck_object, stuck_run_of}
use Rattle.rc_runs.proofs.Told.{stuck_has_no_float}
use Rattle.rc_runs.proofs.stuck_text.put_json_with.Goals as goal

pub returns : goal.returns
returns c =
    let found = c.args.found.now in
    let file = named c.args.file in
    let waits = c.args.waits.now in
    let no_float : has_float (view c.in_ok-object_with.field-0) ≡ false = ap (λ d. has_float d) c.in_ok-object_with.ensures ∙ stuck_has_no_float (has_run found) waits file (stuck_run_of found) (finding found.verdict) in
    let text : c.as_str.result.now ≡ compact_text (stuck_object file found waits) =
    c.as_str.ensures.value ∙ c.in_ok-object.ensures.text no_float ∙ ap (λ d. compact_text d) c.in_ok-object_with.ensures in
    puts_along c.args.text.now c.put_piece.new.text _ _ c.put_piece.result (ap (λ t. shown t ++ codes "\n") text)
    (puts_after c.args.text.now c.put_shown.new.text c.put_piece.new.text _ _ c.put_piece.result c.in_ok-put_shown.ensures c.put_piece.ensures)
