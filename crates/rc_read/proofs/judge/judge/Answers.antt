use Rattle.std.proofs.Common.{refl, sym, ap, ◌∙◌}
use Rattle.std.proofs.lemmas.List.{length-map, take-map}
use Rattle.rc_lang.specs.Parts.{view_names}
use Rattle.rc_read.specs.View.{view_sheet}
use Rattle.rc_read.proofs.Judged.{dropped, put_names}
use Rattle.rc_read.proofs.judge.judge.Goals as goal

pub returns : goal.returns
returns c =
    let s = view_sheet c.args.parts.now in
    let t = view_sheet c.line_cause.new.parts in
    let n = c.len-names.result in
    let keys = c.line_cause.new.parts.draft.names.keys in
    let len = c.len-names.ensures.len ∙ sym (length-map c.args.parts.now.draft.names.keys (λ name. name.items)) in
    let new = ap (λ names. put_names t (view_names names)) c.truncate.ensures.keys ∙ ap (put_names t) (sym (take-map (λ name. name.items) n keys)) in
    (rw c.in-Some.is at c.in_ok-cause.ensures.judges, refl, dropped s t _ n (rw c.in-Some.is at c.in_ok-cause.ensures.names) len new)
