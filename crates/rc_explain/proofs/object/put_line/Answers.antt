use Rattle.std.proofs.Common.{◌∙◌, ap, codes}
use Rattle.serde_json.specs.Data.{put}
use Rattle.serde_json.specs.View.{members_view}
use Rattle.rc_explain.proofs.Objects.{line_along}
use Rattle.rc_explain.proofs.object.put_line.Goals as goal

pub returns : goal.returns
returns c =
    let first = members_view c.put_text.new.members.entries in
    let second = members_view c.put.new.members.entries in
    line_along (members_view c.args.members.now.entries) first second (members_view c.put-2.new.members.entries) _ c.args.word.now c.args.name.now c.args.code c.args.line
    c.in_ok-put_text.ensures.put
    (c.in_ok-put.ensures.put ∙ ap (λ d. put (codes "code") d first) c.from.ensures)
    (c.in_ok-put-2.ensures.put ∙ ap (λ d. put (codes "line") d second) c.from-2.ensures)
    c.in_ok-put_text-2.ensures.put
