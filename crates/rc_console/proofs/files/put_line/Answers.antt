use Rattle.std.proofs.Common.{◌++◌, ap, codes}
use Rattle.rc_report.specs.Shown.{shown}
use Rattle.rc_text.specs.Text.{Puts}
use Rattle.rc_text.proofs.Texts.{puts_along, puts_after}
use Rattle.rc_console.proofs.files.put_line.Goals as goal

pub returns : goal.returns
returns c =
    let a = c.args.line.now in
    let b = c.put_piece.new.text in
    let d = c.put_shown.new.text in
    let e = c.put_pieces.new.text in
    let r = c.put_pieces.result in
    let name = shown c.args.name.now in
    let why = codes ": " ++ (c.args.why.now ++ codes "\n") in
    let why_is : Puts d e why r = puts_along d e _ _ r (ap (λ t. codes ": " ++ (t ++ codes "\n")) c.as_bytes.ensures.value) c.put_pieces.ensures in
    puts_after a b e (codes "ringcheck: ") (name ++ why) r c.in_ok-put_piece.ensures (puts_after b d e name why r c.in_ok-put_shown.ensures why_is)
