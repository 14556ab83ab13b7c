use Rattle.std.specs.Prelude.{option_copied, string_bytes}
use Rattle.rc_explain.proofs.Explained.{tells_object}
use Rattle.rc_explain.proofs.engine.put_object.Goals as goal

pub returns : goal.returns
returns c =
    let object = rw c.as_str.ensures.value at c.in_ok-put_shown.ensures in
    tells_object (option_copied c.args.file) c.args.explanation.now.verdict (string_bytes c.in_ok-object.object)
    c.args.text.now c.put_shown.new.text c.put_piece.new.text c.put_piece.result c.in_ok-object.ensures object c.put_piece.ensures
