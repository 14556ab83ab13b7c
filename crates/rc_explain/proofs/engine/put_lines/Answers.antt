use Rattle.std.specs.Prelude.{false, option_copied}
use Rattle.rc_report.specs.Files.{printed}
use Rattle.rc_explain.proofs.Explained.{begins_both}
use Rattle.rc_explain.proofs.engine.put_lines.Goals as goal

pub returns : goal.returns
returns c =
    let after = rw c.deref.ensures.value at c.put_piece.ensures in
    begins_both (printed (option_copied c.args.file) false c.args.explanation.now.verdict) c.in_ok-rest.rest.items
    c.args.text.now c.print_verdict.new.text c.put_piece.new.text c.put_piece.result c.in_ok-print_verdict.ensures after
