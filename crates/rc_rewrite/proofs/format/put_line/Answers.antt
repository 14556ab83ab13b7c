use Rattle.rc_rewrite.proofs.LaidOut.{laid_of}
use Rattle.rc_rewrite.proofs.format.put_line.Goals as goal

pub returns : goal.returns
returns c =
    let put = c.in_ok-put_indented.ensures in
    (put.0, laid_of _ _ _ c.without_blanks-inner.ensures put.1, put.2)
