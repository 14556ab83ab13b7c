use Rattle.rc_report.proofs.Lines.{finding_line_cut}
use Rattle.rc_report.proofs.verdict.told_line.Goals as goal

pub returns : goal.returns
returns c =
    rw (c.as_bytes.ensures.value, c.as_bytes-2.ensures.value, c.as_bytes-3.ensures.value, c.as_bytes-4.ensures.value, c.as_bytes-5.ensures.value)
    (finding_line_cut c.args.word.now c.args.line.now c.args.letter.now c.args.number.now c.args.name.now)
