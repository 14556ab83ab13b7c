use Rattle.std.proofs.Common.{◌≡◌, ◌∙◌, ap, map}
use Rattle.rc_read.specs.Words.{text_lines}
use Rattle.rc_read.proofs.TextWords.{numbered_line}
use Rattle.rc_read.proofs.source.Lines.line.Goals as goal

pub returns-in-Some : goal.returns-in-Some
returns-in-Some c =
    let found = c.in-Some.ensures.lookup in
    let lines : map (λ line. line.now) c.deref.result.now ≡ text_lines c.args.self.now = rw c.deref.ensures.value (c.self.invariant ∙ ap text_lines c.self.view_is) in
    numbered_line (λ line. line.now) _ _ c.args.number c.in-Some.line.now lines c.if-number-eq0.false found.3.0 found.1
