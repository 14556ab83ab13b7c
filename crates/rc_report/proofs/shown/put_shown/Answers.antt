use Rattle.std.proofs.Common.{◌++◌, ◌∙◌, ap}
use Rattle.std.proofs.lemmas.Iterator.{YieldsList-from_chars}
use Rattle.std.proofs.lemmas.Iterator.Consumers.{YieldsList-end}
use Rattle.std.specs.List.{flat_map}
use Rattle.rc_report.specs.Shown.{shown_char}
use Rattle.rc_report.proofs.Yielded.{yielded_all}
use Rattle.rc_report.proofs.shown.put_shown.Goals as goal

pub returns : goal.returns
returns c =
    let end = YieldsList-end (YieldsList-from_chars c.args.name.now c.utf8.name cc) c.loop-character.yielded _ c.loop-character.yielded_by _ _ c.in-None.is c.next.ensures.steps in
    c.loop-character.invariant ∙ ap (λ characters. c.args.text.now.items ++ flat_map shown_char characters) (yielded_all _ c.loop-character.yielded end.0)
