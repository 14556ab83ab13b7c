use Rattle.std.proofs.Common.{refl, rules, sym}
use Rattle.std.proofs.lemmas.List.{append-nil}
use Rattle.rc_command.proofs.Following.{said_along}
use Rattle.rc_command.proofs.departures.answer.Answer.print.Goals as goal

pub returns : goal.returns
returns c = said_along _ _ _ _ _ _ (search rules) c.in_ok-put_ending.ensures (sym (append-nil _))
