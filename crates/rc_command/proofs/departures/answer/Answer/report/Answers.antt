use Rattle.std.proofs.Common.{[], arith, refl, sym}
use Rattle.std.proofs.lemmas.List.{append-nil}
use Rattle.rc_console.specs.Files.{line_told}
use Rattle.rc_command.proofs.Following.{said_along}
use Rattle.rc_command.proofs.departures.answer.Answer.report.Goals as goal

pub returns : goal.returns
returns c =
    let told = c.in_ok-put_unread.ensures in
    (record { status = 3; text = []; told = line_told c.args.name.now told.0 }, (told.0, refl), said_along _ _ _ _ _ _ (omega (arith, c.args.self.now.is_status)) (sym (append-nil _)) told.1)
