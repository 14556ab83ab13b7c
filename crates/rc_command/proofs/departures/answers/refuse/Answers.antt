use Rattle.std.proofs.Common.{List, ◌++◌, ◌∙◌, ap}
use Rattle.std.specs.Prelude.{option_copied as named}
use Rattle.rc_report.specs.Files.{printed}
use Rattle.rc_console.specs.Files.{Said}
use Rattle.rc_command.proofs.Following.{said_along}
use Rattle.rc_command.proofs.departures.answers.refuse.Goals as goal

pub returns : goal.returns
returns c =
    said_along _ _ _ _ _ _ c.status.ensures.status
    (c.in_ok-print_verdict.ensures ∙ ap (λ (s : Said). s.text ++ printed (named c.args.asked.now.text) c.args.asked.now.json c.args.verdict.now) c.new-answer.ensures) (ap (λ (s : Said). s.told) c.new-answer.ensures)
