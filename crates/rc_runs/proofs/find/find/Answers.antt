use Rattle.std.proofs.Common.{refl, sym, subst}
use Rattle.rc_admit.specs.Judged.{IsJudged}
use Rattle.rc_report.specs.Checks.{IsVerdict}
use Rattle.rc_report.specs.declared.verdict.Verdict.TheVariants.{Accepted, Refused, Unreadable}
use Rattle.rc_runs.proofs.find.find.Goals as goal

pub returns-in-Admitted : goal.returns-in-Admitted
returns-in-Admitted c =
    let judged = subst (λ j. IsJudged c.args.bytes.now j) c.in-Admitted.is c.in_ok-judged.ensures in
    (subst (λ answer. IsVerdict answer Accepted) (sym judged.0) judged.1, tt)

pub returns-in-Refused : goal.returns-in-Refused
returns-in-Refused c =
    let judged = subst (λ j. IsJudged c.args.bytes.now j) c.in-Refused.is c.in_ok-judged.ensures in
    (subst (λ answer. IsVerdict answer (Refused c.in-Refused.refusal)) (sym judged.0) judged.1, (judged.0, c.in_ok-search-in-Refused.ensures))

pub returns : goal.returns
returns c =
    let judged = subst (λ j. IsJudged c.args.bytes.now j) c.in-Unread.is c.in_ok-judged.ensures in
    (subst (λ answer. IsVerdict answer (Unreadable c.in-Unread.line c.in-Unread.cause)) (sym judged.0) (refl, refl), tt)
