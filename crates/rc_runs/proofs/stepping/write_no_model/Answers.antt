use Rattle.std.proofs.Common.{rules, ◌≡◌, ◌++◌, ◌∙◌, [], ap, false, refl}
use Rattle.std.specs.Prelude.{option_copied as named}
use Rattle.rc_report.specs.declared.verdict.Verdict.TheVariants.{Unreadable}
use Rattle.rc_report.specs.Files.{printed}
use Rattle.rc_report.proofs.Pieces.{began_none, memory_stops, write_stops}
use Rattle.rc_runs.proofs.stepping.write_no_model.Goals as goal

pub returns-in_err-print_verdict-clause-text : goal.returns-in_err-print_verdict-clause-text
returns-in_err-print_verdict-clause-text g c = memory_stops _ _ _ c.from_residual.result c.from_residual.ensures.1 (began_none _ _ _ refl)

pub returns-in_err-write_piece-clause-text : goal.returns-in_err-write_piece-clause-text
returns-in_err-write_piece-clause-text g c =
    let whole = printed (named c.args.file) false (Unreadable c.args.line c.args.cause) in
    let empty : c.new-text.result.items ≡ [] = search rules in
    let text : c.deref.result.now ≡ whole = c.deref.ensures.value ∙ c.in_ok-print_verdict.ensures ∙ ap (λ t. t ++ whole) empty in
    let began = rw text at c.in_err-write_piece.ensures in
    write_stops _ _ whole _ c.from_residual-in_err-write_piece.result c.from_residual-in_err-write_piece.ensures.1 began.0 began.1

pub returns-clause-text : goal.returns-clause-text
returns-clause-text g c =
    let whole = printed (named c.args.file) false (Unreadable c.args.line c.args.cause) in
    let empty : c.new-text.result.items ≡ [] = search rules in
    let text : c.deref.result.now ≡ whole = c.deref.ensures.value ∙ c.in_ok-print_verdict.ensures ∙ ap (λ t. t ++ whole) empty in
    rw text at c.in_ok-write_piece.ensures
