use Rattle.std.proofs.Common.{Option, List, sym, ap, ◌∙◌}
use Rattle.std.specs.Option.{option_or}
use Rattle.rc_read.specs.declared.table.Row.{Row}
use Rattle.rc_read.specs.Spots.{first_row}
use Rattle.rc_read.specs.Table.{assignments}
use Rattle.rc_read.specs.Texts.{texts_of}
use Rattle.rc_read.proofs.Rows.{rows_found}
use Rattle.rc_read.proofs.spots.find_row.Goals as goal

pub returns-in-Some-clause-row : goal.returns-in-Some-clause-row
returns-in-Some-clause-row c =
    let ws = texts_of c.args.words.now in
    ap (λ (o : Option Row). option_or o (first_row assignments ws)) (sym c.in-Some.is)
    ∙ rows_found c.first_byte.result ws c.in_ok-row.field-0 c.first_byte.ensures (c.in_ok-row.ensures.row ∙ ap (λ (rows : List Row). first_row rows ws) c.rows_of.ensures)

pub returns-clause-row : goal.returns-clause-row
returns-clause-row c =
    let ws = texts_of c.args.words.now in
    c.in_ok-first_row.ensures.row ∙ ap (λ (rows : List Row). first_row rows ws) c.assignments.ensures
    ∙ ap (λ (o : Option Row). option_or o (first_row assignments ws)) (sym c.in_default.is)
    ∙ rows_found c.first_byte.result ws c.in_ok-row.field-0 c.first_byte.ensures (c.in_ok-row.ensures.row ∙ ap (λ (rows : List Row). first_row rows ws) c.rows_of.ensures)
