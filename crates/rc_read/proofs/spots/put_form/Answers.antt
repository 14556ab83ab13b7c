use Rattle.std.proofs.Common.{List, length, sym, ap, ◌∙◌}
use Rattle.std.proofs.lemmas.List.{length-map}
use Rattle.rc_read.specs.Table.{parts_of as spec_parts_of}
use Rattle.rc_read.specs.declared.table.Part.{Part}
use Rattle.rc_read.specs.Texts.{texts_of}
use Rattle.rc_read.proofs.Rows.{none_of_others}
use Rattle.rc_read.proofs.spots.put_form.Goals as goal

pub returns-then-not-has_list-clause-matches : goal.returns-then-not-has_list-clause-matches
returns-then-not-has_list-clause-matches c =
    let words = c.args.words.now in
    sym (none_of_others (spec_parts_of c.args.row) (texts_of words) (λ e. c.if-parts-words.true (ap (λ (parts : List Part). length parts) c.parts_of-parts.ensures ∙ e ∙ length-map words _)) (sym c.has_list.ensures ∙ c.if-not-has_list.true))
