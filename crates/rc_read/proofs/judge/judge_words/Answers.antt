use Rattle.std.proofs.Common.{rules, ◌≡◌, Option, false, true, ap, not, sym, ◌∙◌}
use Rattle.rc_read.specs.declared.table.Row.{Row}
use Rattle.rc_read.specs.Sentences.{bad_head, bad_line, may_stand}
use Rattle.rc_read.specs.Table.{stand_of}
use Rattle.rc_read.specs.Texts.{texts_of}
use Rattle.rc_read.specs.View.{view_sheet}
use Rattle.rc_read.proofs.Judged.{adds_none, form_next, head_first, judges_words}
use Rattle.rc_read.proofs.judge.judge_words.Goals as goal

pub returns-then-bad_head : goal.returns-then-bad_head
returns-then-bad_head c =
    let s = view_sheet c.args.parts.now in
    let ws = texts_of c.args.words.now in
    record { names = adds_none s; judges = head_first s c.args.line.now c.args.words.now (sym c.is_empty.ensures ∙ c.if-is_empty.false) (ap (λ (o : Option Row). bad_head s.region o ws) (sym c.in_ok-row.ensures.row) ∙ sym c.bad_head.ensures ∙ c.if-bad_head.true) }

pub returns-in_default : goal.returns-in_default
returns-in_default c =
    let s = view_sheet c.args.parts.now in
    let ws = texts_of c.args.words.now in
    record {
      names = adds_none s;
      judges = form_next s c.args.line.now c.args.words.now (sym c.is_empty.ensures ∙ c.if-is_empty.false) (ap (λ (o : Option Row). bad_head s.region o ws) (sym c.in_ok-row.ensures.row) ∙ sym c.bad_head.ensures ∙ c.if-bad_head.false)
          (ap (bad_line s.region) (sym c.in_ok-row.ensures.row ∙ c.in_default.is));
    }

pub returns-then-not-may_stand : goal.returns-then-not-may_stand
returns-then-not-may_stand c =
    let s = view_sheet c.args.parts.now in
    let ws = texts_of c.args.words.now in
    let stands : may_stand (stand_of c.in-Some.row) s.region ≡ false = search rules in
    record {
      names = adds_none s;
      judges = form_next s c.args.line.now c.args.words.now (sym c.is_empty.ensures ∙ c.if-is_empty.false) (ap (λ (o : Option Row). bad_head s.region o ws) (sym c.in_ok-row.ensures.row) ∙ sym c.bad_head.ensures ∙ c.if-bad_head.false)
          (ap (bad_line s.region) (sym c.in_ok-row.ensures.row ∙ c.in-Some.is) ∙ ap not stands);
    }

pub judge_row-requires : goal.judge_row-requires
judge_row-requires c = rw c.in-Some.is at c.in_ok-row.ensures.spots

pub returns : goal.returns
returns c =
    let s = view_sheet c.args.parts.now in
    let ws = texts_of c.args.words.now in
    let stands : may_stand (stand_of c.in-Some.row) s.region ≡ true = search rules in
    record {
      names = c.judge_row.ensures.names;
      judges = judges_words c.judge_row.result s (view_sheet c.judge_row.new.parts) c.args.line.now c.args.words.now c.in-Some.row (sym c.is_empty.ensures ∙ c.if-is_empty.false) (sym c.in_ok-row.ensures.row ∙ c.in-Some.is)
          (ap (λ (o : Option Row). bad_head s.region o ws) (sym c.in_ok-row.ensures.row) ∙ sym c.bad_head.ensures ∙ c.if-bad_head.false) stands c.judge_row.ensures.judges;
    }
