use Rattle.std.proofs.Common.{◌≡◌, refl, [], length, sym, ◌∙◌, arith, rules}
use Rattle.std.proofs.lemmas.Bool.{eqb-true}
use Rattle.std.proofs.lemmas.List.{nil_from_length}
use Rattle.rc_read.specs.View.{view_sheet}
use Rattle.rc_read.proofs.Streams.{ends, sound_by}
use Rattle.rc_read.proofs.reader.end_line.Goals as goal

pub returns-then-is_empty-clause-reads : goal.returns-then-is_empty-clause-reads
returns-then-is_empty-clause-reads c =
    let pending = c.args.pending.now in
    let n : length pending.items ≡ 0 = omega (arith, eqb-true _ _ (sym c.is_empty.ensures ∙ c.if-is_empty.true)) in
    let e : pending.items ≡ [] = nil_from_length pending.items n in
    ends c.judge.result (view_sheet c.args.parts.now) (view_sheet c.judge.new.parts) pending.items c.args.front.now c.args.front.now pending.items c.requires (rw e refl) e c.judge.ensures

pub returns-then-is_empty-clause-sound : goal.returns-then-is_empty-clause-sound
returns-then-is_empty-clause-sound c =
    sound_by (view_sheet c.args.parts.now) (view_sheet c.judge.new.parts) c.args.front.now c.judge.result c.judge.ensures

pub returns-clause-reads : goal.returns-clause-reads
returns-clause-reads c =
    ends c.judge-judged.result (view_sheet c.args.parts.now) (view_sheet c.judge-judged.new.parts) c.args.pending.now.items c.args.front.now c.deref.result.now c.clear.new.self.items c.requires (search rules) c.clear.ensures.items c.judge-judged.ensures

pub returns-clause-sound : goal.returns-clause-sound
returns-clause-sound c =
    sound_by (view_sheet c.args.parts.now) (view_sheet c.judge-judged.new.parts) c.deref.result.now c.judge-judged.result c.judge-judged.ensures
