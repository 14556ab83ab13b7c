use Rattle.std.proofs.Common.{refl, rules, eqb, tests}
use Rattle.std.specs.List.{slice_split}
use Rattle.std.proofs.lemmas.List.{length_push}
use Rattle.std.proofs.lemmas.Iterator.Consumers.{YieldsList-turn, YieldsList-end}
use Rattle.std.proofs.lemmas.Iterator.Splits.{YieldsList-from_slice_split}
use Rattle.rc_runs.proofs.Reading.{line_fails, lines_begin, lines_end, takes_line}
use Rattle.rc_runs.proofs.moves.read_moves.Goals as goal

pub loop-line-init : goal.loop-line-init
loop-line-init c = lines_begin c.args.program.now c.args.moves.now c.new-read.result.items (slice_split (λ b. eqb b 10) c.args.moves.now) c.new-read.ensures.items refl

pub loop-line-preserved : goal.loop-line-preserved
loop-line-preserved c =
    let yields = YieldsList-from_slice_split _ (λ b. eqb b 10) c.args.moves.now (search rules) (search rules) (search rules) (λ x b q k. search (rules, tests)) in
    let t = YieldsList-turn yields c.loop-line.yielded _ c.loop-line.yielded_by _ _ c.in-Some.line c.in-Some.is c.next.ensures.steps in
    let e = c.in_ok-read_line.ensures in
    takes_line c.args.program.now c.loop-line.read.items _ e.0 _ _ _ c.in-Some.line.now _ t (length_push c.loop-line.yielded c.in-Some.line) e.1 e.2 c.loop-line.invariant

pub returns-in_err-read_line : goal.returns-in_err-read_line
returns-in_err-read_line c =
    let yields = YieldsList-from_slice_split _ (λ b. eqb b 10) c.args.moves.now (search rules) (search rules) (search rules) (λ x b q k. search (rules, tests)) in
    let t = YieldsList-turn yields c.loop-line.yielded _ c.loop-line.yielded_by _ _ c.in-Some.line c.in-Some.is c.next.ensures.steps in
    line_fails (Unit {0}) c.args.program.now c.args.moves.now c.loop-line.read.items c.read_line.new.read.items _ _ c.in-Some.line.now c.in_err-read_line.field-0.0 c.from_residual.result t c.from_residual.ensures.1 c.in_err-read_line.ensures c.loop-line.invariant

pub returns : goal.returns
returns c =
    let yields = YieldsList-from_slice_split _ (λ b. eqb b 10) c.args.moves.now (search rules) (search rules) (search rules) (λ x b q k. search (rules, tests)) in
    let t = YieldsList-end yields c.loop-line.yielded _ c.loop-line.yielded_by _ _ c.in-None.is c.next.ensures.steps in
    lines_end c.args.program.now c.loop-line.read.items _ _ _ t.1 c.loop-line.invariant
