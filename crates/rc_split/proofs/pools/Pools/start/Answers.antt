use Rattle.std.proofs.Common.{◌+◌, ◌*◌, ◌≤◌, ◌∙◌, ap, drop, map, subst, sym}
use Rattle.rc_lang.specs.Parts.{view_stock}
use Rattle.rc_split.specs.Pools.{Pools, all_pooled}
use Rattle.rc_split.proofs.Starting.{can_start, next_line, still_little, with_lines}
use Rattle.rc_split.proofs.pools.Pools.start.Goals as goal

pub add-requires : goal.add-requires
add-requires c = can_start c.args.program.now c.stock-lines.ensures.made c.stock-lines.result.now c.stock-lines.ensures.value c.loop-line.line-index c.line-item.result c.line-item.is c.loop-line-test.true c.loop-line.pools c.loop-line.invariant.few

pub loop-line-preserved : goal.loop-line-preserved
loop-line-preserved c =
    let P = c.args.program.now in
    let lines = c.stock-lines.result.now in
    let i = c.loop-line.line-index in
    record {
      lines = ap (λ (ps : Pools). with_lines P ps (drop (i + 1) (map view_stock lines))) c.add.ensures ∙ sym (next_line P c.stock-lines.ensures.made lines c.stock-lines.ensures.value i c.line-item.result c.line-item.is c.loop-line-test.true c.loop-line.pools) ∙ c.loop-line.invariant.lines;
      few = λ p. subst (λ (ps : Pools). all_pooled P ps p ≤ (i + 1) * 2048) (sym c.add.ensures) (still_little P c.stock-lines.ensures.made lines c.stock-lines.ensures.value i c.line-item.result c.line-item.is c.loop-line-test.true c.loop-line.pools c.loop-line.invariant.few p);
    }
