use Rattle.std.proofs.Common.{None, ap, arith, rules}
use Rattle.rc_world.specs.declared.event.Item.TheVariants.{Thread}
use Rattle.rc_world.specs.Machine.{World}
use Rattle.rc_runs.specs.declared.moves.Move.TheVariants.{One}
use Rattle.rc_runs.specs.Repeats.{where_made}
use Rattle.rc_runs.specs.Spelling.{spelled}
use Rattle.rc_runs.proofs.Counted.{IsSpelledWhole, spells_all, spells_begin, spells_next}
use Rattle.rc_runs.proofs.spelling.spell.Goals as goal

pub loop-named-init : goal.loop-named-init
loop-named-init c = record {
  so_far = spells_begin c.args.program.now c.args.moves.now c.in_ok-world.world c.new-items.result.items c.new-counts.result.items c.in_ok-world.ensures c.new-items.ensures.items c.new-counts.ensures.items;
  made = omega (arith, ap (λ (w : World). w.made) c.in_ok-world.ensures);
}

pub loop-named-preserved : goal.loop-named-preserved
loop-named-preserved c = record {
  so_far = spells_next (spelled c.args.program.now c.args.moves.now) c.args.moves.now c.loop-named.named-index (One (Thread 0 None)) (where_made c.loop-named.goes_on c.loop-named.world) _ c.loop-named.items.items c.spell_next.new.items.items
      c.loop-named.counts.items c.push.new.self.items c.len-before.result c.len.result c.loop-named-test.true c.in_ok-goes_on.ensures.items c.in_ok-goes_on.ensures.world (search rules) (search rules) c.in_ok-push.ensures.items c.loop-named.invariant.so_far;
  made = c.in_ok-goes_on.ensures.made;
}

pub returns : goal.returns
returns c =
    let all : IsSpelledWhole _ c.loop-named.items.items c.loop-named.counts.items = spells_all _ c.args.moves.now c.loop-named.named-index _ c.loop-named.items.items c.loop-named.counts.items (omega arith) c.loop-named.invariant.so_far in
    record { items = all.items; counts = all.counts }
