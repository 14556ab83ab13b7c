use Rattle.std.proofs.Common.{◌≤◌, length}
use Rattle.rc_runs.specs.Repeats.{where_made}
use Rattle.rc_runs.specs.Spelling.{spelled}
use Rattle.rc_runs.proofs.Counted.{IsSpelledTo}
use Rattle.rc_runs.proofs.spelling.spell.Given as goal

abbrev pub invariant-loop-named : goal.invariant-loop-named
invariant-loop-named l = record {
  so_far : IsSpelledTo (spelled l.program l.moves) l.moves l.named-index (where_made l.goes_on l.world) l.items.items l.counts.items;
  made : l.world.made ≤ length l.items.items;
}
