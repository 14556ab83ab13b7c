use Rattle.std.proofs.Common.{◌≡◌, ◌+◌, drop}
use Rattle.rc_lang.specs.Parts.{view_names}
use Rattle.rc_read.specs.Sheets as spec
use Rattle.rc_read.proofs.names.find_pool.Given as goal

abbrev pub invariant-loop-i : goal.invariant-loop-i
invariant-loop-i l = record {
  number : l.i + spec.number_in (view_names (drop l.i l.pools)) l.word ≡ spec.number_in (view_names l.pools) l.word;
  declared : spec.is_among (view_names (drop l.i l.pools)) l.word ≡ spec.is_among (view_names l.pools) l.word;
}
