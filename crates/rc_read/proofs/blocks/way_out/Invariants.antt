use Rattle.std.proofs.Common.{◌≡◌, drop}
use Rattle.rc_lang.specs.Nesting as spec
use Rattle.rc_read.specs.View.{view_way}
use Rattle.rc_read.proofs.blocks.way_out.Given as goal

abbrev pub invariant-loop-block : goal.invariant-loop-block
invariant-loop-block l = spec.way_through (view_way l.way) (drop l.block-index l.blocks) ≡ spec.way_out l.blocks
