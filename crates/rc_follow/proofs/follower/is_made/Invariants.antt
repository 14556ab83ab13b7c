use Rattle.std.proofs.Common.{◌≡◌, drop}
use Rattle.std.specs.Prelude.{false, slice_index_or}
use Rattle.std.specs.List.{list_any}
use Rattle.rc_follow.specs.Ways.{Way}
use Rattle.rc_follow.proofs.follower.is_made.Given as goal

abbrev pub invariant-loop-way : goal.invariant-loop-way
invariant-loop-way l =
    list_any (λ (w : Way). slice_index_or w.made l.number false) l.fn.ways ≡ list_any (λ (w : Way). slice_index_or w.made l.number false) (drop l.way-index l.fn.ways)
