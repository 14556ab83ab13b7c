use Rattle.std.specs.Prelude.{◌≡◌, map, take}
use Rattle.rc_lang.specs.Parts.{view_items}
use Rattle.rc_read.specs.View.{view_lists}
use Rattle.rc_read.proofs.copies.lists_again.Given as goal

abbrev pub invariant-loop-items : goal.invariant-loop-items
invariant-loop-items l = view_lists l.again ≡ map view_items (take l.items-index l.lists)
