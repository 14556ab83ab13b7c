use Rattle.std.specs.Prelude.{◌≡◌, take}
use Rattle.rc_lang.specs.Parts.{view_names}
use Rattle.rc_read.proofs.copies.names_again.Given as goal

abbrev pub invariant-loop-name : goal.invariant-loop-name
invariant-loop-name l = view_names l.again.items ≡ view_names (take l.name-index l.names)
