use Rattle.std.specs.Prelude.{◌≡◌, ◌++◌, map}
use Rattle.rc_lang.specs.Parts.{view_thread}
use Rattle.rc_read.specs.Adds.{copies_of}
use Rattle.rc_read.proofs.copies.push_copies.Given as goal

abbrev pub invariant-loop-copy : goal.invariant-loop-copy
invariant-loop-copy l = map view_thread l.threads.items ≡ map view_thread l.initial.threads.items ++ copies_of (view_thread l.thread) l.copy
