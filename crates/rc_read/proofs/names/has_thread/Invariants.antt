use Rattle.std.proofs.Common.{◌≡◌, map, drop}
use Rattle.rc_lang.specs.Parts.{view_thread}
use Rattle.rc_read.specs.Sheets as spec
use Rattle.rc_read.proofs.names.has_thread.Given as goal

abbrev pub invariant-loop-thread : goal.invariant-loop-thread
invariant-loop-thread l = spec.is_among (spec.thread_names (map view_thread (drop l.thread-index l.threads))) l.word ≡ spec.is_among (spec.thread_names (map view_thread l.threads)) l.word
