use Rattle.std.proofs.Common.{◌≡◌, ◌++◌, drop, map}
use Rattle.std.specs.List.{flat_map}
use Rattle.rc_lang.specs.Parts.{view_thread}
use Rattle.rc_command.specs.Unmade.{unmade_of}
use Rattle.rc_command.proofs.departures.unmade.push_threads.Given as goal

abbrev pub invariant-loop-thread : goal.invariant-loop-thread
invariant-loop-thread l =
    l.unmade.items ++ flat_map (unmade_of l.fn.follower.reached) (map view_thread (drop l.thread-index l.fn.threads))
    ≡ l.fn.unmade.items ++ flat_map (unmade_of l.fn.follower.reached) (map view_thread l.fn.threads)
