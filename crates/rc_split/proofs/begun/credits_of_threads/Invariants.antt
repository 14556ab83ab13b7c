use Rattle.std.proofs.Common.{◌≡◌, take}
use Rattle.std.specs.List.{sum_by}
use Rattle.rc_split.proofs.Given.{kept_with}
use Rattle.rc_split.proofs.begun.credits_of_threads.Given as goal

-- what those so far begin with
abbrev pub invariant-loop-thread : goal.invariant-loop-thread
invariant-loop-thread l = l.given ≡ sum_by kept_with (take l.thread-index l.threads)
