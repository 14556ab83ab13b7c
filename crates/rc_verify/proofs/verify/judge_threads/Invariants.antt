use Rattle.std.specs.Prelude.{◌≡◌, ◌-◌, ◌≤◌, length}
use Rattle.rc_split.specs.Bags.{IsWithin}
use Rattle.rc_split.specs.Holdings.{Holds}
use Rattle.rc_rules.specs.Labellings.{given_to}
use Rattle.rc_rules.specs.Rules.{limit}
use Rattle.rc_verify.proofs.Threads.{PassTo}
use Rattle.rc_verify.proofs.verify.judge_threads.Given as goal

abbrev pub invariant-loop-thread : goal.invariant-loop-thread
invariant-loop-thread l = record {
  of : l.labels.program ≡ l.program;
  few : l.thread ≤ length l.program.threads;
  held : Holds l.held l.program (given_to l.program l.thread);
  within : IsWithin (given_to l.program l.thread) (limit l.program);
  passed : PassTo l.program l.thread;
}

abbrev pub decreases-loop-thread : goal.decreases-loop-thread
decreases-loop-thread l = length l.program.threads - l.thread
