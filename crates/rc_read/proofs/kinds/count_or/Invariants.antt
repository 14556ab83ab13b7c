use Rattle.std.proofs.Common.{◌≡◌, ◌≤◌, ◌+◌, drop}
use Rattle.rc_read.specs.Spots as spec
use Rattle.rc_read.specs.Texts.{texts_of}
use Rattle.rc_read.proofs.kinds.count_or.Given as goal

abbrev pub invariant-loop-word : goal.invariant-loop-word
invariant-loop-word l = record {
  within : l.count ≤ l.word-index;
  value : l.count + spec.count_or (texts_of (drop l.word-index l.words)) ≡ spec.count_or (texts_of l.words);
}
