use Rattle.std.proofs.Common.{◌≤◌}
use Rattle.rc_read.specs.Texts.{texts_of}
use Rattle.rc_read.proofs.Cuts.{CutAt}
use Rattle.rc_read.proofs.words.put_words.Given as goal

abbrev pub invariant-loop-i : goal.invariant-loop-i
invariant-loop-i l = record {
  above : l.start ≤ l.i;
  cut : CutAt l.line l.start l.i (texts_of l.words.items);
}
