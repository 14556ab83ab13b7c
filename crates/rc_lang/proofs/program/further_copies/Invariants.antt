use Rattle.std.specs.Prelude.{◌≡◌, ◌+◌, drop, map}
use Rattle.rc_lang.specs.Parts.{view_thread}
use Rattle.rc_lang.specs.Program.{further_copies}
use Rattle.rc_lang.proofs.program.further_copies.Given as goal

abbrev pub invariant-loop-count : goal.invariant-loop-count
invariant-loop-count l = further_copies (map view_thread l.threads) ≡ l.count + further_copies (map view_thread (drop l.count l.threads))
