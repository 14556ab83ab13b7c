use Rattle.std.proofs.Common.{◌≡◌, ◌++◌}
use Rattle.std.specs.List.{flat_map}
use Rattle.rc_report.specs.Shown.{shown_char}
use Rattle.rc_report.proofs.shown.put_shown.Given as goal

abbrev pub invariant-loop-character : goal.invariant-loop-character
invariant-loop-character l = l.text.items ≡ l.initial.text.items ++ flat_map shown_char l.yielded
