use Rattle.std.proofs.Common.{◌≡◌, ◌++◌, drop}
use Rattle.std.specs.List.{flat_map}
use Rattle.rc_command.specs.Unmade.{unmade_line}
use Rattle.rc_command.proofs.departures.printed.put_unmade_lines.Given as goal

abbrev pub invariant-loop-line : goal.invariant-loop-line
invariant-loop-line l =
    l.text.items ++ flat_map unmade_line (drop l.line-index l.fn.unmade) ≡ l.fn.text.items ++ flat_map unmade_line l.fn.unmade
