use Rattle.std.proofs.Common.{◌≡◌, ℕ, ◌+◌, ◌<◌, List, ◌++◌, ◌∙◌, length, drop, get_or, ap, append_assoc, sym}
use Rattle.std.proofs.lemmas.List.{drop_more}
use Rattle.std.specs.List.{flat_map}
use Rattle.rc_lang.specs.declared.lines.Line.{Line}
use Rattle.rc_command.specs.Unmade.{unmade_line}
use Rattle.rc_command.proofs.departures.printed.put_unmade_lines.Goals as goal

one_more : (f : Line → List ℕ) (lines : List Line) (i : ℕ) (d : Line) (a b whole : List ℕ) → i < length lines → b ≡ a ++ f (get_or lines i d) → a ++ flat_map f (drop i lines) ≡ whole → b ++ flat_map f (drop (i + 1) lines) ≡ whole
one_more f lines i d a b whole lt is h =
    ap (λ us. us ++ flat_map f (drop (i + 1) lines)) is ∙ append_assoc a (f (get_or lines i d)) (flat_map f (drop (i + 1) lines)) ∙ ap (λ ls. a ++ flat_map f ls) (sym (drop_more lines i d lt)) ∙ h

pub loop-line-preserved : goal.loop-line-preserved
loop-line-preserved c =
    one_more unmade_line c.args.unmade.now c.loop-line.line-index _ c.loop-line.text.items c.put_unmade_line.new.text.items _ c.loop-line-test.true c.in_ok-put_unmade_line.ensures c.loop-line.invariant
