-- Lines and words in pieces.
use Rattle.std.specs.Prelude.{ℕ, List, [], ◌∷◌}
use Rattle.std.specs.List.{flat_map}
use Rattle.rc_report.specs.declared.printed.Line.{Line}
use Rattle.rc_report.specs.declared.printed.Words.{Words}
use Rattle.rc_report.specs.Printed.{joined}

abbrev pub line_text : Line → List ℕ
line_text line = flat_map (λ p. p.now) line.pieces

abbrev pub words_text : Words → List ℕ
words_text words = joined (words.word.now ∷ words.first.now ∷ words.between.now ∷ words.second.now ∷ [])
