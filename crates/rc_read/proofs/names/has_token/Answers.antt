use Rattle.std.proofs.Common.{sym}
use Rattle.std.proofs.lemmas.Bool.{eq-eqb}
use Rattle.std.proofs.lemmas.List.Folds.{list_any_at}
use Rattle.rc_read.proofs.names.has_token.Goals as goal

pub returns-then-tokens-guess : goal.returns-then-tokens-guess
returns-then-tokens-guess c =
    sym (list_any_at _ c.args.tokens.now c.match-first.guess _ c.if-guess-tokens.true (eq-eqb _ _ c.if-tokens-guess.true))
