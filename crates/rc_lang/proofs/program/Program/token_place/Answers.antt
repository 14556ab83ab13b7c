use Rattle.rc_lang.proofs.Found.{found_at}
use Rattle.rc_lang.proofs.program.Program.token_place.Goals as goal

pub returns-then-tokens-guess-clause-value : goal.returns-then-tokens-guess-clause-value
returns-then-tokens-guess-clause-value c = found_at c.args.self.now c.tokens-tokens.result.now c.args.user_data c.match-first.guess _ c.tokens-tokens.ensures.made c.tokens-tokens.ensures.value c.if-guess-tokens.true c.if-tokens-guess.true
