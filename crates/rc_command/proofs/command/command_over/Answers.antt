use Rattle.rc_command.proofs.Leaving.{few_after}
use Rattle.rc_command.proofs.command.command_over.Goals as goal

pub ended-requires : goal.ended-requires
ended-requires g c = few_after (g.T.Texts.gives c.args.texts.now) (g.T.Logs.opens c.args.texts.now) (g.I.Read.remaining c.args.reader) c.args.asked _ _ _ _ _ _ c.requires.told c.answer_words-answer.ensures.answer

pub returns-clause-answer : goal.returns-clause-answer
returns-clause-answer g c = (c.answer_words-answer.result, g.E.Sink.state c.answer_words-answer.new.errors, c.answer_words-answer.ensures.answer, c.ended.ensures.answer)
