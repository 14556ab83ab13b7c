use Rattle.std.proofs.lemmas.List.{take_rest}
use Rattle.rc_log.proofs.Blanks.{is_cut}
use Rattle.rc_log.proofs.words.cut.Goals as goal

pub returns : goal.returns
returns c =
    let line = c.args.line.now in
    let end = c.letters_in_front-end.result in
    rw (take_rest line end) (is_cut line end c.letters_in_front-end.ensures.value c.letters_in_front-end.ensures.within)
