use Rattle.std.proofs.Common.{◌+◌, ap, map, sym, ◌∙◌}
use Rattle.std.proofs.lemmas.List.{drop-map, take_rest}
use Rattle.rc_lang.specs.Parts.{view_thread}
use Rattle.rc_lang.specs.Program.{further_copies}
use Rattle.rc_lang.proofs.program.line_end.Goals as goal

pub returns-clause-value : goal.returns-clause-value
returns-clause-value c = ap (λ n. c.args.thread + 1 + n) (c.further_copies.ensures.value ∙ ap (λ ts. further_copies (map view_thread ts)) (take_rest c.args.threads.now (c.args.thread + 1)) ∙ ap further_copies (sym (drop-map view_thread (c.args.thread + 1) c.args.threads.now)))
