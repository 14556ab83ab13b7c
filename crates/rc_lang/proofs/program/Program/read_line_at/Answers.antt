use Rattle.std.proofs.Common.{Some, ap, ◌∙◌}
use Rattle.rc_lang.proofs.Reading.{line_found, rows_small}
use Rattle.rc_lang.proofs.program.Program.read_line_at.Goals as goal

pub read_line-requires : goal.read_line-requires
read_line-requires c =
    let k = c.in_ok-thread.ensures.lookup in
    rows_small c.args.self.now c.threads.result.now c.args.thread c.in_ok-thread.thread.now c.threads.ensures.value k.3.0 (k.3.1 c.in_ok-thread.thread.now) c.threads.ensures.made

pub returns-clause-value : goal.returns-clause-value
returns-clause-value c =
    let k = c.in_ok-thread.ensures.lookup in
    let m = c.in_ok-line.ensures.lookup in
    ap Some c.read_line.ensures
    ∙ line_found c.args.self.now c.threads.result.now c.args.thread c.in_ok-thread.thread.now c.threads.ensures.value k.3.0 (k.3.1 c.in_ok-thread.thread.now) c.args.variables.now c.deref.result.now c.args.place c.in_ok-line.line.now c.deref.ensures.value m.3.0 (m.3.1 c.in_ok-line.line.now)
