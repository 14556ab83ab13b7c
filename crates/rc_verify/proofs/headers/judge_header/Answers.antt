use Rattle.std.proofs.Common.{◌∙◌, sym}
use Rattle.rc_lang.specs.Parts.{view_thread}
use Rattle.rc_lang.specs.Program.{line_end}
use Rattle.rc_rules.specs.Labellings.{given_to}
use Rattle.rc_verify.proofs.Beginning.{thread_is}
use Rattle.rc_verify.proofs.Sums.{header_told, held_with, now_held, one_or_none, still_within}
use Rattle.rc_verify.proofs.headers.judge_header.Goals as goal

pub judge_and_hold-requires-clause-alone : goal.judge_and_hold-requires-clause-alone
judge_and_hold-requires-clause-alone c = λ h.
    let P = c.args.program.now in
    let t = view_thread c.index-threads-thread.result in
    let is = thread_is P c.threads.result.now c.args.thread c.index-threads-thread.result c.threads.ensures.value c.requires.there c.index-threads-thread.is in
    one_or_none P c.args.thread c.copies_of-copies.result t c.threads.ensures.made is c.copies_of-copies.ensures.value (sym c.may_hold.ensures ∙ h)

pub judge_and_hold-requires-clause-items : goal.judge_and_hold-requires-clause-items
judge_and_hold-requires-clause-items c =
    let P = c.args.program.now in
    let t = view_thread c.index-threads-thread.result in
    let is = thread_is P c.threads.result.now c.args.thread c.index-threads-thread.result c.threads.ensures.value c.requires.there c.index-threads-thread.is in
    (c.threads.ensures.made.each c.args.thread t is).items

pub judge_and_hold-requires-clause-within : goal.judge_and_hold-requires-clause-within
judge_and_hold-requires-clause-within c = still_within c.args.program.now _ _ c.requires.held c.requires.within

pub returns-clause-tests : goal.returns-clause-tests
returns-clause-tests c =
    let P = c.args.program.now in
    let t = view_thread c.index-threads-thread.result in
    let is = thread_is P c.threads.result.now c.args.thread c.index-threads-thread.result c.threads.ensures.value c.requires.there c.index-threads-thread.is in
    header_told P c.args.thread c.copies_of-copies.result t c.args.held.now c.may_hold.result c.judge_and_hold.result c.threads.ensures.made is c.requires.held c.copies_of-copies.ensures.value c.may_hold.ensures c.judge_and_hold.ensures.judges

pub returns-clause-held : goal.returns-clause-held
returns-clause-held c =
    let P = c.args.program.now in
    let t = view_thread c.index-threads-thread.result in
    let is = thread_is P c.threads.result.now c.args.thread c.index-threads-thread.result c.threads.ensures.value c.requires.there c.index-threads-thread.is in
    let same = held_with P c.args.thread c.copies_of-copies.result t c.args.held.now c.threads.ensures.made is c.requires.held c.copies_of-copies.ensures.value in
    now_held P c.args.held.now c.judge_and_hold.new.held (given_to P c.args.thread) (given_to P (line_end P.threads c.args.thread)) _ c.judge_and_hold.result c.requires.held same c.judge_and_hold.ensures.held
