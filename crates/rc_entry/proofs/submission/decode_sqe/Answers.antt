use Rattle.std.proofs.Common.{rules}
use Rattle.std.proofs.lemmas.Bool.{false≢true}
use Rattle.rc_entry.proofs.Faults.{nonzero-answers}
use Rattle.rc_entry.proofs.submission.decode_sqe.Goals as goal

pub returns-then-not-others_are_zero-clause-fault : goal.returns-then-not-others_are_zero-clause-fault
returns-then-not-others_are_zero-clause-fault c =
    nonzero-answers c.args.bytes.now (search rules) (λ zeros. false≢true (c.if-not-others_are_zero.ensures.1 zeros.others))

pub returns-then-not-unused_are_zero-clause-fault : goal.returns-then-not-unused_are_zero-clause-fault
returns-then-not-unused_are_zero-clause-fault c =
    nonzero-answers c.args.bytes.now (search rules) (λ zeros. false≢true (c.if-not-unused_are_zero.ensures.1 (search (rules, zeros.unused))))
