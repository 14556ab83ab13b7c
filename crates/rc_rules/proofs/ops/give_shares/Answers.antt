use Rattle.std.proofs.Common.{refl, ap, ◌∙◌, ◌+◌, arith}
use Rattle.rc_lang.specs.Kinds.{kinds_in}
use Rattle.rc_split.specs.Bags.{ShareOf}
use Rattle.rc_split.specs.Holdings.{bag}
use Rattle.rc_rules.proofs.Lines.{buffer_back, first_kind, line_few, nothing_back}
use Rattle.rc_rules.proofs.ops.give_shares.Goals as goal

pub give_least-requires-clause-declared : goal.give_least-requires-clause-declared
give_least-requires-clause-declared c = first_kind c.args.holding.now.program c.args.token _ c.in-Read.is c.requires.declared

pub give_least-requires-clause-few : goal.give_least-requires-clause-few
give_least-requires-clause-few c = line_few c.args.holding.now.program (kinds_in c.args.token) (ShareOf c.in-Read.buffer) c.requires.made c.requires.declared

pub returns-in-Read : goal.returns-in-Read
returns-in-Read c = record {
  of = c.give_least.ensures.of;
  each = λ p. c.give_least.ensures.each p ∙ ap (λ n. bag c.args.holding.now p + n) (buffer_back c.args.holding.now.program c.args.token _ c.in-Read.is c.in-Read.buffer _ (λ q. refl) p);
}

pub give_least-requires-in-Write-clause-declared : goal.give_least-requires-in-Write-clause-declared
give_least-requires-in-Write-clause-declared c = (first_kind c.args.holding.now.program c.args.token _ c.in-Write.is c.requires.declared).0

pub give_least-requires-in-Write-clause-few : goal.give_least-requires-in-Write-clause-few
give_least-requires-in-Write-clause-few c = line_few c.args.holding.now.program (kinds_in c.args.token) (ShareOf c.in-Write.buffer) c.requires.made c.requires.declared

pub returns-in-Write : goal.returns-in-Write
returns-in-Write c = record {
  of = c.give_least-in-Write.ensures.of;
  each = λ p. c.give_least-in-Write.ensures.each p ∙ ap (λ n. bag c.args.holding.now p + n) (buffer_back c.args.holding.now.program c.args.token _ c.in-Write.is c.in-Write.buffer _ (λ q. refl) p);
}

pub returns-in-Fsync : goal.returns-in-Fsync
returns-in-Fsync c = record { of = refl; each = λ p. omega (arith, nothing_back c.args.holding.now.program c.args.token _ c.in-Fsync.is (λ q. refl) p) }

pub returns-in-Nop : goal.returns-in-Nop
returns-in-Nop c = record { of = refl; each = λ p. omega (arith, nothing_back c.args.holding.now.program c.args.token _ c.in-Nop.is (λ q. refl) p) }

pub returns-in-Other : goal.returns-in-Other
returns-in-Other c = record { of = refl; each = λ p. omega (arith, nothing_back c.args.holding.now.program c.args.token _ c.in-Other.is (λ q. refl) p) }
