use Rattle.std.proofs.Common.{◌<◌, ◌+◌, ◌^◌, subst, arith}
use Rattle.rc_split.specs.Holdings.{IsDeclared}
use Rattle.rc_split.proofs.Small.{share_small, shares_sound, credits_small}
use Rattle.rc_split.proofs.Tokens.{placed}
use Rattle.rc_split.proofs.holding.Holding.give.Goals as goal

pub raise-requires-clause-small : goal.raise-requires-clause-small
raise-requires-clause-small c = share_small _ _ _ _ _ c.self.view_is c.in-Shares.is c.requires.small

pub invariant_of-self : goal.invariant_of-self
invariant_of-self c = shares_sound _ _ _ _ _ _ c.self.view_is c.in-Shares.is c.requires.small c.self.invariant c.raise.ensures

pub mark-requires : goal.mark-requires
mark-requires c =
    let d = subst (IsDeclared c.args.self.now.program) c.in-Token.is c.requires.declared in
    placed c.args.self.now.program.tokens c.in-Token.user_data d.0 d.1 d.2

pub overflow_add-self : goal.overflow_add-self
overflow_add-self c = let s : c.self-in-Credits.inside.rows.credits + c.in-Credits.count < 2 ^ 20 = credits_small _ _ _ _ c.self-in-Credits.view_is c.in-Credits.is c.requires.small in omega arith

pub invariant_of-self-in-Credits : goal.invariant_of-self-in-Credits
invariant_of-self-in-Credits c = record {
  made = c.self-in-Credits.invariant.made;
  shares = c.self-in-Credits.invariant.shares;
  credits = credits_small _ _ _ _ c.self-in-Credits.view_is c.in-Credits.is c.requires.small;
}
