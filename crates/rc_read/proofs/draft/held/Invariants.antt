use Rattle.std.proofs.Common.{◌≡◌, ◌++◌, drop}
use Rattle.std.specs.Option.{option_or}
use Rattle.std.specs.Prelude.{unwrap_or}
use Rattle.rc_read.specs.Adds as spec
use Rattle.rc_read.proofs.draft.held.Given as goal

abbrev pub invariant-loop-item : goal.invariant-loop-item
invariant-loop-item l = record {
  shares : l.shares.items ++ spec.shares_held (drop l.item-index l.items) ≡ spec.shares_held l.items;
  tokens : l.tokens.items ++ spec.tokens_held (drop l.item-index l.items) ≡ spec.tokens_held l.items;
  credits : unwrap_or l.credits (spec.credits_held (drop l.item-index l.items)) ≡ spec.credits_held l.items;
  queue : option_or l.queue (spec.queue_held (drop l.item-index l.items)) ≡ spec.queue_held l.items;
}
