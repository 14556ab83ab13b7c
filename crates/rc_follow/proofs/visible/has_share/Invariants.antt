use Rattle.std.proofs.Common.{◌≡◌, drop}
use Rattle.std.specs.Prelude.{nat_eq}
use Rattle.std.specs.List.{list_any}
use Rattle.rc_lang.specs.declared.program.Share.{Share}
use Rattle.rc_follow.proofs.visible.has_share.Given as goal

abbrev pub invariant-loop-share : goal.invariant-loop-share
invariant-loop-share l =
    list_any (λ (s : Share). nat_eq s.buffer l.buffer) l.fn.shares ≡ list_any (λ (s : Share). nat_eq s.buffer l.buffer) (drop l.share-index l.fn.shares)
