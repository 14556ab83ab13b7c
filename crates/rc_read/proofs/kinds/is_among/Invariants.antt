use Rattle.std.proofs.Common.{◌≡◌, drop, filter_map}
use Rattle.std.specs.List.{list_any}
use Rattle.rc_lang.specs.Kinds as kinds
use Rattle.rc_read.proofs.kinds.is_among.Given as goal

abbrev pub invariant-loop-other : goal.invariant-loop-other
invariant-loop-other l = list_any (kinds.is_one_kind l.kind) (filter_map (λ other. other) (drop l.other-index l.others)) ≡ list_any (kinds.is_one_kind l.kind) (filter_map (λ other. other) l.others)
