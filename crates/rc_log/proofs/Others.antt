-- One of a token's kinds is that of another request where its first is, or one after it.
use Rattle.std.proofs.Common.{◌≡◌, List, [], ◌∷◌, ◌||◌, filter_map, Option, Some, None, refl, ap}
use Rattle.std.specs.List.{list_any}
use Rattle.rc_lang.specs.declared.program.TokenKind.{TokenKind}
use Rattle.rc_log.specs.Others.{is_some_other}
use Rattle.rc_log.specs.Said.{is_other}

pub any_other : (kinds : List (Option TokenKind)) → list_any is_some_other kinds ≡ list_any is_other (filter_map (λ kind. kind) kinds)
any_other [] = refl
any_other (None ∷ kinds) = any_other kinds
any_other (Some kind ∷ kinds) = ap (λ b. is_other kind || b) (any_other kinds)
