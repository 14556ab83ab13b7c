-- A token's kinds, one at a time.
use Rattle.std.specs.Prelude.{Bool, false, Option, Some, None}
use Rattle.rc_lang.specs.declared.program.TokenKind.{TokenKind}
use Rattle.rc_log.specs.Said.{is_other}

abbrev pub is_some_other : Option TokenKind → Bool
is_some_other None = false
is_some_other (Some kind) = is_other kind
