-- What the request of a token may be.
use Rattle.std.specs.Prelude.{Bool, true, false, List, ◌∷◌, nat_eq, filter_map}
use Rattle.rc_lang.specs.declared.program.Token.{Token}
use Rattle.rc_lang.specs.declared.program.TokenKind.{TokenKind}
use Rattle.rc_lang.specs.declared.program.TokenKind.TheVariants.{Read, Write, Fsync, Nop, Other}

-- the kinds that the token's line names, the first one first
abbrev pub kinds_in : Token → List TokenKind
kinds_in token = token.kind ∷ filter_map (λ other. other) token.others

-- of one word, and of one buffer where the word has one
abbrev pub is_one_kind : TokenKind → TokenKind → Bool
is_one_kind (Read b) (Read c) = nat_eq b c
is_one_kind (Write b k) (Write c l) = nat_eq b c
is_one_kind Fsync Fsync = true
is_one_kind Nop Nop = true
is_one_kind Other Other = true
is_one_kind _ _ = false
