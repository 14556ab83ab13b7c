-- What the request of a token may be, and the shares that it owns.
use Rattle.std.specs.Prelude.{ℕ, Bool, true, false, ◌&&◌, min, List, [], ◌∷◌, Option, Some, None, nat_eq, slice_get}
use Rattle.rc_lang.specs.declared.program.Token.{Token}
use Rattle.rc_lang.specs.declared.program.TokenKind.{TokenKind}
use Rattle.rc_lang.specs.declared.program.TokenKind.TheVariants.{Read, Write, Fsync, Nop, Other}
use Rattle.rc_lang.specs.Kinds.{kinds_in}
use Rattle.rc_lang.specs.Program.{Program, shares_at, token_place}
use Rattle.rc_split.specs.Bags.{Part, shares_bag}

-- the declared token with a user data
abbrev pub token_at : List Token → Option ℕ → Option Token
token_at tokens None = None
token_at tokens (Some place) = slice_get tokens place

abbrev pub token_of : Program → ℕ → Option Token
token_of P u = token_at P.tokens (token_place P.tokens u)

-- the kinds that a token's line names, and none where it isn't declared
abbrev pub kinds_at : Option Token → List TokenKind
kinds_at None = []
kinds_at (Some token) = kinds_in token

abbrev pub kinds_of : Program → ℕ → List TokenKind
kinds_of P u = kinds_at (token_of P u)

abbrev pub same_kind : TokenKind → TokenKind → Bool
same_kind (Read b) (Read c) = nat_eq b c
same_kind (Write b k) (Write c l) = nat_eq b c && nat_eq k l
same_kind Fsync Fsync = true
same_kind Nop Nop = true
same_kind Other Other = true
same_kind _ _ = false

-- the shares that a request of a kind takes: all of a buffer that is read into, those that a write names
abbrev pub kind_bag : Program → TokenKind → Part → ℕ
kind_bag P (Read b) p = shares_bag b (shares_at P.buffers b) p
kind_bag P (Write b k) p = shares_bag b k p
kind_bag P Fsync p = 0
kind_bag P Nop p = 0
kind_bag P Other p = 0

-- of so many of a part, and of what each of these kinds takes of it, the least
abbrev pub least_of : Program → ℕ → List TokenKind → Part → ℕ
least_of P n [] p = n
least_of P n (kind ∷ kinds) p = least_of P (min n (kind_bag P kind p)) kinds p

-- the shares that a request of one of these kinds takes, whichever of them it is
abbrev pub line_bag : Program → List TokenKind → Part → ℕ
line_bag P [] p = 0
line_bag P (kind ∷ kinds) p = least_of P (kind_bag P kind p) kinds p
