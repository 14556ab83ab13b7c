-- Whether what is held leaves what a header, or the line of a pool, asks for.
use Rattle.std.specs.Prelude.{ℕ, ◌+◌, ◌*◌, ◌≤◌, Bool, Result, nat_eq, nat_le}
use Rattle.rc_lang.specs.declared.program.Share.{Share}
use Rattle.rc_lang.specs.Program.{Items, Program, shares_at}
use Rattle.rc_rules.specs.declared.cause.Cause.{Cause}
use Rattle.rc_rules.specs.Labellings.{header_premises}
use Rattle.rc_rules.specs.Premises.{Tests}
use Rattle.rc_split.specs.Bags.{IsSameBag, Part, ShareOf, TokenOf, bag_of, plus}

-- so many of each
abbrev pub times : ℕ → (Part → ℕ) → Part → ℕ
times n bag p = n * bag p

-- No token is there twice.
abbrev pub HoldsOnce : (Part → ℕ) → Type 0
HoldsOnce bag = (u : ℕ) → bag (TokenOf u) ≤ 1

-- Beside what is held the items are there so many times, or this is the least premise that fails, of what is held and
-- they together.
abbrev pub JudgesItems : {X : Type 0} → Program → (Part → ℕ) → ℕ → Bool → Items → Result X Cause → Type 0
JudgesItems P held copies alone items result =
    (all : Part → ℕ) → IsSameBag all (plus held (times copies (bag_of items))) → Tests result (header_premises P all alone)

-- For each copy there are so many shares of the buffer beside those that are held.
abbrev pub share_fits : Program → (Part → ℕ) → ℕ → Share → Bool
share_fits P held copies s = nat_le (held (ShareOf s.buffer) + copies * s.count) (shares_at P.buffers s.buffer)

-- The token isn't held.
abbrev pub token_fits : (Part → ℕ) → ℕ → Bool
token_fits held u = nat_eq (held (TokenOf u)) 0
