-- When the submission ring has room for one more entry.
use Rattle.std.specs.Prelude.{ℕ, ◌-◌, Bool, nat_lt, nat_le, ◌&&◌, ◌||◌}
use Rattle.rc_lang.specs.Program.{Program}
use Rattle.rc_split.specs.Bags.{Part, Credit, begun, credits_given, lacking}

-- how many of the credits that threads begin with aren't held
abbrev pub credits_out : Program → (Part → ℕ) → ℕ
credits_out P bag = credits_given (begun P.stock P.threads) - bag Credit

-- The tokens that aren't held are fewer than the ring's entries; and so are the credits. Each queued entry owns one token
-- and one credit.
abbrev pub few_tokens : Program → (Part → ℕ) → Bool
few_tokens P bag = nat_le 4 P.version && nat_lt (lacking P.tokens bag) P.entries

abbrev pub few_credits : Program → (Part → ℕ) → Bool
few_credits P bag = nat_le 5 P.version && nat_lt (credits_out P bag) P.entries

-- Behind so many queued entries there is room for one more, from version 4 on where few tokens are out, too, and from
-- version 5 on where few credits are.
abbrev pub can_queue : Program → (Part → ℕ) → ℕ → Bool
can_queue P bag queued = nat_lt queued P.entries || (few_tokens P bag || few_credits P bag)
