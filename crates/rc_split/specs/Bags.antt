-- Bags: how many of each part somebody holds.
use Rattle.std.specs.Prelude.{ℕ, ◌≡◌, ◌+◌, ◌-◌, ◌≤◌, Bool, true, false, cond, min, nat_eq, sum_by, count_by, List, [], ◌++◌, map, None}
use Rattle.rc_lang.specs.declared.program.Share.{Share}
use Rattle.rc_lang.specs.declared.program.Token.{Token}
use Rattle.rc_lang.specs.Program.{Items, Stock, Thread, besides, no_more}

-- what holdings are made of: shares of the buffer with a number, the token with a user data, credits for completions
pub data Part : Type 0 where
  ShareOf : (buffer : ℕ) → Part
  TokenOf : (user_data : ℕ) → Part
  Credit : Part

abbrev pub nothing : Part → ℕ
nothing p = 0

-- so many shares of a buffer, a token, so many credits
abbrev pub shares_bag : ℕ → ℕ → Part → ℕ
shares_bag b k (ShareOf c) = cond (nat_eq b c) k 0
shares_bag b k (TokenOf u) = 0
shares_bag b k Credit = 0

abbrev pub token_bag : ℕ → Part → ℕ
token_bag u (ShareOf c) = 0
token_bag u (TokenOf v) = cond (nat_eq u v) 1 0
token_bag u Credit = 0

abbrev pub credits_bag : ℕ → Part → ℕ
credits_bag n (ShareOf c) = 0
credits_bag n (TokenOf u) = 0
credits_bag n Credit = n

-- what items say that is held
abbrev pub bag_of : Items → Part → ℕ
bag_of items (ShareOf b) = sum_by (λ (s : Share). cond (nat_eq s.buffer b) s.count 0) items.shares
bag_of items (TokenOf u) = count_by (λ v. nat_eq v u) items.tokens
bag_of items Credit = items.credits

-- items of these shares, tokens and credits; of shares alone, and of tokens alone
abbrev pub parts : List Share → List ℕ → ℕ → Items
parts shares tokens credits = record { shares = shares; tokens = tokens; credits = credits; queue = None; more = no_more }

abbrev pub shares_alone : List Share → Items
shares_alone shares = parts shares [] 0

abbrev pub tokens_alone : List ℕ → Items
tokens_alone tokens = parts [] tokens 0

-- part by part: the sum, what is left of the first without the second, and the least of both
abbrev pub plus : (Part → ℕ) → (Part → ℕ) → Part → ℕ
plus a b p = a p + b p

abbrev pub minus : (Part → ℕ) → (Part → ℕ) → Part → ℕ
minus a b p = a p - b p

abbrev pub least : (Part → ℕ) → (Part → ℕ) → Part → ℕ
least a b p = min (a p) (b p)

-- what a loop's items say is held while the flag is 0 (true), and while it isn't
abbrev pub bag_on : Bool → Items → Part → ℕ
bag_on true items = bag_of items
bag_on false items = plus (bag_of items) (bag_of (besides items))

-- how many of these tokens a bag hasn't
abbrev pub lacking : List Token → (Part → ℕ) → ℕ
lacking tokens b = count_by (λ (t : Token). nat_eq (b (TokenOf t.user_data)) 0) tokens

-- what pools have at the start, and what threads begin with, in the order of their lines
abbrev pub begun : List Stock → List Thread → List Items
begun stock threads = map (λ (s : Stock). s.items) stock ++ map (λ (t : Thread). t.items) threads

-- how many credits these lists give
abbrev pub credits_given : List Items → ℕ
credits_given lists = sum_by (λ (i : Items). i.credits) lists

-- The second bag covers the first.
abbrev pub IsWithin : (Part → ℕ) → (Part → ℕ) → Type 0
IsWithin a b = (p : Part) → a p ≤ b p

abbrev pub IsSameBag : (Part → ℕ) → (Part → ℕ) → Type 0
IsSameBag a b = (p : Part) → a p ≡ b p
