-- What a `Holding` stands for: the bag that is in its rows.
use Rattle.std.specs.Prelude.{ℕ, ◌≡◌, ◌+◌, ◌≤◌, ◌⊎◌, ◌/◌, ◌%◌, ◌^◌, ◌<◌, Bool, true, false, cond, List, length, Option, Some, None, nat_eq, nat_le, slice_index, All}
use Rattle.std.specs.Int.{bit_at}
use Rattle.rc_lang.specs.Program.{Program, token_place}
use Rattle.rc_lang.specs.Resolved.{DeclaresToken}
use Rattle.rc_lang.specs.Views.{IsView}
use Rattle.rc_lang.specs.declared.program.Share.{Share}
use Rattle.rc_split.specs.declared.holding.Rows.{Rows}
use Rattle.rc_split.specs.declared.part.Part.{Part as Given}
use Rattle.rc_split.specs.declared.part.Part.TheVariants.{Shares, Token, Credits}
use Rattle.rc_lang.specs.Program.{Items, besides}
use Rattle.rc_split.specs.Bags.{Part, ShareOf, TokenOf, Credit, shares_bag, token_bag, credits_bag, bag_of, bag_on, shares_alone, plus, minus, least, IsWithin}

-- a program as its holder names it: shares by the numbers of its buffers, marks at the places of its tokens that are
-- held, and the credits
pub record Holding : Type 0 where
  pub program : Program
  pub shares : List ℕ
  pub marks : List ℕ
  pub credits : ℕ

-- the holding of a program whose rows these are
abbrev pub holding_in : Program → Rows → Holding
holding_in program rows = record { program = program; shares = rows.shares; marks = rows.marks; credits = rows.credits }

-- whether there is a mark at a place: each of four words has each fourth place, from its lowest bit on
abbrev pub is_marked : List ℕ → ℕ → Bool
is_marked words place = nat_eq (bit_at (slice_index words (place % 4)) (place / 4)) 1

-- 1 at the place of a token that is held
abbrev pub token_at : List ℕ → Option ℕ → ℕ
token_at words None = 0
token_at words (Some place) = cond (is_marked words place) 1 0

-- how many of each part are held
abbrev pub bag : Holding → Part → ℕ
bag h (ShareOf b) = slice_index h.shares b
bag h (TokenOf u) = token_at h.marks (token_place h.program.tokens u)
bag h Credit = h.credits

-- Every count is below 2^20, and the program is a view.
pub record IsSound (h : Holding) : Type 0 where
  pub made : IsView h.program
  pub shares : (b : ℕ) → slice_index h.shares b < 2 ^ 20
  pub credits : h.credits < 2 ^ 20

-- The holding is of this program, and its bag is this one.
pub record Holds (h : Holding) (program : Program) (b : Part → ℕ) : Type 0 where
  pub of : h.program ≡ program
  pub each : (p : Part) → bag h p ≡ b p

-- All of what items say of a side of the flag is held.
abbrev pub Covers : Holding → Bool → Items → Type 0
Covers h z items = IsWithin (bag_on z items) (bag h)

-- ---- parts that are given and taken

-- This is taken from a holding, or given to it, or the least of both is left.
abbrev pub Loses : Holding → Holding → (Part → ℕ) → Type 0
Loses old new lost = Holds new old.program (minus (bag old) lost)

abbrev pub Gains : Holding → Holding → (Part → ℕ) → Type 0
Gains old new gained = Holds new old.program (plus (bag old) gained)

abbrev pub Meets : Holding → Holding → (Part → ℕ) → Type 0
Meets old new met = Holds new old.program (least (bag old) met)

-- With more no count comes to 2^20, and with more items no token is held twice.
abbrev pub StaysSmall : Holding → (Part → ℕ) → Type 0
StaysSmall h more = (p : Part) → plus (bag h) more p < 2 ^ 20

abbrev pub HasEachOnce : Holding → Items → Type 0
HasEachOnce h more = (u : ℕ) → plus (bag h) (bag_of more) (TokenOf u) ≤ 1

-- With these shares no count of a buffer that they name overflows.
abbrev pub CanCount : List ℕ → List Share → Type 0
CanCount counts shares = (b : ℕ) → (bag_of (shares_alone shares) (ShareOf b) ≡ 0) ⊎ (slice_index counts b + bag_of (shares_alone shares) (ShareOf b) < 2 ^ 32)

abbrev pub given_bag : Given → Part → ℕ
given_bag (Shares b k) p = shares_bag b k p
given_bag (Token u) p = token_bag u p
given_bag (Credits n) p = credits_bag n p

-- whether a bag covers the part
abbrev pub covers_part : (Part → ℕ) → Given → Bool
covers_part b (Shares c k) = nat_le k (b (ShareOf c))
covers_part b (Token u) = nat_le 1 (b (TokenOf u))
covers_part b (Credits n) = nat_le n (b Credit)

-- The part names only what the program declares.
abbrev pub IsDeclared : Program → Given → Type 0
IsDeclared program (Shares b k) = b < length program.buffers
IsDeclared program (Token u) = DeclaresToken program u
IsDeclared program (Credits n) = Unit {0}

-- Shares, and items, name only what the program declares.
abbrev pub NameBuffers : Program → List Share → Type 0
NameBuffers program shares = All (λ (s : Share). s.buffer < length program.buffers) shares

pub record AreDeclared (program : Program) (items : Items) : Type 0 where
  pub buffers : NameBuffers program items.shares
  pub tokens : All (DeclaresToken program) items.tokens

-- Both lists of a loop's items do, or the first alone where what is held besides isn't asked for.
abbrev pub AreDeclaredOn : Program → Bool → Items → Type 0
AreDeclaredOn program true items = AreDeclared program items
AreDeclaredOn program false items = AreDeclared program items × AreDeclared program (besides items)

-- A given token isn't held.
abbrev pub IsFresh : (Part → ℕ) → Given → Type 0
IsFresh b (Shares c k) = Unit {0}
IsFresh b (Token u) = b (TokenOf u) ≡ 0
IsFresh b (Credits n) = Unit {0}

-- The part is taken where it is held, and else nothing changes.
abbrev pub Takes : {X : Type 0} → Holding → Holding → Given → Option X → Type 0
Takes old new part (Some x) = (covers_part (bag old) part ≡ true) × Loses old new (given_bag part)
Takes old new part None = (covers_part (bag old) part ≡ false) × (new ≡ old)

-- The token has a place among those of the program.
abbrev pub IsPlaced : Program → ℕ → Type 0
IsPlaced program u = (place : ℕ) × (token_place program.tokens u ≡ Some place)

-- Whether the token is held is changed to this, and nothing else.
abbrev pub marked : Bool → ℕ → (Part → ℕ) → Part → ℕ
marked held u b (ShareOf c) = b (ShareOf c)
marked held u b (TokenOf v) = cond (nat_eq u v) (cond held 1 0) (b (TokenOf v))
marked held u b Credit = b Credit

abbrev pub Marks : Holding → Holding → ℕ → Bool → Type 0
Marks old new u held = Holds new old.program (marked held u (bag old))

-- All the items are taken, or one isn't held.
abbrev pub TakesAll : Holding → Holding → Items → Bool → Type 0
TakesAll old new items true = IsWithin (bag_of items) (bag old) × Loses old new (bag_of items)
TakesAll old new items false = IsWithin (bag_of items) (bag old) → ⊥
