-- Who holds more has room in the submission ring where one who holds less has it.
use Rattle.std.proofs.Common.{◌≡◌, ℕ, suc, ◌-◌, ◌<◌, ◌≤◌, inl, inr, Bool, true, nat_lt, nat_le, ◌||◌, arith}
use Rattle.std.proofs.lemmas.Bool.{and_from, and_parts, leb-true, le-leb, ltb-true, or_cases, or_left, or_right}
use Rattle.rc_lang.specs.Program.{Program}
use Rattle.rc_split.specs.Bags.{Part, Credit, begun, credits_given, lacking, IsWithin}
use Rattle.rc_split.proofs.Lacking.{lacking_less}
use Rattle.rc_rules.specs.declared.mode.Submitting.{Submitting}
use Rattle.rc_rules.specs.Labels.{WeakerSubmitting}
use Rattle.rc_rules.specs.Room.{can_queue, few_credits, few_tokens}

pub more : (k a b : ℕ) → a ≤ b → nat_le k a ≡ true → nat_le k b ≡ true
more k a b h e = let x : k ≤ a = leb-true k a e in le-leb k b (omega arith)

pub fewer : (a b k : ℕ) → a ≤ b → nat_lt b k ≡ true → nat_lt a k ≡ true
fewer a b k h e = let x : b < k = ltb-true b k e in le-leb (suc a) k (omega arith)

pub below : (a b k : ℕ) → a ≤ b → nat_le b k ≡ true → nat_le a k ≡ true
below a b k h e = let x : b ≤ k = leb-true b k e in le-leb a k (omega arith)

or_grows : (x y u v : Bool) → (x ≡ true → u ≡ true) → (y ≡ true → v ≡ true) → (x || y) ≡ true → (u || v) ≡ true
or_grows x y u v f g e = elim (or_cases x y e) [ inl h ↦ or_left u v (f h) | inr h ↦ or_right u v (g h) ]

tokens_grow : (P : Program) (b c : Part → ℕ) → IsWithin b c → few_tokens P b ≡ true → few_tokens P c ≡ true
tokens_grow P b c w e =
    let h = and_parts (nat_le 4 P.version) (nat_lt (lacking P.tokens b) P.entries) e in
    and_from _ _ h.0 (fewer (lacking P.tokens c) (lacking P.tokens b) P.entries (lacking_less P.tokens b c w) h.1)

credits_grow : (P : Program) (b c : Part → ℕ) → IsWithin b c → few_credits P b ≡ true → few_credits P c ≡ true
credits_grow P b c w e =
    let given = credits_given (begun P.stock P.threads) in
    let h = and_parts (nat_le 5 P.version) (nat_lt (given - b Credit) P.entries) e in
    and_from _ _ h.0 (fewer (given - c Credit) (given - b Credit) P.entries (omega (arith, w Credit)) h.1)

-- who holds more, and knows of fewer queued, has room where one who holds less has it
pub room_grows : (P : Program) (b c : Part → ℕ) (s t : Submitting) → IsWithin b c → WeakerSubmitting s t → can_queue P b s.queued ≡ true → can_queue P c t.queued ≡ true
room_grows P b c s t w v = or_grows (nat_lt s.queued P.entries) (few_tokens P b || few_credits P b) (nat_lt t.queued P.entries) (few_tokens P c || few_credits P c) (fewer t.queued s.queued P.entries v.queued)
    (or_grows (few_tokens P b) (few_credits P b) (few_tokens P c) (few_credits P c) (tokens_grow P b c w) (credits_grow P b c w))
