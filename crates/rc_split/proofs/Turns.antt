-- Items that are taken one by one.
use Rattle.std.proofs.Common.{◌≡◌, ℕ, ◌+◌, ◌-◌, ◌<◌, ◌≤◌, Bool, true, false, cond, not, Option, Some, None, List, length, take, refl, sym, subst, ◌∙◌, get_or, arith, nat_eq}
use Rattle.std.proofs.lemmas.Bool.{eq-eqb, leb-true, leb-false}
use Rattle.std.proofs.lemmas.List.Sums.{sum_by_more_le}
use Rattle.rc_lang.specs.declared.program.Share.{Share}
use Rattle.rc_lang.specs.Program.{Items}
use Rattle.rc_split.specs.declared.part.Part.{Part as Given}
use Rattle.rc_split.specs.declared.part.Part.TheVariants.{Shares, Token, Credits}
use Rattle.rc_split.specs.Bags.{Part, ShareOf, TokenOf, Credit, shares_bag, token_bag, bag_of, parts, shares_alone, tokens_alone, minus, IsWithin}
use Rattle.rc_split.specs.Holdings.{Holding, bag, Takes, TakesAll, given_bag, covers_part}
use Rattle.std.specs.Option.{is_some}

pub itself : (b k : ℕ) → cond (nat_eq b b) k 0 ≡ k
itself b k = rw (eq-eqb b b refl) refl

pub not_within : (b : Part → ℕ) (part : Given) → covers_part b part ≡ false → IsWithin (given_bag part) b → ⊥
not_within b (Shares c k) e h = let x : b (ShareOf c) < k = leb-false _ _ e in let y : cond (nat_eq c c) k 0 ≤ b (ShareOf c) = h (ShareOf c) in omega (arith, itself c k)
not_within b (Token u) e h = let x : b (TokenOf u) < 1 = leb-false _ _ e in let y : cond (nat_eq u u) 1 0 ≤ b (TokenOf u) = h (TokenOf u) in omega (arith, itself u 1)
not_within b (Credits n) e h = let x : b Credit < n = leb-false _ _ e in let y : n ≤ b Credit = h Credit in omega arith

-- ---- one item more

pub shares_more_le : (xs : List Share) (i : ℕ) (d : Share) (p : Part) → i < length xs → bag_of (shares_alone (take i xs)) p + shares_bag (get_or xs i d).buffer (get_or xs i d).count p ≤ bag_of (shares_alone xs) p
shares_more_le xs i d (ShareOf b) lt = sum_by_more_le (λ (s : Share). cond (nat_eq s.buffer b) s.count 0) xs i d lt
shares_more_le xs i d (TokenOf u) lt = omega arith
shares_more_le xs i d Credit lt = omega arith

pub tokens_more_le : (xs : List ℕ) (i : ℕ) (p : Part) → i < length xs → bag_of (tokens_alone (take i xs)) p + token_bag (get_or xs i 0) p ≤ bag_of (tokens_alone xs) p
tokens_more_le xs i (ShareOf b) lt = omega arith
tokens_more_le xs i (TokenOf u) lt = sum_by_more_le (λ v. cond (nat_eq v u) 1 0) xs i 0 lt
tokens_more_le xs i Credit lt = omega arith

-- ---- all items

pub not_all : (part : Given) (held taken all whole : Part → ℕ) → ((p : Part) → held p + taken p ≡ all p) → covers_part held part ≡ false → ((p : Part) → taken p + given_bag part p ≤ whole p) → IsWithin whole all → ⊥
not_all part held taken all whole h e m w = not_within held part e (λ p. omega (arith, h p, m p, w p))

pub refused : (part : Given) (old new : Holding) (taken all whole : Part → ℕ) (r : Option (Unit {0})) {b : Bool} → ((p : Part) → bag old p + taken p ≡ all p) → Takes old new part r → is_some r ≡ not b → b ≡ true → ((p : Part) → taken p + given_bag part p ≤ whole p) → IsWithin whole all → ⊥
refused part old new taken all whole None h t e f m w = not_all part (bag old) taken all whole h t.0 m w
refused part old new taken all whole (Some x) h t e f m w = absurd (cc)

-- ---- shares, then tokens, then credits

credits_part : (ss : List Share) (ts : List ℕ) (b c d : Part → ℕ) → ((p : Part) → c p ≡ b p - bag_of (shares_alone ss) p) → ((p : Part) → d p ≡ c p - bag_of (tokens_alone ts) p) → d Credit ≡ b Credit
credits_part ss ts b c d e f = omega (arith, e Credit, f Credit)

all_parts : (ss : List Share) (ts : List ℕ) (n : ℕ) (b c d : Part → ℕ) → IsWithin (bag_of (shares_alone ss)) b → ((p : Part) → c p ≡ b p - bag_of (shares_alone ss) p) → IsWithin (bag_of (tokens_alone ts)) c → ((p : Part) → d p ≡ c p - bag_of (tokens_alone ts) p) → n ≤ d Credit → IsWithin (bag_of (parts ss ts n)) b
all_parts ss ts n b c d h e g f l (ShareOf x) = h (ShareOf x)
all_parts ss ts n b c d h e g f l (TokenOf u) = omega (arith, e (TokenOf u), g (TokenOf u))
all_parts ss ts n b c d h e g f l Credit = omega (arith, credits_part ss ts b c d e f, l)

left_parts : (ss : List Share) (ts : List ℕ) (n : ℕ) (b c d e : Part → ℕ) → ((p : Part) → c p ≡ b p - bag_of (shares_alone ss) p) → ((p : Part) → d p ≡ c p - bag_of (tokens_alone ts) p) → ((p : Part) → e p ≡ d p - given_bag (Credits n) p) → (p : Part) → e p ≡ minus b (bag_of (parts ss ts n)) p
left_parts ss ts n b c d e f g h (ShareOf x) = omega (arith, f (ShareOf x), g (ShareOf x), h (ShareOf x))
left_parts ss ts n b c d e f g h (TokenOf u) = omega (arith, f (TokenOf u), g (TokenOf u), h (TokenOf u))
left_parts ss ts n b c d e f g h Credit = omega (arith, f Credit, g Credit, h Credit)

pub all_taken : (ss : List Share) (ts : List ℕ) (n : ℕ) (h one two three : Holding) (r s x : Bool) (o : Option (Unit {0})) → TakesAll h one (shares_alone ss) r → r ≡ true → TakesAll one two (tokens_alone ts) s → s ≡ true → Takes two three (Credits n) o → x ≡ is_some o → TakesAll h three (parts ss ts n) x
all_taken ss ts n h one two three false s x o t q u v w e = absurd cc
all_taken ss ts n h one two three true false x o t q u v w e = absurd cc
all_taken ss ts n h one two three true true x (Some y) t q u v w e = subst (TakesAll h three (parts ss ts n)) (sym e) (
  all_parts ss ts n (bag h) (bag one) (bag two) t.0 t.1.each u.0 u.1.each (leb-true _ _ w.0),
  record { of = w.1.of ∙ u.1.of ∙ t.1.of; each = left_parts ss ts n (bag h) (bag one) (bag two) (bag three) t.1.each u.1.each w.1.each },
)
all_taken ss ts n h one two three true true x None t q u v w e = subst (TakesAll h three (parts ss ts n)) (sym e) (λ i. let l : bag two Credit < n = leb-false _ _ w.0 in let k : n ≤ bag h Credit = i Credit in omega (arith, credits_part ss ts (bag h) (bag one) (bag two) t.1.each u.1.each))

-- ---- both lists of a loop's items

pub same_parts : (items : Items) (p : Part) → bag_of (parts items.shares items.tokens items.credits) p ≡ bag_of items p
same_parts items (ShareOf b) = refl
same_parts items (TokenOf u) = refl
same_parts items Credit = refl
