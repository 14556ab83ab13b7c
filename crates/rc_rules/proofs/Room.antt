-- Where the pool may have items, and what is held with them.
use Rattle.std.proofs.Common.{◌≡◌, ℕ, zero, suc, ◌+◌, ◌<◌, ◌≤◌, ◌⊎◌, inl, inr, Bool, true, false, not, ◌&&◌, List, [], ◌∷◌, length, get_or, nat_eq, nat_le, refl, ap, sym, subst, ◌∙◌, arith}
use Rattle.std.specs.List.{list_all, list_any}
use Rattle.std.proofs.lemmas.Bool.{and_from, and_parts, or_parts, eqb-false, leb-true, le-leb}
use Rattle.rc_lang.specs.declared.program.Share.{Share}
use Rattle.rc_lang.specs.Program.{Program, Items, shares_at}
use Rattle.rc_lang.specs.Kept.{IsItems}
use Rattle.rc_lang.specs.Views.{IsView}
use Rattle.rc_split.specs.Bags.{Part, ShareOf, TokenOf, Credit, bag_of, plus, IsWithin}
use Rattle.rc_split.specs.Holdings.{Holding, bag, AreDeclared}
use Rattle.rc_split.proofs.Named.{all_at, few_shares, no_share, share_at, share_named, token_named}
use Rattle.rc_split.proofs.PoolBags.{one_token, tokens_in}
use Rattle.rc_split.proofs.Tokens.{token_most}
use Rattle.rc_rules.specs.declared.mode.Mode.{Mode}
use Rattle.rc_rules.specs.declared.mode.Peeked.{Peeked}
use Rattle.rc_rules.specs.declared.mode.Peeked.TheVariants.{Unseen, Sees, SeesOther, Got}
use Rattle.rc_rules.specs.Labels.{WeakerMode, WeakerPeeked}
use Rattle.rc_rules.specs.Rules.{limit, is_within_limit, has_room, names_peeked, peeked_of, can_take}
use Rattle.rc_rules.specs.States.{IsFreeIn, IsFreeFor}
use Rattle.rc_rules.proofs.Weaker.{peeked_less, peeked_weaker}

-- ---- tests of all of a list

-- Two tests that say the same of each of a list say the same of all.
all_same : {A : Type 0} (p q : A → Bool) (xs : List A) (d : A) → ((i : ℕ) → i < length xs → p (get_or xs i d) ≡ q (get_or xs i d)) → list_all p xs ≡ list_all q xs
all_same p q [] d h = refl
all_same p q (x ∷ xs) d h = ap (λ b. b && list_all p xs) (h 0 (omega arith)) ∙ ap (λ b. q x && b) (all_same p q xs d (λ i lt. h (suc i) (omega (arith, lt))))

-- What passes the first of two tests passes the second, and so do all of a list.
all_pass : {A : Type 0} (p q : A → Bool) (xs : List A) → ((x : A) → p x ≡ true → q x ≡ true) → list_all p xs ≡ true → list_all q xs ≡ true
all_pass p q [] h e = refl
all_pass p q (x ∷ xs) h e = let f = and_parts (p x) (list_all p xs) e in and_from (q x) (list_all q xs) (h x f.0) (all_pass p q xs h f.1)

-- a token that is at a place is there
token_there : (xs : List ℕ) (i : ℕ) → i < length xs → 1 ≤ tokens_in xs (get_or xs i 0)
token_there [] i lt = absurd (omega arith)
token_there (x ∷ xs) zero lt = elim (one_token x xs x) [
  | inl o ↦ omega (arith, o.1)
  | inr o ↦ absurd (o.0 refl)
]
token_there (x ∷ xs) (suc i) lt =
    let h : 1 ≤ tokens_in xs (get_or xs i 0) = token_there xs i (omega arith) in
    elim (one_token x xs (get_or xs i 0)) [
      | inl o ↦ omega (arith, o.1)
      | inr o ↦ omega (arith, o.1, h)
    ]

-- ---- room

pub limit_few : (P : Program) (p : Part) → IsView P → limit P p ≤ 2048
limit_few P (ShareOf b) h = omega (arith, few_shares P b h)
limit_few P (TokenOf u) h = omega arith
limit_few P Credit h = h.completion_entries.within

module _ (P : Program) (held : Part → ℕ) (items : Items) (of : IsItems P items) where
  token_once : (i : ℕ) → i < length items.tokens → tokens_in items.tokens (get_or items.tokens i 0) ≡ 1
  token_once i lt = elim (token_named items.tokens (get_or items.tokens i 0) of.distinct_tokens) [
    | inl n ↦ absurd (omega (arith, n, token_there items.tokens i lt))
    | inr s ↦ s.once
  ]

  shares_same : list_all (λ (s : Share). nat_le (held (ShareOf s.buffer) + s.count) (shares_at P.buffers s.buffer)) items.shares ≡ list_all (λ (s : Share). is_within_limit P held items (ShareOf s.buffer)) items.shares
  shares_same = all_same _ _ items.shares no_share (λ i lt. ap (λ n. nat_le (held (ShareOf (get_or items.shares i no_share).buffer) + n) (shares_at P.buffers (get_or items.shares i no_share).buffer)) (sym (share_at items.shares i no_share of.distinct_buffers lt)))

  tokens_same : list_all (λ u. nat_le (held (TokenOf u) + 1) 1) items.tokens ≡ list_all (λ u. is_within_limit P held items (TokenOf u)) items.tokens
  tokens_same = all_same _ _ items.tokens 0 (λ i lt. ap (λ n. nat_le (held (TokenOf (get_or items.tokens i 0)) + n) 1) (sym (token_once i lt)))

  -- There is room where each share, each token and the credits fit.
  pub room_is : (ss : List Share) (ts : List ℕ) (x y z : Bool) → ss ≡ items.shares → ts ≡ items.tokens → x ≡ list_all (λ (s : Share). nat_le (held (ShareOf s.buffer) + s.count) (shares_at P.buffers s.buffer)) ss → y ≡ list_all (λ u. nat_le (held (TokenOf u) + 1) 1) ts → z ≡ nat_le (held Credit + items.credits) P.completion_entries → (x && y && z) ≡ has_room P held items
  room_is ss ts x y z e f g h k = rw (g, h, k, e, f, shares_same, tokens_same) refl

  -- A part that they don't name stays as it is, and of one that they name no more is held with them than there is.
  pub room : has_room P held items ≡ true → (p : Part) → (bag_of items p ≡ 0) ⊎ (held p + bag_of items p ≤ limit P p)
  room e p = let h = and_parts (shares && tokens) (is_within_limit P held items Credit) e in let f = and_parts shares tokens h.0 in go p f.0 f.1 h.1
    where
      shares : Bool
      shares = list_all (λ (s : Share). is_within_limit P held items (ShareOf s.buffer)) items.shares

      tokens : Bool
      tokens = list_all (λ u. is_within_limit P held items (TokenOf u)) items.tokens

      go : (p : Part) → shares ≡ true → tokens ≡ true → is_within_limit P held items Credit ≡ true → (bag_of items p ≡ 0) ⊎ (held p + bag_of items p ≤ limit P p)
      go (ShareOf b) h g f = elim (share_named items.shares b of.distinct_buffers) [
        | inl n ↦ inl n
        | inr s ↦ inr (subst (λ c. held (ShareOf c) + bag_of items (ShareOf c) ≤ limit P (ShareOf c)) s.buffer (leb-true _ _ (all_at (λ (s : Share). is_within_limit P held items (ShareOf s.buffer)) items.shares s.place no_share h s.within)))
      ]
      go (TokenOf u) h g f = elim (token_named items.tokens u of.distinct_tokens) [
        | inl n ↦ inl n
        | inr s ↦ inr (subst (λ v. held (TokenOf v) + bag_of items (TokenOf v) ≤ limit P (TokenOf v)) s.token (leb-true _ _ (all_at (λ u. is_within_limit P held items (TokenOf u)) items.tokens s.place 0 g s.within)))
      ]
      go Credit h g f = inr (leb-true _ _ f)

  pub names : AreDeclared P items
  names = record { buffers = of.buffers; tokens = of.tokens }

  -- So counts are as small with them as without, or as there are.
  pub with_few : IsView P → (m : Mode) → can_take P held m items ≡ true → (n : ℕ) → 2048 ≤ n → (p : Part) → held p ≤ n → held p + bag_of items p ≤ n
  with_few made m e n l p s = elim (room (and_parts (has_room P held items) (not (names_peeked items.tokens (peeked_of m))) e).0 p) [
    | inl x ↦ omega (arith, x, s)
    | inr x ↦ omega (arith, x, l, limit_few P p made)
  ]

-- No token is held twice.
pub with_once : (h : Holding) (items : Items) (m : Mode) → IsItems h.program items → can_take h.program (bag h) m items ≡ true → (u : ℕ) → bag h (TokenOf u) + bag_of items (TokenOf u) ≤ 1
with_once h items m of e u = elim (room h.program (bag h) items of (and_parts (has_room h.program (bag h) items) (not (names_peeked items.tokens (peeked_of m))) e).0 (TokenOf u)) [
  | inl x ↦ let o : bag h (TokenOf u) ≤ 1 = token_most h.marks _ in omega (arith, x, o)
  | inr x ↦ x
]

-- ---- what is peeked

not_true : (b : Bool) → not b ≡ true → b ≡ false
not_true true e = absurd (cc)
not_true false e = refl

not_false : (b : Bool) → b ≡ false → not b ≡ true
not_false true e = absurd (cc)
not_false false e = refl

unnamed : (xs : List ℕ) (u : ℕ) → list_any (λ v. nat_eq v u) xs ≡ false → tokens_in xs u ≡ 0
unnamed [] u e = refl
unnamed (x ∷ xs) u e =
    let h = or_parts (nat_eq x u) (list_any (λ v. nat_eq v u) xs) e in
    elim (one_token x xs u) [
      | inl o ↦ absurd (eqb-false x u h.0 o.0)
      | inr o ↦ o.1 ∙ unnamed xs u h.1
    ]

free_with : (P : Program) (a : Part → ℕ) (pk : Peeked) (items : Items) → names_peeked items.tokens pk ≡ false → IsFreeFor P a pk → IsFreeFor P (plus a (bag_of items)) pk
free_with P a Unseen items e f = tt
free_with P a (Sees u) items e f = (f.0, omega (arith, f.1, unnamed items.tokens u e))
free_with P a SeesOther items e f = tt
free_with P a Got items e f = tt

-- What is peeked isn't held after a take either.
pub taken_free : (P : Program) (a : Part → ℕ) (m : Mode) (items : Items) → can_take P a m items ≡ true → IsFreeIn P a m → IsFreeIn P (plus a (bag_of items)) m
taken_free P a m items e f = free_with P a (peeked_of m) items (not_true _ (and_parts (has_room P a items) (not (names_peeked items.tokens (peeked_of m))) e).1) f

-- ---- who holds less

fewer_named : (tokens : List ℕ) (p q : Peeked) → WeakerPeeked p q → names_peeked tokens q ≡ false → names_peeked tokens p ≡ false
fewer_named tokens p q w f = peeked_less (λ x. names_peeked tokens x ≡ false) refl p q w f

still_fits : (P : Program) (items : Items) (b c : Part → ℕ) → IsWithin b c → (p : Part) → is_within_limit P c items p ≡ true → is_within_limit P b items p ≡ true
still_fits P items b c w p e = let l : c p + bag_of items p ≤ limit P p = leb-true _ _ e in le-leb _ _ (omega (arith, l, w p))

still_room : (P : Program) (items : Items) (b c : Part → ℕ) → IsWithin b c → has_room P c items ≡ true → has_room P b items ≡ true
still_room P items b c w e =
    let h = and_parts (shares c && tokens c) (is_within_limit P c items Credit) e in
    let f = and_parts (shares c) (tokens c) h.0 in
    and_from (shares b && tokens b) (is_within_limit P b items Credit) (and_from (shares b) (tokens b) (all_pass _ _ items.shares (λ s. still_fits P items b c w (ShareOf s.buffer)) f.0) (all_pass _ _ items.tokens (λ u. still_fits P items b c w (TokenOf u)) f.1)) (still_fits P items b c w Credit h.1)
  where
    shares : (Part → ℕ) → Bool
    shares a = list_all (λ (s : Share). is_within_limit P a items (ShareOf s.buffer)) items.shares

    tokens : (Part → ℕ) → Bool
    tokens a = list_all (λ u. is_within_limit P a items (TokenOf u)) items.tokens

-- Who holds and sees less can take what one who holds more can.
pub still_can : (P : Program) (items : Items) (b c : Part → ℕ) (m n : Mode) → IsWithin b c → WeakerMode m n → can_take P c n items ≡ true → can_take P b m items ≡ true
still_can P items b c m n w v e =
    let h = and_parts (has_room P c items) (not (names_peeked items.tokens (peeked_of n))) e in
    and_from _ _ (still_room P items b c w h.0) (not_false _ (fewer_named items.tokens (peeked_of m) (peeked_of n) (peeked_weaker m n v) (not_true _ h.1)))
