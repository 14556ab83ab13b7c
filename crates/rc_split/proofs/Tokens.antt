-- Where tokens are among those of a program, and marks at their places.
use Rattle.std.proofs.Common.{◌≡◌, ℕ, ◌-◌, ◌<◌, ◌≤◌, Bool, true, false, cond, List, [], length, Option, Some, None, refl, sym, ap, ◌∙◌, subst, get_or, ltb, arith, nat_eq, nat_le}
use Rattle.std.proofs.lemmas.Bool.{eqb-true, eq-eqb, ltb-true, ltb-false}
use Rattle.std.proofs.lemmas.List.{get_or-map, length-map}
use Rattle.std.proofs.lemmas.List.Quantifiers.{position-Some}
use Rattle.std.proofs.lemmas.List.Sums.{fails_before_first}
use Rattle.std.specs.List.{position_or_len}
use Rattle.std.specs.Prelude.{map}
use Rattle.rc_lang.specs.declared.program.Token.{Token}
use Rattle.rc_lang.specs.declared.program.TokenKind.TheVariants.{Nop}
use Rattle.rc_lang.specs.Program.{Program, token_place}
use Rattle.rc_split.specs.Bags.{Part, ShareOf, TokenOf, Credit, minus, token_bag}
use Rattle.rc_split.specs.Holdings.{is_marked, token_at, bag, marked, Holds}

no_token : Token
no_token = record { user_data = 0; kind = Nop; others = [] }

before_end : {X : Type 0} (p : X → Bool) (xs : List X) (k : ℕ) (d : X) → k < length xs → p (get_or xs k d) ≡ true → position_or_len p xs < length xs
before_end p xs k d lt h = go (ltb k (position_or_len p xs)) refl
  where
    go : (b : Bool) → ltb k (position_or_len p xs) ≡ b → position_or_len p xs < length xs
    go true e = let f : p (get_or xs k d) ≡ false = fails_before_first p xs k d (ltb-true k (position_or_len p xs) e) in absurd cc
    go false e = let f : position_or_len p xs ≤ k = ltb-false k (position_or_len p xs) e in omega arith

-- a declared token has a place
pub placed : (tokens : List Token) (u k : ℕ) → k < length (map (λ (t : Token). t.user_data) tokens) → get_or (map (λ (t : Token). t.user_data) tokens) k u ≡ u → (i : ℕ) × (token_place tokens u ≡ Some i)
placed tokens u k lt e =
    let l : k < length tokens = subst (λ n. k < n) (length-map tokens (λ (t : Token). t.user_data)) lt in
    let m : get_or (map (λ (t : Token). t.user_data) tokens) k u ≡ (get_or tokens k no_token).user_data = get_or-map (λ (t : Token). t.user_data) tokens k no_token u l in
    let b = before_end (λ (t : Token). nat_eq t.user_data u) tokens k no_token l (eq-eqb _ _ (sym m ∙ e)) in
    (position_or_len (λ (t : Token). nat_eq t.user_data u) tokens, found (ltb (position_or_len (λ (t : Token). nat_eq t.user_data u) tokens) (length tokens)) refl b)
  where
    found : (x : Bool) → ltb (position_or_len (λ (t : Token). nat_eq t.user_data u) tokens) (length tokens) ≡ x → position_or_len (λ (t : Token). nat_eq t.user_data u) tokens < length tokens → cond x (Some (position_or_len (λ (t : Token). nat_eq t.user_data u) tokens)) None ≡ Some (position_or_len (λ (t : Token). nat_eq t.user_data u) tokens)
    found true f b = refl
    found false f b = let g : length tokens ≤ position_or_len (λ (t : Token). nat_eq t.user_data u) tokens = ltb-false _ _ f in absurd (omega arith)

-- one place has one user data
pub one_place : (tokens : List Token) (u v i : ℕ) → token_place tokens u ≡ Some i → token_place tokens v ≡ Some i → u ≡ v
one_place tokens u v i e f =
    let a = position-Some (λ (t : Token). nat_eq t.user_data u) tokens i no_token e in
    let b = position-Some (λ (t : Token). nat_eq t.user_data v) tokens i no_token f in
    sym (eqb-true _ _ a.1) ∙ eqb-true _ _ b.1

-- a mark that is written at the place of a token
abbrev pub IsWritten : List ℕ → List ℕ → ℕ → Bool → Type 0
IsWritten new old i x = (k : ℕ) → is_marked new k ≡ cond (nat_eq i k) x (is_marked old k)

mark_set : (tokens : List Token) (marks new : List ℕ) (u v i : ℕ) (x : Bool) → token_place tokens u ≡ Some i → IsWritten new marks i x → token_at new (token_place tokens v) ≡ cond (nat_eq u v) (cond x 1 0) (token_at marks (token_place tokens v))
mark_set tokens marks new u v i x e w = go (nat_eq u v) refl
  where
    other : (o : Option ℕ) → token_place tokens v ≡ o → nat_eq u v ≡ false → token_at new o ≡ token_at marks o
    other None f d = refl
    other (Some j) f d = apart (nat_eq i j) refl
      where
        apart : (b : Bool) → nat_eq i j ≡ b → token_at new (Some j) ≡ token_at marks (Some j)
        apart true q = absurd (let g : nat_eq u v ≡ true = eq-eqb u v (one_place tokens u v i e (f ∙ ap Some (sym (eqb-true i j q)))) in cc (g, d))
        apart false q = ap (λ y. cond y 1 0) (w j ∙ ap (λ b. cond b x (is_marked marks j)) q)

    go : (b : Bool) → nat_eq u v ≡ b → token_at new (token_place tokens v) ≡ cond b (cond x 1 0) (token_at marks (token_place tokens v))
    go true d =
        let f : token_place tokens v ≡ Some i = subst (λ w. token_place tokens w ≡ Some i) (eqb-true u v d) e in
        rw f (ap (λ y. cond y 1 0) (w i ∙ ap (λ b. cond b x (is_marked marks i)) (eq-eqb i i refl)))
    go false d = other (token_place tokens v) refl d

pub mark_held : (P : Program) (shares : List ℕ) (marks new : List ℕ) (credits u i : ℕ) (x : Bool) → token_place P.tokens u ≡ Some i → IsWritten new marks i x → Holds (record { program = P; shares = shares; marks = new; credits = credits }) P (marked x u (bag (record { program = P; shares = shares; marks = marks; credits = credits })))
mark_held P shares marks new credits u i x e w = record { of = refl; each = each }
  where
    each : (p : Part) → bag (record { program = P; shares = shares; marks = new; credits = credits }) p ≡ marked x u (bag (record { program = P; shares = shares; marks = marks; credits = credits })) p
    each (ShareOf b) = refl
    each (TokenOf v) = mark_set P.tokens marks new u v i x e w
    each Credit = refl

-- a token that is held is there no more
pub token_most : (marks : List ℕ) (o : Option ℕ) → token_at marks o ≤ 1
token_most marks None = omega arith
token_most marks (Some i) = go (is_marked marks i)
  where
    go : (b : Bool) → cond b 1 0 ≤ 1
    go true = omega arith
    go false = omega arith

less : (b : Bool) (m : ℕ) → m ≤ 1 → cond b 0 m ≡ m - cond b 1 0
less true m le = omega (arith, le)
less false m le = omega arith

pub token_taken : (P : Program) (shares : List ℕ) (marks new : List ℕ) (credits u i : ℕ) → token_place P.tokens u ≡ Some i → IsWritten new marks i false → is_marked marks i ≡ true → (nat_le 1 (token_at marks (token_place P.tokens u)) ≡ true) × Holds (record { program = P; shares = shares; marks = new; credits = credits }) P (minus (bag (record { program = P; shares = shares; marks = marks; credits = credits })) (token_bag u))
token_taken P shares marks new credits u i e w h = (rw e (rw h refl), record { of = refl; each = each })
  where
    each : (p : Part) → bag (record { program = P; shares = shares; marks = new; credits = credits }) p ≡ minus (bag (record { program = P; shares = shares; marks = marks; credits = credits })) (token_bag u) p
    each (ShareOf b) = omega arith
    each (TokenOf v) = mark_set P.tokens marks new u v i false e w ∙ less (nat_eq u v) _ (token_most marks (token_place P.tokens v))
    each Credit = omega arith

pub place_within : (tokens : List Token) (u i : ℕ) → token_place tokens u ≡ Some i → i < length tokens
place_within tokens u i e = (position-Some (λ (t : Token). nat_eq t.user_data u) tokens i no_token e).0
