-- The sizes of rings, and buffers that aren't declared.
use Rattle.std.proofs.Common.{◌≡◌, ℕ, ◌≤◌, List, [], ◌∷◌, Bool, true, false, cond, not, ◌||◌, leb, Option, Some, refl, sym, ap, ◌∙◌, arith}
use Rattle.std.proofs.lemmas.Bool.{leb-true, and_parts}
use Rattle.std.specs.List.{list_all}
use Rattle.std.specs.Prelude.{is_some}
use Rattle.std.specs.Str.{bytes_eq}
use Rattle.rc_lang.specs.Program.{Buffer}
use Rattle.rc_read.specs.Sheets.{is_among, buffer_names, shares_in}
use Rattle.rc_read.specs.Values.{first_from, rounded_up}

-- ---- a ring has at most 2,048 entries

first_by : (b : Bool) (p n m : ℕ) → p ≤ m → n ≤ m → cond b p n ≤ m
first_by true p n m h k = h
first_by false p n m h k = k

first_within : (n : ℕ) (powers : List ℕ) → list_all (λ p. leb p 2048) powers ≡ true → first_from n powers ≤ 2048
first_within n [] h = omega arith
first_within n (p ∷ ps) h =
    let q = and_parts (leb p 2048) (list_all (λ p. leb p 2048) ps) h in
    first_by (leb n p) p (first_from n ps) 2048 (leb-true p 2048 q.0) (first_within n ps q.1)

pub rounded_within : (n : ℕ) → rounded_up n ≤ 2048
rounded_within n = first_within n (1 ∷ 2 ∷ 4 ∷ 8 ∷ 16 ∷ 32 ∷ 64 ∷ 128 ∷ 256 ∷ 512 ∷ 1024 ∷ []) refl

-- ---- a buffer that isn't declared has no shares

some_by : (b : Bool) (n : ℕ) (o : Option ℕ) (c : Bool) → is_some o ≡ c → is_some (cond b (Some n) o) ≡ (b || c)
some_by true n o c e = refl
some_by false n o c e = e

pub some_shares : (bs : List Buffer) (w : List ℕ) → is_some (shares_in bs w) ≡ is_among (buffer_names bs) w
some_shares [] w = refl
some_shares (b ∷ bs) w = some_by (bytes_eq b.name w) b.shares (shares_in bs w) (is_among (buffer_names bs) w) (some_shares bs w)

not_not : (r s : Bool) → s ≡ not r → r ≡ not s
not_not true s e = ap not (sym e)
not_not false s e = ap not (sym e)

pub undeclared : (r : Bool) (o : Option ℕ) (bs cs : List Buffer) (w : List ℕ) → is_some o ≡ not r → o ≡ shares_in bs w → bs ≡ cs → r ≡ not (is_among (buffer_names cs) w)
undeclared r o bs cs w n e f =
    not_not r (is_some o) n ∙ ap (λ (x : Option ℕ). not (is_some x)) e ∙ ap not (some_shares bs w) ∙ ap (λ (x : List Buffer). not (is_among (buffer_names x) w)) f
