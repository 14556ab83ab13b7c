-- Lists of requests: how many have some user data, and the list without the first.
use Rattle.std.proofs.Common.{ℕ, suc, ◌≡◌, ◌+◌, Bool, true, false, cond, not, nat_eq, List, [], ◌∷◌, ◌++◌, take, drop, length, append-nil, ◌≤◌, Some, None, nat_lt, refl, sym, ap, subst, ◌∙◌, arith}
use Rattle.std.specs.List.{count_by, position, position_or_len}
use Rattle.std.proofs.lemmas.Bool.Decides.{nat_tests}
use Rattle.std.proofs.lemmas.List.{take_all, drop_all}
use Rattle.std.proofs.lemmas.List.Recursion.{is_sum_by}
use Rattle.std.proofs.lemmas.Option.{cond_some}
use Rattle.rc_lang.specs.declared.request.Request.{Request}
use Rattle.rc_world.specs.Machine.{without_data}
use Rattle.rc_world.specs.Faults.{count_of}

pub count_of-count_by : (u : ℕ) (rs : List Request) → count_of u rs ≡ count_by (λ (r : Request). nat_eq r.user_data u) rs
count_of-count_by u rs = is_sum_by (count_of u) (λ (r : Request). cond (nat_eq r.user_data u) 1 0) refl (λ r rs. refl) rs

without-cons : (b : Bool) (r : Request) (rs rest : List Request) (n : ℕ) → rest ≡ take n rs ++ drop (n + 1) rs
    → cond b rs (r ∷ rest) ≡ take (cond (not b) (1 + n) 0) (r ∷ rs) ++ drop (cond (not b) (1 + n) 0 + 1) (r ∷ rs)
without-cons true r rs rest n h = refl
without-cons false r rs rest n h =
    let e : 1 + n ≡ suc n = omega arith in
    let m : suc n + 1 ≡ suc (n + 1) = omega arith in
    ap (λ x. r ∷ x) h
    ∙ (let P : ℕ → Type 0 = λ k. r ∷ take n rs ++ drop (n + 1) rs ≡ take (suc n) (r ∷ rs) ++ drop k (r ∷ rs) in subst P (sym m) refl)
    ∙ ap (λ k. take k (r ∷ rs) ++ drop (k + 1) (r ∷ rs)) (sym e)

without_data-place : (u : ℕ) (rs : List Request) → without_data u rs ≡ take (position_or_len (λ (r : Request). nat_eq r.user_data u) rs) rs ++ drop (position_or_len (λ (r : Request). nat_eq r.user_data u) rs + 1) rs
without_data-place u [] = refl
without_data-place u (r ∷ rs) = without-cons (nat_eq r.user_data u) r rs _ _ (without_data-place u rs)

-- without the request at the first place of this user data
pub without_data-some : (u : ℕ) (rs : List Request) (k : ℕ) → position (λ (r : Request). nat_eq r.user_data u) rs ≡ Some k → without_data u rs ≡ take k rs ++ drop (k + 1) rs
without_data-some u rs k e =
    let n = position_or_len (λ (r : Request). nat_eq r.user_data u) rs in
    let same : n ≡ k = (cond_some (nat_lt n (length rs)) n k e).1 in
    without_data-place u rs ∙ ap (λ m. take m rs ++ drop (m + 1) rs) same

past : (rs rest : List Request) (n : ℕ) (b : Bool) → nat_lt n (length rs) ≡ b → cond b (Some n) None ≡ None → rest ≡ take n rs ++ drop (n + 1) rs → rest ≡ rs
past rs rest n true b e h = absurd (cc)
past rs rest n false b e h =
    let le : length rs ≤ n = grind (arith, nat_tests) in
    let more : length rs ≤ n + 1 = omega arith in
    h ∙ ap (λ xs. xs ++ drop (n + 1) rs) (take_all n rs le) ∙ ap (λ xs. rs ++ xs) (drop_all (n + 1) rs more) ∙ append-nil rs

pub without_data-none : (u : ℕ) (rs : List Request) → position (λ (r : Request). nat_eq r.user_data u) rs ≡ None → without_data u rs ≡ rs
without_data-none u rs e = past rs _ (position_or_len (λ (r : Request). nat_eq r.user_data u) rs) _ refl e (without_data-place u rs)
