-- How many credits pools and threads begin with: those of a view at most 34,816 and 131,072.
use Rattle.std.proofs.Common.{All, ◌≡◌, ℕ, suc, ◌+◌, ◌*◌, ◌<◌, ◌≤◌, List, [], ◌∷◌, length, map, take, get_or, refl, sym, ap, ◌∙◌, arith}
use Rattle.std.proofs.lemmas.List.Sums.{sum_by-cons, sum_by-take-le, sum_by_more_le}
use Rattle.std.specs.List.{sum_by}
use Rattle.rc_lang.specs.Parts.{view_items, view_stock, view_thread}
use Rattle.rc_lang.specs.declared.program.Stock.{Stock as StockPart}
use Rattle.rc_lang.specs.declared.program.Thread.{Thread as ThreadPart}
use Rattle.rc_lang.specs.Program.{Items, Program, Stock, Thread}
use Rattle.rc_lang.specs.Views.{IsView}
use Rattle.rc_split.specs.Bags.{begun, credits_given}

abbrev credits_in : Items → ℕ
credits_in i = i.credits

-- the same of the lines of pools and of threads as they are kept
abbrev pub stock_with : StockPart → ℕ
stock_with s = s.items.credits

abbrev pub kept_with : ThreadPart → ℕ
kept_with t = t.items.credits

pub stock_of_kept : (ss : List StockPart) → sum_by stock_with ss ≡ credits_given (begun (map view_stock ss) [])
stock_of_kept [] = refl
stock_of_kept (s ∷ ss) =
    let here : sum_by stock_with (s ∷ ss) ≡ stock_with s + sum_by stock_with ss = sum_by-cons stock_with s ss in
    let there : credits_given (begun (map view_stock (s ∷ ss)) []) ≡ stock_with s + credits_given (begun (map view_stock ss) []) = sum_by-cons credits_in (view_items s.items) (begun (map view_stock ss) []) in
    here ∙ ap (λ n. stock_with s + n) (stock_of_kept ss) ∙ sym there

pub given_of_kept : (ts : List ThreadPart) → sum_by kept_with ts ≡ credits_given (begun [] (map view_thread ts))
given_of_kept [] = refl
given_of_kept (t ∷ ts) =
    let here : sum_by kept_with (t ∷ ts) ≡ kept_with t + sum_by kept_with ts = sum_by-cons kept_with t ts in
    let there : credits_given (begun [] (map view_thread (t ∷ ts))) ≡ kept_with t + credits_given (begun [] (map view_thread ts)) = sum_by-cons credits_in (view_items t.items) (begun [] (map view_thread ts)) in
    here ∙ ap (λ n. kept_with t + n) (given_of_kept ts) ∙ sym there

-- Both together.
pub both_given : (ss : List Stock) (ts : List Thread) → credits_given (begun ss []) + credits_given (begun [] ts) ≡ credits_given (begun ss ts)
both_given [] ts = omega arith
both_given (s ∷ ss) ts =
    let alone : credits_given (begun (s ∷ ss) []) ≡ s.items.credits + credits_given (begun ss []) = sum_by-cons credits_in s.items (begun ss []) in
    let all : credits_given (begun (s ∷ ss) ts) ≡ s.items.credits + credits_given (begun ss ts) = sum_by-cons credits_in s.items (begun ss ts) in
    omega (arith, alone, all, both_given ss ts)

few_stock : (ss : List Stock) → All (λ (s : Stock). s.items.credits ≤ 2048) ss → credits_given (begun ss []) ≤ length ss * 2048
few_stock [] h = omega arith
few_stock (s ∷ ss) h =
    let here : s.items.credits ≤ 2048 = h 0 s (omega arith) in
    let rest : credits_given (begun ss []) ≤ length ss * 2048 = few_stock ss (λ i d lt. h (suc i) d (omega (arith, lt))) in
    let all : credits_given (begun (s ∷ ss) []) ≡ s.items.credits + credits_given (begun ss []) = sum_by-cons credits_in s.items (begun ss []) in
    omega (arith, here, rest, all)

few_each : (ts : List Thread) → All (λ (t : Thread). t.items.credits ≤ 2048) ts → credits_given (begun [] ts) ≤ length ts * 2048
few_each [] h = omega arith
few_each (t ∷ ts) h =
    let here : t.items.credits ≤ 2048 = h 0 t (omega arith) in
    let rest : credits_given (begun [] ts) ≤ length ts * 2048 = few_each ts (λ i d lt. h (suc i) d (omega (arith, lt))) in
    let all : credits_given (begun [] (t ∷ ts)) ≡ t.items.credits + credits_given (begun [] ts) = sum_by-cons credits_in t.items (begun [] ts) in
    omega (arith, here, rest, all)

-- those of the first of them, and of the next one too
module _ (P : Program) (made : IsView P) where
  module _ (ss : List StockPart) (same : map view_stock ss ≡ P.stock) where
    all_stock : sum_by stock_with ss ≤ 34816
    all_stock =
        let all : sum_by stock_with ss ≡ credits_given (begun P.stock []) = stock_of_kept ss ∙ ap (λ xs. credits_given (begun xs [])) same in
        let each : credits_given (begun P.stock []) ≤ length P.stock * 2048 = few_stock P.stock made.few_stocked in
        omega (arith, all, each, made.few_stock)

    pub first_stock : (i : ℕ) → sum_by stock_with (take i ss) ≤ 34816
    first_stock i = omega (arith, all_stock, sum_by-take-le stock_with ss i)

    pub next_stock : (i : ℕ) (d : StockPart) → i < length ss → sum_by stock_with (take i ss) + stock_with (get_or ss i d) ≤ 34816
    next_stock i d lt = omega (arith, all_stock, sum_by_more_le stock_with ss i d lt)

  module _ (ts : List ThreadPart) (same : map view_thread ts ≡ P.threads) where
    all_few : sum_by kept_with ts ≤ 131072
    all_few =
        let all : sum_by kept_with ts ≡ credits_given (begun [] P.threads) = given_of_kept ts ∙ ap (λ xs. credits_given (begun [] xs)) same in
        let each : credits_given (begun [] P.threads) ≤ length P.threads * 2048 = few_each P.threads made.few_credits in
        omega (arith, all, each, made.few_threads)

    pub first_few : (i : ℕ) → sum_by kept_with (take i ts) ≤ 131072
    first_few i = omega (arith, all_few, sum_by-take-le kept_with ts i)

    pub next_few : (i : ℕ) (d : ThreadPart) → i < length ts → sum_by kept_with (take i ts) + kept_with (get_or ts i d) ≤ 131072
    next_few i d lt = omega (arith, all_few, sum_by_more_le kept_with ts i d lt)
