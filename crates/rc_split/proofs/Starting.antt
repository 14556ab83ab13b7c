-- The pools at the start: what the first of their lines say, and what is still to come.
use Rattle.std.proofs.Common.{◌≡◌, ℕ, ◌+◌, ◌*◌, ◌<◌, ◌≤◌, List, drop, fold, get_or, inr, length, map, sym, ap, subst, ◌∙◌, arith}
use Rattle.std.proofs.lemmas.List.{at_drop_more, get_or-map, length-map}
use Rattle.rc_lang.specs.declared.program.Stock.{Stock as StockPart}
use Rattle.rc_lang.specs.Parts.{view_items, view_stock}
use Rattle.rc_lang.specs.Program.{Program, Stock}
use Rattle.rc_lang.specs.Kept.{IsItems, IsProgram, IsStock}
use Rattle.rc_split.specs.Bags.{Part}
use Rattle.rc_split.specs.Pools.{CanAdd, Pools, all_pooled, pool_of, put_into}
use Rattle.rc_split.proofs.AllPools.{all_with, pooled_most}
use Rattle.rc_split.proofs.Named.{few_named}

abbrev pub with_lines : Program → Pools → List Stock → Pools
with_lines P pools lines = fold (λ (pools : Pools) (s : Stock). put_into P s.pool s.items pools) pools lines

module _ (P : Program) (made : IsProgram P) (lines : List StockPart) (same : map view_stock lines ≡ P.stock) (i : ℕ) (line : StockPart) (is : line ≡ get_or lines i line) (lt : i < length lines) where
  within : i < length (map view_stock lines)
  within = subst (λ n. i < n) (sym (length-map lines view_stock)) lt

  line_is : get_or (map view_stock lines) i (view_stock line) ≡ view_stock line
  line_is = get_or-map view_stock lines i line (view_stock line) lt ∙ ap view_stock (sym is)

  pub next_line : (pools : Pools) → with_lines P pools (drop i (map view_stock lines)) ≡ with_lines P (put_into P line.pool (view_items line.items) pools) (drop (i + 1) (map view_stock lines))
  next_line pools =
      at_drop_more (with_lines P pools) (map view_stock lines) i (view_stock line) within
      ∙ ap (λ (s : Stock). with_lines P (put_into P s.pool s.items pools) (drop (i + 1) (map view_stock lines))) line_is

  items_are : IsItems P (view_items line.items)
  items_are =
      let there : IsStock P (get_or P.stock i (view_stock line)) = made.stock i (view_stock line) (subst (λ (xs : List Stock). i < length xs) same within) in
      subst (λ (s : Stock). IsItems P s.items) line_is (subst (λ (xs : List Stock). IsItems P (get_or xs i (view_stock line)).items) (sym same) there.items)

  few : i < 17
  few =
      let a : length (map view_stock lines) ≡ length P.stock = ap (λ (xs : List Stock). length xs) same in
      omega (arith, a, within, made.few_stock)

  -- There is little so far, so the items of the next line can be added.
  pub can_start : (pools : Pools) → ((p : Part) → all_pooled P pools p ≤ i * 2048) → CanAdd P (pool_of pools line.pool) (view_items line.items)
  can_start pools little p = inr (omega (arith, few, little p, pooled_most P pools line.pool p, few_named P (view_items line.items) items_are p))

  pub still_little : (pools : Pools) → ((p : Part) → all_pooled P pools p ≤ i * 2048) → (p : Part) → all_pooled P (put_into P line.pool (view_items line.items) pools) p ≤ (i + 1) * 2048
  still_little pools little p = omega (arith, little p, all_with P pools line.pool (view_items line.items) p, few_named P (view_items line.items) items_are p)
