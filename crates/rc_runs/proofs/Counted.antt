-- The items that moves spell, one move after another.
use Rattle.std.proofs.Common.{◌≡◌, ℕ, ◌+◌, ◌<◌, List, [], ◌∷◌, ◌++◌, length, drop, get_or, map, Option, Some, refl, sym, ap, subst, ◌∙◌, ◌-◌, append_assoc, append-nil, arith, length-append}
use Rattle.std.specs.Prelude.{flat_map}
use Rattle.std.proofs.lemmas.List.{at_drop_more, at_drop_all}
use Rattle.rc_world.specs.declared.event.Item.{Item}
use Rattle.rc_lang.specs.Program.{Program}
use Rattle.rc_world.specs.Machine.{World, start_world}
use Rattle.rc_runs.specs.declared.moves.Move.{Move}
use Rattle.rc_runs.specs.Spelling.{after_move, items_in, spelled, spelled_from}

abbrev pub joined : List (List Item) → List Item
joined spelled = flat_map (λ items. items) spelled

abbrev pub lengths : List (List Item) → List ℕ
lengths spelled = map (λ items. length items) spelled

-- After these items, where they lead to this world, the others are those of the moves from number k on.
pub record IsSpelledTo (all : List (List Item)) (moves : List Move) (k : ℕ) (w : Option World) (made : List Item) (numbers : List ℕ) : Type 0 where
  pub items : made ++ joined (spelled_from w (drop k moves)) ≡ joined all
  pub counts : numbers ++ lengths (spelled_from w (drop k moves)) ≡ lengths all

pub spells_begin : (program : Program) (moves : List Move) (w : World) (items : List Item) (counts : List ℕ) → w ≡ start_world program → items ≡ [] → counts ≡ [] → IsSpelledTo (spelled program moves) moves 0 (Some w) items counts
spells_begin program moves w items counts start none empty = rw (start, none, empty) (record { items = refl; counts = refl })

pub spells_next : (all : List (List Item)) (moves : List Move) (k : ℕ) (d : Move) (w next : Option World) (items new : List Item) (counts more : List ℕ) (before after : ℕ) → k < length moves →
    new ≡ items ++ items_in w (get_or moves k d) → after_move w (get_or moves k d) ≡ next → before ≡ length items → after ≡ length new → more ≡ counts ++ (after - before) ∷ [] →
    IsSpelledTo all moves k w items counts → IsSpelledTo all moves (k + 1) next new more
spells_next all moves k d w next items new counts more before after below spells leads was is adds h =
    let here : spelled_from w (drop k moves) ≡ items_in w (get_or moves k d) ∷ spelled_from (after_move w (get_or moves k d)) (drop (k + 1) moves) = at_drop_more (spelled_from w) moves k d below in
    let rest : List (List Item) = spelled_from (after_move w (get_or moves k d)) (drop (k + 1) moves) in
    let count : after - before ≡ length (items_in w (get_or moves k d)) = omega (arith, was, is, ap (λ (xs : List Item). length xs) spells, length-append items (items_in w (get_or moves k d))) in
    subst (λ (v : Option World). IsSpelledTo all moves (k + 1) v new more) leads (rw (adds, count, spells) (record {
      items = append_assoc items (items_in w (get_or moves k d)) (joined rest) ∙ sym (ap (λ (xs : List (List Item)). items ++ joined xs) here) ∙ h.items;
      counts = append_assoc counts (length (items_in w (get_or moves k d)) ∷ []) (lengths rest) ∙ sym (ap (λ (xs : List (List Item)). counts ++ lengths xs) here) ∙ h.counts;
    }))

pub record IsSpelledWhole (all : List (List Item)) (made : List Item) (numbers : List ℕ) : Type 0 where
  pub items : made ≡ joined all
  pub counts : numbers ≡ lengths all

pub spells_all : (all : List (List Item)) (moves : List Move) (k : ℕ) (w : Option World) (items : List Item) (counts : List ℕ) → length moves ≡ k → IsSpelledTo all moves k w items counts → IsSpelledWhole all items counts
spells_all all moves k w items counts e h = record {
  items = sym (append-nil items) ∙ sym (at_drop_all (λ (ms : List Move). items ++ joined (spelled_from w ms)) moves k (omega (arith, e))) ∙ h.items;
  counts = sym (append-nil counts) ∙ sym (at_drop_all (λ (ms : List Move). counts ++ lengths (spelled_from w ms)) moves k (omega (arith, e))) ∙ h.counts;
}
