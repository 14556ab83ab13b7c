-- The items of a line in their places, where no sentence is true of it.
use Rattle.std.proofs.Common.{◌≡◌, ℕ, ◌<◌, ◌≤◌, Bool, true, false, cond, List, [], ◌∷◌, ◌++◌, length, Option, Some, None, is_none, option_map, unwrap_or, codes, bytes_eq, take, drop, ◌+◌, refl, sym, subst, append_assoc, append-nil, arith}
use Rattle.std.specs.List.{IsDistinct}
use Rattle.std.proofs.lemmas.Bool.{or_parts, not-false}
use Rattle.std.proofs.lemmas.Map.Keys.{IsDistinct-from_apart}
use Rattle.rc_lang.specs.Program.{Thread as ThreadOf}
use Rattle.rc_lang.specs.Resolved.{DeclaresToken}
use Rattle.rc_lang.specs.Numbers.{number_of}
use Rattle.rc_read.specs.declared.table.Part.TheVariants.{Buffer, Flag, HeldShares, HeldToken, Credits as CreditsPart, Queued as QueuedPart}
use Rattle.rc_read.specs.declared.values.Item.{Item}
use Rattle.rc_read.specs.declared.values.Item.TheVariants.{Shares, Token, Credits, Queued, When}
use Rattle.rc_read.specs.declared.values.Seen.{Seen}
use Rattle.rc_read.specs.declared.values.Value.TheVariants as value
use Rattle.rc_read.specs.Sentences.{any_unknown, is_unknown, lacks_token}
use Rattle.rc_read.specs.Sheets.{Draft, Sheet, buffer_number, has_token, is_among, number_in}
use Rattle.rc_read.specs.Spots.{Spot, colon_in, is_item, spots_cut, spots_of_item, spots_of_items}
use Rattle.rc_read.specs.Values.{any_lacks, items_in, seen_behind, user_data_of, value_at, values_of}
use Rattle.rc_read.proofs.KeptSpots.{number_below}
use Rattle.rc_read.proofs.KeptValues.{buffer_below, in_range, made, token_declared}

-- no numbers are distinct
pub none_distinct : {K : Type 0} (e : K → K → Bool) → IsDistinct e []
none_distinct e = IsDistinct-from_apart e [] (λ i j d lt l. absurd (omega arith))

module _ (threads : List ThreadOf) (s : Sheet) (MayBeFlag : ℕ → Type 0) where
  -- An item names what is declared, and its number is in its range.
  abbrev pub IsFine : Item → Type 0
  IsFine (Shares b k) = (b < length s.buffers) × (1 ≤ k) × (k ≤ 16)
  IsFine (Token u) = DeclaresToken (made threads s) u
  IsFine (Credits n) = n ≤ 2048
  IsFine (Queued k) = k ≤ s.head.entries
  IsFine (When x) = MayBeFlag x

  abbrev pub AreFine : List Item → Type 0
  AreFine [] = Unit {0}
  AreFine (i ∷ is) = IsFine i × AreFine is

  -- ---- the places of items

  module _ (d : Draft) where
    abbrev sheet : Sheet
    sheet = record s { draft = d }

    -- The items in these places are fine, whatever is before them.
    abbrev pub SayFine : List Spot → Type 0
    SayFine ps = (seen : Seen) → any_lacks sheet seen ps ≡ false → any_unknown s ps ≡ false → AreFine (items_in (values_of sheet seen ps))

    token_more : (w : List ℕ) (ps : List Spot) → SayFine ps → SayFine (record { part = HeldToken; word = w } ∷ ps)
    token_more w ps more seen l u =
        let a = or_parts (is_none (value_at sheet seen HeldToken w)) (any_lacks sheet seen ps) l in
        let b = or_parts (is_unknown s HeldToken w) (any_unknown s ps) u in
        go (user_data_of w) a.0 b.0 (more seen a.1 b.1)
      where
        go : (o : Option ℕ) → is_none (option_map (λ n. value.Item (Token n)) o) ≡ false → lacks_token s o ≡ false → AreFine (items_in (values_of sheet seen ps)) → AreFine (items_in (unwrap_or (option_map (λ n. value.Item (Token n)) o) value.Nothing ∷ values_of sheet seen ps))
        go None e f h = absurd (cc)
        go (Some n) e f h = (token_declared threads s n (not-false (has_token s.tokens n) f), h)

    credits_more : (w : List ℕ) (ps : List Spot) → SayFine ps → SayFine (record { part = CreditsPart; word = w } ∷ ps)
    credits_more w ps more seen l u =
        let a = or_parts (is_none (value_at sheet seen CreditsPart w)) (any_lacks sheet seen ps) l in
        go (number_of 0 2048 w) refl a.0 (more seen a.1 u)
      where
        go : (o : Option ℕ) → number_of 0 2048 w ≡ o → is_none (option_map (λ n. value.Item (Credits n)) o) ≡ false → AreFine (items_in (values_of sheet seen ps)) → AreFine (items_in (unwrap_or (option_map (λ n. value.Item (Credits n)) o) value.Nothing ∷ values_of sheet seen ps))
        go None e f h = absurd (cc)
        go (Some n) e f h = ((in_range 0 2048 w n e).1, h)

    queued_more : (w : List ℕ) (ps : List Spot) → SayFine ps → SayFine (record { part = QueuedPart; word = w } ∷ ps)
    queued_more w ps more seen l u =
        let a = or_parts (is_none (value_at sheet seen QueuedPart w)) (any_lacks sheet seen ps) l in
        go (number_of 0 s.head.entries w) refl a.0 (more seen a.1 u)
      where
        go : (o : Option ℕ) → number_of 0 s.head.entries w ≡ o → is_none (option_map (λ n. value.Item (Queued n)) o) ≡ false → AreFine (items_in (values_of sheet seen ps)) → AreFine (items_in (unwrap_or (option_map (λ n. value.Item (Queued n)) o) value.Nothing ∷ values_of sheet seen ps))
        go None e f h = absurd (cc)
        go (Some n) e f h = ((in_range 0 s.head.entries w n e).1, h)

    shares_more : (v w : List ℕ) (ps : List Spot) → SayFine ps → SayFine (record { part = Buffer; word = v } ∷ record { part = HeldShares; word = w } ∷ ps)
    shares_more v w ps more seen l u =
        let behind = seen_behind sheet seen Buffer v in
        let a = or_parts (is_none (value_at sheet behind HeldShares w)) (any_lacks sheet behind ps) l in
        let b = or_parts (is_unknown s Buffer v) (any_unknown s ps) u in
        go (number_of 1 16 w) refl a.0 (buffer_below s.buffers v b.0) (more behind a.1 b.1)
      where
        go : (o : Option ℕ) → number_of 1 16 w ≡ o → is_none (option_map (λ n. value.Item (Shares (buffer_number s.buffers v) n)) o) ≡ false → buffer_number s.buffers v < length s.buffers → AreFine (items_in (values_of sheet (seen_behind sheet seen Buffer v) ps)) → AreFine (items_in (unwrap_or (option_map (λ n. value.Item (Shares (buffer_number s.buffers v) n)) o) value.Nothing ∷ values_of sheet (seen_behind sheet seen Buffer v) ps))
        go None e f b h = absurd (cc)
        go (Some n) e f b h = let r = in_range 1 16 w n e in ((b, r.0, r.1), h)

    item_more : (name number : List ℕ) (a b c : Bool) (ps : List Spot) → SayFine ps → SayFine (cond a (record { part = HeldToken; word = number } ∷ []) (cond b (record { part = CreditsPart; word = number } ∷ []) (cond c (record { part = QueuedPart; word = number } ∷ []) (record { part = Buffer; word = name } ∷ record { part = HeldShares; word = number } ∷ []))) ++ ps)
    item_more name number true b c ps more = token_more number ps more
    item_more name number false true c ps more = credits_more number ps more
    item_more name number false false true ps more = queued_more number ps more
    item_more name number false false false ps more = shares_more name number ps more

    cut_more : (w : List ℕ) (o : Option ℕ) (ps : List Spot) → SayFine ps → SayFine (spots_cut w o ++ ps)
    cut_more w None ps more = more
    cut_more w (Some i) ps more = item_more (take i w) (drop (i + 1) w) (bytes_eq (take i w) (codes "t")) (bytes_eq (take i w) (codes "c")) (bytes_eq (take i w) (codes "q")) ps more

    flag_more : (w : List ℕ) (ps : List Spot) → is_among d.names w ≡ true → ((x : ℕ) → x < length d.names → MayBeFlag x) → SayFine ps → SayFine (record { part = Flag; word = w } ∷ ps)
    flag_more w ps named may more seen l u =
        let a = or_parts (is_none (value_at sheet seen Flag w)) (any_lacks sheet seen ps) l in
        let b = or_parts (is_unknown s Flag w) (any_unknown s ps) u in
        (may (number_in d.names w) (number_below d.names w named), more seen a.1 b.1)

    items_then : (ws : List (List ℕ)) (ps : List Spot) → SayFine ps → SayFine (spots_of_items ws ++ ps)
    items_then [] ps more = more
    items_then (w ∷ ws) ps more = go (is_item w) (subst SayFine (sym (append_assoc (spots_of_item w) (spots_of_items ws) ps)) (cut_more w (colon_in w) (spots_of_items ws ++ ps) (items_then ws ps more)))
      where
        go : (b : Bool) → SayFine ((spots_of_item w ++ spots_of_items ws) ++ ps) → SayFine (cond b (spots_of_item w ++ spots_of_items ws) [] ++ ps)
        go true h = h
        go false h = more

    pub items_fine : (ws : List (List ℕ)) → SayFine (spots_of_items ws)
    items_fine ws = subst SayFine (append-nil (spots_of_items ws)) (items_then ws [] (λ seen l u. tt))

    -- Two lists, with a flag between.
    pub both_fine : (ws : List (List ℕ)) (w : List ℕ) (vs : List (List ℕ)) → is_among d.names w ≡ true → ((x : ℕ) → x < length d.names → MayBeFlag x) → SayFine (spots_of_items ws ++ record { part = Flag; word = w } ∷ spots_of_items vs)
    both_fine ws w vs named may = items_then ws (record { part = Flag; word = w } ∷ spots_of_items vs) (flag_more w (spots_of_items vs) named may (items_fine vs))
