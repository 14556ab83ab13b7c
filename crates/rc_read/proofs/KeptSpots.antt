-- The places of a line's words, part by part.
use Rattle.std.proofs.Common.{◌≡◌, ℕ, ◌+◌, ◌<◌, ◌≤◌, suc, Bool, true, false, cond, ◌||◌, List, [], ◌∷◌, ◌++◌, append-nil, length, length-append, Some, None, option_map, unwrap_or, refl, sym, ap, ◌∙◌, subst, bytes_eq, arith}
use Rattle.std.proofs.lemmas.Bool.{or_left, or_right}
use Rattle.std.proofs.lemmas.List.Folds.{list_any-append}
use Rattle.std.proofs.lemmas.Cmp.{nat_list_eq_equiv}
use Rattle.rc_read.specs.declared.table.Part.{Part}
use Rattle.rc_read.specs.declared.table.Part.TheVariants.{Fixed, Flag, Items, Kinds, NewThreads}
use Rattle.rc_read.specs.declared.fixed.Word.{Word}
use Rattle.rc_read.specs.Adds.{second_of}
use Rattle.rc_read.specs.Sheets.{is_among, is_variable, names_behind, number_in, with_name}
use Rattle.rc_read.specs.Spots.{Spot, behind, behind_items, behind_list, behind_one, fits, is_list, matches, spot_of_part, spots_at, spots_of, spots_of_items, spots_of_list}

-- ---- parts

-- The word of a part, and the words after it.
pub record HasWord (part : Part) (parts : List Part) (ws : List (List ℕ)) : Type 0 where
  pub word : List ℕ
  pub rest : List (List ℕ)
  pub words : ws ≡ word ∷ rest
  pub fits : fits part word ≡ true
  pub behind : behind part ws ≡ Some rest
  pub matches : matches parts rest ≡ true

has_word : (part : Part) (parts : List Part) (ws : List (List ℕ)) → is_list part ≡ false → matches (part ∷ parts) ws ≡ true → HasWord part parts ws
has_word part parts ws one e = go ws (behind_is ws) (sym (ap (λ o. unwrap_or (option_map (λ rest. matches parts rest) o) false) (behind_is ws)) ∙ e)
  where
    behind_is : (xs : List (List ℕ)) → behind part xs ≡ behind_one part xs
    behind_is xs = ap (λ b. cond b (behind_list part xs) (behind_one part xs)) one

    on_word : (w : List ℕ) (rest : List (List ℕ)) (b : Bool) → fits part w ≡ b → behind part (w ∷ rest) ≡ cond b (Some rest) None → unwrap_or (option_map (λ r. matches parts r) (cond b (Some rest) None)) false ≡ true → HasWord part parts (w ∷ rest)
    on_word w rest true f b h = record { word = w; rest = rest; words = refl; fits = f; behind = b; matches = h }
    on_word w rest false f b h = absurd (cc)

    go : (xs : List (List ℕ)) → behind part xs ≡ behind_one part xs → unwrap_or (option_map (λ r. matches parts r) (behind_one part xs)) false ≡ true → HasWord part parts xs
    go [] b h = absurd (cc)
    go (w ∷ rest) b h = on_word w rest (fits part w) refl b h

spots_step : (part : Part) (parts : List Part) (ws : List (List ℕ)) → (h : HasWord part parts ws) → spots_of (part ∷ parts) ws ≡ spots_at part (h.word ∷ h.rest) ++ spots_of parts h.rest
spots_step part parts ws h = ap (λ xs. spots_at part xs ++ spots_of parts (unwrap_or (behind part ws) [])) h.words ∙ ap (λ o. spots_at part (h.word ∷ h.rest) ++ spots_of parts (unwrap_or o [])) h.behind

-- The places are those of the parts that aren't fixed, up to a list.
abbrev pub AreOf : List Part → List Spot → Type 0
AreOf [] ps = Unit {0}
AreOf (Fixed f ∷ parts) ps = AreOf parts ps
AreOf (Items ∷ parts) ps = Unit {0}
AreOf (Kinds ∷ parts) ps = Unit {0}
AreOf (NewThreads ∷ parts) ps = Unit {0}
AreOf (part ∷ parts) ps = (w : List ℕ) × (rest : List Spot) × (ps ≡ record { part = part; word = w } ∷ rest) × AreOf parts rest

pub are_of : (parts : List Part) (ws : List (List ℕ)) → matches parts ws ≡ true → AreOf parts (spots_of parts ws)
are_of [] ws e = tt
are_of (Fixed f ∷ parts) ws e = let h = has_word (Fixed f) parts ws refl e in subst (λ ps. AreOf parts ps) (sym (spots_step (Fixed f) parts ws h)) (are_of parts h.rest h.matches)
are_of (Items ∷ parts) ws e = tt
are_of (Kinds ∷ parts) ws e = tt
are_of (NewThreads ∷ parts) ws e = tt
are_of (part ∷ parts) ws e = let h = has_word part parts ws refl e in (h.word, spots_of parts h.rest, spots_step part parts ws h, are_of parts h.rest h.matches)

-- A word in such a place is one.
abbrev pub IsPlain : Part → Type 0
IsPlain part = (w : List ℕ) → spot_of_part part (w ∷ []) ≡ record { part = part; word = w } ∷ []

-- After a fixed word the places of the line's second word are first.
pub record IsSecond (f : Word) (part : Part) (parts : List Part) (ws : List (List ℕ)) : Type 0 where
  pub fits : fits part (second_of ws) ≡ true
  pub rest : List (List ℕ)
  pub spots : spots_of (Fixed f ∷ part ∷ parts) ws ≡ spot_of_part part (second_of ws ∷ []) ++ spots_of parts rest
  pub matches : matches parts rest ≡ true

pub is_second : (f : Word) (part : Part) (parts : List Part) (ws : List (List ℕ)) → is_list part ≡ false → matches (Fixed f ∷ part ∷ parts) ws ≡ true → IsSecond f part parts ws
is_second f part parts ws one e =
    let h = has_word (Fixed f) (part ∷ parts) ws refl e in
    let k = has_word part parts h.rest one h.matches in
    let w : k.word ≡ second_of ws = ap second_of (sym (h.words ∙ ap (λ xs. h.word ∷ xs) k.words)) in
    record {
      fits = subst (λ x. fits part x ≡ true) w k.fits;
      rest = k.rest;
      spots = spots_step (Fixed f) (part ∷ parts) ws h ∙ spots_step part parts h.rest k ∙ ap (λ ps. ps ++ spots_of parts k.rest) (alone k.word k.rest) ∙ ap (λ x. spot_of_part part (x ∷ []) ++ spots_of parts k.rest) w;
      matches = k.matches;
    }
  where
    alone : (w : List ℕ) (rest : List (List ℕ)) → spots_at part (w ∷ rest) ≡ spot_of_part part (w ∷ [])
    alone w rest = ap (λ b. cond b (spots_of_list part (w ∷ rest)) (spot_of_part part (w ∷ rest))) one

no_spot : (f : Word) (ws : List (List ℕ)) → spot_of_part (Fixed f) ws ≡ []
no_spot f [] = refl
no_spot f (w ∷ ws) = refl

items_first : (g : Word) (ws : List (List ℕ)) → spots_of (Items ∷ Fixed g ∷ []) ws ≡ spots_of_items ws
items_first g ws = ap (λ ps. spots_of_items ws ++ (ps ++ [])) (no_spot g (behind_items ws)) ∙ append-nil (spots_of_items ws)

-- Between fixed words, or after one, the places are those of the items.
pub items_between : (f g : Word) (ws : List (List ℕ)) → matches (Fixed f ∷ Items ∷ Fixed g ∷ []) ws ≡ true → (rest : List (List ℕ)) × (spots_of (Fixed f ∷ Items ∷ Fixed g ∷ []) ws ≡ spots_of_items rest)
items_between f g ws e =
    let h = has_word (Fixed f) (Items ∷ Fixed g ∷ []) ws refl e in
    (h.rest, spots_step (Fixed f) (Items ∷ Fixed g ∷ []) ws h ∙ items_first g h.rest)

pub items_alone : (f : Word) (ws : List (List ℕ)) → matches (Fixed f ∷ Items ∷ []) ws ≡ true → (rest : List (List ℕ)) × (spots_of (Fixed f ∷ Items ∷ []) ws ≡ spots_of_items rest)
items_alone f ws e = let h = has_word (Fixed f) (Items ∷ []) ws refl e in (h.rest, spots_step (Fixed f) (Items ∷ []) ws h ∙ append-nil (spots_of_items h.rest))

pub items_after : (e f g : Word) (ws : List (List ℕ)) → matches (Fixed e ∷ Fixed f ∷ Items ∷ Fixed g ∷ []) ws ≡ true → (rest : List (List ℕ)) × (spots_of (Fixed e ∷ Fixed f ∷ Items ∷ Fixed g ∷ []) ws ≡ spots_of_items rest)
items_after e f g ws m =
    let h = has_word (Fixed e) (Fixed f ∷ Items ∷ Fixed g ∷ []) ws refl m in
    let k = items_between f g h.rest h.matches in
    (k.0, spots_step (Fixed e) (Fixed f ∷ Items ∷ Fixed g ∷ []) ws h ∙ k.1)

-- After two fixed words, at the end of the line.
pub items_behind : (f g : Word) (ws : List (List ℕ)) → matches (Fixed f ∷ Fixed g ∷ Items ∷ []) ws ≡ true → (rest : List (List ℕ)) × (spots_of (Fixed f ∷ Fixed g ∷ Items ∷ []) ws ≡ spots_of_items rest)
items_behind f g ws e =
    let h = has_word (Fixed f) (Fixed g ∷ Items ∷ []) ws refl e in
    let k = items_alone g h.rest h.matches in
    (k.0, spots_step (Fixed f) (Fixed g ∷ Items ∷ []) ws h ∙ k.1)

-- After a fixed word and another place, or after two fixed words and another place, are those of the items.
pub items_second : (f : Word) (part : Part) (ws : List (List ℕ)) → is_list part ≡ false → IsPlain part → matches (Fixed f ∷ part ∷ Items ∷ []) ws ≡ true → (w : List ℕ) × (rest : List (List ℕ)) × (spots_of (Fixed f ∷ part ∷ Items ∷ []) ws ≡ record { part = part; word = w } ∷ spots_of_items rest)
items_second f part ws one plain e =
    let k = is_second f part (Items ∷ []) ws one e in
    (second_of ws, k.rest, k.spots ∙ ap (λ ps. ps ++ spots_of (Items ∷ []) k.rest) (plain (second_of ws)) ∙ ap (λ ps. record { part = part; word = second_of ws } ∷ ps) (append-nil (spots_of_items k.rest)))

pub items_third : (e f g : Word) (part : Part) (ws : List (List ℕ)) → is_list part ≡ false → IsPlain part → matches (Fixed e ∷ Fixed f ∷ part ∷ Items ∷ Fixed g ∷ []) ws ≡ true → (w : List ℕ) × (rest : List (List ℕ)) × (spots_of (Fixed e ∷ Fixed f ∷ part ∷ Items ∷ Fixed g ∷ []) ws ≡ record { part = part; word = w } ∷ spots_of_items rest)
items_third e f g part ws one plain m =
    let h = has_word (Fixed e) (Fixed f ∷ part ∷ Items ∷ Fixed g ∷ []) ws refl m in
    let k = is_second f part (Items ∷ Fixed g ∷ []) h.rest one h.matches in
    (second_of h.rest, k.rest, spots_step (Fixed e) (Fixed f ∷ part ∷ Items ∷ Fixed g ∷ []) ws h ∙ k.spots ∙ ap (λ ps. ps ++ spots_of (Items ∷ Fixed g ∷ []) k.rest) (plain (second_of h.rest)) ∙ ap (λ ps. record { part = part; word = second_of h.rest } ∷ ps) (items_first g k.rest))

-- Around a flag are the places of two lists of items.
pub record HasFlag (spots : List Spot) : Type 0 where
  pub before : List (List ℕ)
  pub flag : List ℕ
  pub behind : List (List ℕ)
  pub places : spots ≡ spots_of_items before ++ record { part = Flag; word = flag } ∷ spots_of_items behind

pub has_flag : (e f g h : Word) (ws : List (List ℕ)) → matches (Fixed e ∷ Fixed f ∷ Items ∷ Fixed g ∷ Flag ∷ Items ∷ Fixed h ∷ []) ws ≡ true → HasFlag (spots_of (Fixed e ∷ Fixed f ∷ Items ∷ Fixed g ∷ Flag ∷ Items ∷ Fixed h ∷ []) ws)
has_flag e f g h ws m =
    let last : List Part = Items ∷ Fixed h ∷ [] in
    let a = has_word (Fixed e) (Fixed f ∷ Items ∷ Fixed g ∷ Flag ∷ last) ws refl m in
    let b = has_word (Fixed f) (Items ∷ Fixed g ∷ Flag ∷ last) a.rest refl a.matches in
    let c = has_word (Fixed g) (Flag ∷ last) (behind_items b.rest) refl b.matches in
    let d = has_word Flag last c.rest refl c.matches in
    let end : spots_of last d.rest ≡ spots_of_items d.rest = ap (λ ps. spots_of_items d.rest ++ (ps ++ [])) (no_spot h (behind_items d.rest)) ∙ append-nil (spots_of_items d.rest) in
    let more : spots_of (Fixed g ∷ Flag ∷ last) (behind_items b.rest) ≡ record { part = Flag; word = d.word } ∷ spots_of_items d.rest =
    spots_step (Fixed g) (Flag ∷ last) (behind_items b.rest) c ∙ spots_step Flag last c.rest d ∙ ap (λ ps. record { part = Flag; word = d.word } ∷ ps) end in
    record {
      before = b.rest;
      flag = d.word;
      behind = d.rest;
      places = spots_step (Fixed e) (Fixed f ∷ Items ∷ Fixed g ∷ Flag ∷ last) ws a ∙ spots_step (Fixed f) (Items ∷ Fixed g ∷ Flag ∷ last) a.rest b ∙ ap (λ ps. spots_of_items b.rest ++ ps) more;
    }

-- ---- names

among_push : (ns : List (List ℕ)) (w v : List ℕ) → is_among ns v ≡ true → is_among (ns ++ w ∷ []) v ≡ true
among_push ns w v e = list_any-append (λ n. bytes_eq n v) ns (w ∷ []) ∙ or_left (is_among ns v) (is_among (w ∷ []) v) e

among_new : (ns : List (List ℕ)) (w : List ℕ) → is_among (ns ++ w ∷ []) w ≡ true
among_new ns w = list_any-append (λ n. bytes_eq n w) ns (w ∷ []) ∙ or_right (is_among ns w) (is_among (w ∷ []) w) (or_left (bytes_eq w w) false (nat_list_eq_equiv.refl w))

among_here : (ns : List (List ℕ)) (w : List ℕ) → is_among (with_name ns w) w ≡ true
among_here ns w = go (is_among ns w) refl
  where
    go : (b : Bool) → is_among ns w ≡ b → is_among (cond b ns (ns ++ w ∷ [])) w ≡ true
    go true e = e
    go false e = among_new ns w

among_more : (b c : Bool) (ns : List (List ℕ)) (w v : List ℕ) → is_among ns v ≡ true → is_among (cond b (cond c ns (ns ++ w ∷ [])) ns) v ≡ true
among_more true true ns w v e = e
among_more true false ns w v e = among_push ns w v e
among_more false c ns w v e = e

names_more : (ns : List (List ℕ)) (ps : List Spot) (v : List ℕ) → is_among ns v ≡ true → is_among (names_behind ns ps) v ≡ true
names_more ns [] v e = e
names_more ns (p ∷ ps) v e = names_more (cond (is_variable p.part p.word) (with_name ns p.word) ns) ps v (among_more (is_variable p.part p.word) (is_among ns p.word) ns p.word v e)

-- The variables of these places are among the names.
abbrev pub AllNamed : List (List ℕ) → List Spot → Type 0
AllNamed ns [] = Unit {0}
AllNamed ns (p ∷ ps) = (is_variable p.part p.word ≡ true → is_among ns p.word ≡ true) × AllNamed ns ps

pub named_behind : (ns : List (List ℕ)) (ps qs : List Spot) → AllNamed ns (ps ++ qs) → AllNamed ns qs
named_behind ns [] qs h = h
named_behind ns (p ∷ ps) qs h = named_behind ns ps qs h.1

pub all_named : (ns : List (List ℕ)) (ps : List Spot) → AllNamed (names_behind ns ps) ps
all_named ns [] = tt
all_named ns (p ∷ ps) = (λ e. names_more (cond (is_variable p.part p.word) (with_name ns p.word) ns) ps p.word (here e), all_named (cond (is_variable p.part p.word) (with_name ns p.word) ns) ps)
  where
    here : is_variable p.part p.word ≡ true → is_among (cond (is_variable p.part p.word) (with_name ns p.word) ns) p.word ≡ true
    here e = subst (λ b. is_among (cond b (with_name ns p.word) ns) p.word ≡ true) (sym e) (among_here ns p.word)

pub number_below : (ns : List (List ℕ)) (w : List ℕ) → is_among ns w ≡ true → number_in ns w < length ns
number_below [] w e = absurd (cc)
number_below (n ∷ ns) w e = go (bytes_eq n w) e (λ h. number_below ns w h)
  where
    go : (b : Bool) → b || is_among ns w ≡ true → (is_among ns w ≡ true → number_in ns w < length ns) → cond b 0 (number_in ns w + 1) < suc (length ns)
    go true f h = omega arith
    go false f h = let lt : number_in ns w < length ns = h f in omega arith

names_step : (b c : Bool) (ns : List (List ℕ)) (w : List ℕ) → length ns ≤ length (cond b (cond c ns (ns ++ w ∷ [])) ns)
names_step true true ns w = omega arith
names_step true false ns w = let a : length (ns ++ w ∷ []) ≡ length ns + 1 = length-append ns (w ∷ []) in omega arith
names_step false c ns w = omega arith

pub names_grow : (ns : List (List ℕ)) (ps : List Spot) → length ns ≤ length (names_behind ns ps)
names_grow ns [] = omega arith
names_grow ns (p ∷ ps) =
    let a = names_step (is_variable p.part p.word) (is_among ns p.word) ns p.word in
    let b = names_grow (cond (is_variable p.part p.word) (with_name ns p.word) ns) ps in
    omega arith
