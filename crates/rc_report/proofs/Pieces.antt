-- Texts that are written piece after piece.
use Rattle.std.proofs.Common.{◌≡◌, ℕ, zero, suc, ◌+◌, ◌-◌, ◌<◌, ◌≤◌, List, [], ◌∷◌, ◌++◌, length, take, drop, Option, Some, None, Result, Ok, Err, refl, sym, ap, subst, ◌∙◌, append_assoc, length-drop, zero-add, get_or, arith}
use Rattle.std.proofs.lemmas.Grind.{flat_map-append}
use Rattle.std.proofs.lemmas.List.{take_all, drop_more, take-append-drop}
use Rattle.std.specs.List.{flat_map}
use Rattle.std.specs.Prelude.{IsErrAnd}
use Rattle.std.specs.Io.KnownBytes.{Appends, Keeps}
use Rattle.rc_report.specs.declared.engine_fault.EngineFault.{EngineFault}
use Rattle.rc_report.specs.declared.engine_fault.EngineFault.TheVariants.{Read, Write, OutOfMemory}
use Rattle.rc_report.specs.Streams.{Began, Taken, WritesOr, Wrote, failed_writes}

pub append-[] : {A : Type 0} (xs : List A) → xs ++ [] ≡ xs
append-[] [] = refl
append-[] (x ∷ xs) = ap (λ ys. x ∷ ys) (append-[] xs)

take_add : (i n : ℕ) (xs : List ℕ) → take (i + n) xs ≡ take i xs ++ take n (drop i xs)
take_add zero n xs = rw zero-add refl
take_add (suc i) n [] = nothing (suc i + n) (take n []) (nothing n [] refl)
  where
    nothing : (k : ℕ) (ys : List ℕ) → ys ≡ [] → take k [] ≡ ys
    nothing zero ys e = sym e
    nothing (suc k) ys e = sym e
take_add (suc i) n (x ∷ xs) = let e : suc i + n ≡ suc (i + n) = omega arith in rw e (ap (λ ys. x ∷ ys) (take_add i n xs))

-- nothing was written
pub appends_none : (a : Option (List ℕ)) → Appends a a []
appends_none None = tt
appends_none (Some xs) = sym (append-[] xs)

-- what a failed write keeps is nothing more
keeps_appends : (a b c : Option (List ℕ)) (s : List ℕ) → Appends a b s → Keeps b c → Appends a c s
keeps_appends None b c s p q = tt
keeps_appends (Some xs) None c s p q = absurd p
keeps_appends (Some xs) (Some ys) None s p q = q
keeps_appends (Some xs) (Some ys) (Some zs) s p q = q ∙ p

-- one piece, and then another
pub appends_both : (a b c : Option (List ℕ)) (s t : List ℕ) → Appends a b s → Appends b c t → Appends a c (s ++ t)
appends_both None b c s t p q = tt
appends_both (Some xs) None c s t p q = absurd p
appends_both (Some xs) (Some ys) None s t p q = q
appends_both (Some xs) (Some ys) (Some zs) s t p q = q ∙ ap (λ us. us ++ t) p ∙ append_assoc xs s t

pub appends_along : (a b : Option (List ℕ)) (s t : List ℕ) → s ≡ t → Appends a b s → Appends a b t
appends_along a b s t e h = let P : List ℕ → Type 0 = λ u. Appends a b u in subst P e h

-- ---- a text that is written

pub wrote_none : (a : Taken) → Wrote a a []
wrote_none a = (appends_none a.contents, refl)

pub wrote_both : (a b c : Taken) (s t : List ℕ) → Wrote a b s → Wrote b c t → Wrote a c (s ++ t)
wrote_both a b c s t p q = (appends_both a.contents b.contents c.contents s t p.0 q.0, q.1 ∙ p.1)

pub wrote_along : (a b : Taken) (s t : List ℕ) → s ≡ t → Wrote a b s → Wrote a b t
wrote_along a b s t e h = let P : List ℕ → Type 0 = λ u. Wrote a b u in subst P e h

-- one more write of what is left of a piece
pub wrote_more : (a b c : Taken) (piece : List ℕ) (i n : ℕ) → Wrote a b (take i piece) → Appends b.contents c.contents (take n (take (length piece - i) (drop i piece))) → c.failures ≡ b.failures → Wrote a c (take (i + n) piece)
wrote_more a b c piece i n p q same =
    let rest : take (length piece - i) (drop i piece) ≡ drop i piece = take_all (length piece - i) (drop i piece) (omega (arith, length-drop i piece)) in
    let e : take i piece ++ take n (take (length piece - i) (drop i piece)) ≡ take (i + n) piece = ap (λ us. take i piece ++ take n us) rest ∙ sym (take_add i n piece) in
    (appends_along a.contents c.contents _ _ e (appends_both a.contents b.contents c.contents _ _ p.0 q), same ∙ p.1)

pub within_more : (piece : List ℕ) (i n : ℕ) → i ≤ length piece → n ≤ length (take (length piece - i) (drop i piece)) → i + n ≤ length piece
within_more piece i n p q =
    let rest : take (length piece - i) (drop i piece) ≡ drop i piece = take_all (length piece - i) (drop i piece) (omega (arith, length-drop i piece)) in
    omega (arith, ap length rest, length-drop i piece)

-- a write of what is left failed
pub begins_more : (a b c : Taken) (piece : List ℕ) (i : ℕ) → Wrote a b (take i piece) → Keeps b.contents c.contents → c.failures ≡ b.failures + 1 → Began a c piece Write
begins_more a b c piece i p q failed = record {
  done = take i piece;
  rest = drop i piece;
  cut = sym (take-append-drop i piece);
  written = keeps_appends a.contents b.contents c.contents _ p.0 q;
  failures = failed ∙ ap (λ n. n + 1) p.1;
}

-- nothing was written yet
pub began_none : (a : Taken) (t : List ℕ) (e : EngineFault) → failed_writes e ≡ 0 → Began a a t e
began_none a t e none = record { done = []; rest = t; cut = refl; written = appends_none a.contents; failures = omega (arith, none) }

-- a beginning of the next piece is one of the whole
pub began_next : (a b c : Taken) (s t rest whole : List ℕ) (e : EngineFault) → whole ≡ s ++ (t ++ rest) → Wrote a b s → Began b c t e → Began a c whole e
began_next a b c s t rest whole e cut p q = record {
  done = s ++ q.done;
  rest = q.rest ++ rest;
  cut = cut ∙ ap (λ us. s ++ (us ++ rest)) q.cut ∙ ap (λ us. s ++ us) (append_assoc q.done q.rest rest) ∙ sym (append_assoc s q.done (q.rest ++ rest));
  written = appends_both a.contents b.contents c.contents s q.done p.0 q.written;
  failures = q.failures ∙ ap (λ n. n + failed_writes e) p.1;
}

-- ---- what is answered of it, where these faults are

module _ {X : Type 0} (faults : EngineFault → Type 0) where
  -- a piece was written, and then another was or wasn't
  pub writes_both : (a b c : Taken) (s t : List ℕ) (r : Result X EngineFault) → Wrote a b s → WritesOr faults b c t r → WritesOr faults a c (s ++ t) r
  writes_both a b c s t (Ok x) p q = wrote_both a b c s t p q
  writes_both a b c s t (Err e) p q = (q.0, began_next a b c s t [] (s ++ t) e (ap (λ u. s ++ u) (sym (append-[] t))) p q.1)

  -- the same text under another name
  pub writes_along : (a b : Taken) (s t : List ℕ) (r : Result X EngineFault) → s ≡ t → WritesOr faults a b s r → WritesOr faults a b t r
  writes_along a b s t r e h = let P : List ℕ → Type 0 = λ u. WritesOr faults a b u r in subst P e h

  -- A `?` returns the fault: a beginning of this text was written.
  pub stops : (a b : Taken) (t : List ℕ) (e : EngineFault) (r : Result X EngineFault) → IsErrAnd r (λ y. y ≡ e) → faults e → Began a b t e → WritesOr faults a b t r
  stops a b t e (Ok x) is f h = absurd is
  stops a b t e (Err y) is f h = let P : EngineFault → Type 0 = λ z. faults z × Began a b t z in subst P (sym is) (f, h)

  -- of two texts, the first wasn't written whole
  pub first_stops : (a b : Taken) (s t : List ℕ) (e : EngineFault) (r : Result X EngineFault) → IsErrAnd r (λ y. y ≡ e) → faults e × Began a b s e → WritesOr faults a b (s ++ t) r
  first_stops a b s t e r is h = stops a b (s ++ t) e r is h.0 (began_next a a b [] s t (s ++ t) e refl (wrote_none a) h.1)

  -- the next piece wasn't
  pub next_stops : (a b c : Taken) (s t rest whole : List ℕ) (e : EngineFault) (r : Result X EngineFault) → whole ≡ s ++ (t ++ rest) → Wrote a b s → IsErrAnd r (λ y. y ≡ e) → faults e × Began b c t e → WritesOr faults a c whole r
  next_stops a b c s t rest whole e r cut p is h = stops a c whole e r is h.0 (began_next a b c s t rest whole e cut p h.1)

-- ---- where memory may run out

abbrev NoRead : EngineFault → Type 0
NoRead e = ¬ (e ≡ Read)

write_is_no_read : (e : EngineFault) → e ≡ Write → NoRead e
write_is_no_read e is = λ read. absurd cc

module _ {X : Type 0} where
  -- A part only writes.
  pub grows_or_writes : (a b : Taken) (t : List ℕ) (r : Result X EngineFault) → WritesOr (λ e. e ≡ Write) a b t r → WritesOr NoRead a b t r
  grows_or_writes a b t (Ok x) h = h
  grows_or_writes a b t (Err e) h = (write_is_no_read e h.0, h.1)

  pub write_stops : (a b : Taken) (t : List ℕ) (e : EngineFault) (r : Result X EngineFault) → IsErrAnd r (λ y. y ≡ e) → e ≡ Write → Began a b t e → WritesOr NoRead a b t r
  write_stops a b t e r is w h = stops NoRead a b t e r is (write_is_no_read e w) h

  -- of three parts, the second only writes, and wasn't written whole
  pub part_stops : (a b c : Taken) (s t rest whole : List ℕ) (e : EngineFault) (r : Result X EngineFault) → whole ≡ s ++ (t ++ rest) → Wrote a b s → IsErrAnd r (λ y. y ≡ e) → (e ≡ Write) × Began b c t e → WritesOr NoRead a c whole r
  part_stops a b c s t rest whole e r cut p is h = write_stops a c whole e r is h.0 (began_next a b c s t rest whole e cut p h.1)

  pub second_stops : (a b c : Taken) (s t : List ℕ) (e : EngineFault) (r : Result X EngineFault) → Wrote a b s → IsErrAnd r (λ y. y ≡ e) → (e ≡ Write) × Began b c t e → WritesOr NoRead a c (s ++ t) r
  second_stops a b c s t e r p is h = part_stops a b c s t [] (s ++ t) e r (ap (λ u. s ++ u) (sym (append-[] t))) p is h

  -- Memory ran out.
  pub memory_stops : (a b : Taken) (t : List ℕ) (r : Result X EngineFault) → IsErrAnd r (λ y. y ≡ OutOfMemory) → Began a b t OutOfMemory → WritesOr NoRead a b t r
  memory_stops a b t r is h = stops NoRead a b t OutOfMemory r is (λ read. absurd cc) h

-- the pieces so far, the next one, and the others
pub pieces_cut : {B : Type 0} (f : B → List ℕ) (ps : List B) (i : ℕ) (d : B) → i < length ps → flat_map f ps ≡ flat_map f (take i ps) ++ (f (get_or ps i d) ++ flat_map f (drop (i + 1) ps))
pieces_cut f ps i d h =
    let e : drop i ps ≡ get_or ps i d ∷ drop (i + 1) ps = drop_more ps i d h in
    ap (λ qs. flat_map f qs) (sym (take-append-drop i ps)) ∙ flat_map-append f (take i ps) (drop i ps) ∙ ap (λ qs. flat_map f (take i ps) ++ flat_map f qs) e
