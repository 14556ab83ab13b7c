-- The copies of a line stand one behind another, and have one text.
use Rattle.std.proofs.Common.{◌≡◌, ℕ, zero, suc, ◌+◌, ◌<◌, ◌≤◌, Bool, true, false, cond, List, [], ◌∷◌, drop, Some, None, slice_get, refl, sym, ap, ◌∙◌, subst, arith}
use Rattle.std.proofs.lemmas.Bool.{lt-ltb}
use Rattle.rc_lang.specs.Program.{Program, Thread, further_copies, is_further, line_end}
use Rattle.rc_lang.specs.Kept.{IsNextCopy, IsProgram}

-- ---- look-ups behind a place

pub get_drop : {A : Type 0} (n m : ℕ) (xs : List A) → slice_get (drop n xs) m ≡ slice_get xs (n + m)
get_drop zero m xs = let e : m ≡ 0 + m = omega arith in ap (λ k. slice_get xs k) e
get_drop (suc n) m [] = refl
get_drop (suc n) m (x ∷ xs) = let e : suc (n + m) ≡ suc n + m = omega arith in get_drop n m xs ∙ ap (λ k. slice_get (x ∷ xs) k) e

drop_at : {A : Type 0} (n : ℕ) (xs : List A) (x : A) → slice_get xs n ≡ Some x → drop n xs ≡ x ∷ drop (n + 1) xs
drop_at n [] x e = absurd (cc)
drop_at zero (y ∷ ys) x e = let f : y ≡ x = cc in ap (λ z. z ∷ ys) f
drop_at (suc n) (y ∷ ys) x e = let f : suc (n + 1) ≡ suc n + 1 = omega arith in drop_at n ys x e ∙ ap (λ k. x ∷ drop k (y ∷ ys)) f

-- ---- further copies

pub further_at : (ts : List Thread) (m : ℕ) → m < further_copies ts → (t : Thread) × (slice_get ts m ≡ Some t) × (is_further t.copy ≡ true)
further_at [] m lt = absurd (omega (arith, lt))
further_at (t ∷ ts) m lt = go (is_further t.copy) refl m lt (λ k h. further_at ts k h)
  where
    go : (b : Bool) → is_further t.copy ≡ b → (m : ℕ) → m < cond b (further_copies ts + 1) 0 → ((k : ℕ) → k < further_copies ts → (u : Thread) × (slice_get ts k ≡ Some u) × (is_further u.copy ≡ true)) → (u : Thread) × (slice_get (t ∷ ts) m ≡ Some u) × (is_further u.copy ≡ true)
    go false e m h rest = absurd (omega (arith, h))
    go true e zero h rest = (t, refl, e)
    go true e (suc k) h rest = rest k (omega (arith, h))

further_more : (t : Thread) (ts : List Thread) → is_further t.copy ≡ true → further_copies (t ∷ ts) ≡ further_copies ts + 1
further_more t ts e = ap (λ b. cond b (further_copies ts + 1) 0) e

-- A copy and the next one.
pub record NextAt (P : Program) (k : ℕ) : Type 0 where
  pub earlier : Thread
  pub later : Thread
  pub first : slice_get P.threads k ≡ Some earlier
  pub second : slice_get P.threads (k + 1) ≡ Some later
  pub next : IsNextCopy earlier later

next_further : (s t : Thread) → IsNextCopy s t → is_further t.copy ≡ true
next_further s t n = let lt : 0 < n.number + 1 = omega arith in ap is_further n.has ∙ lt-ltb 0 (n.number + 1) lt

-- Behind it the line ends where it ends behind the copy before.
pub one_end : (P : Program) (k : ℕ) → NextAt P k → line_end P.threads (k + 1) ≡ line_end P.threads k
one_end P k n =
    let d : drop (k + 1) P.threads ≡ n.later ∷ drop (k + 1 + 1) P.threads = drop_at (k + 1) P.threads n.later n.second in
    let f : further_copies (drop (k + 1) P.threads) ≡ further_copies (drop (k + 1 + 1) P.threads) + 1 = ap further_copies d ∙ further_more n.later (drop (k + 1 + 1) P.threads) (next_further n.earlier n.later n.next) in
    omega (arith, f)

module _ (P : Program) (made : IsProgram P) (i : ℕ) where
  pub next_at : (m : ℕ) → m < further_copies (drop (i + 1) P.threads) → NextAt P (i + m)
  next_at m lt =
      let f = further_at (drop (i + 1) P.threads) m lt in
      let place : i + 1 + m ≡ i + m + 1 = omega arith in
      let here : slice_get P.threads (i + m + 1) ≡ Some f.0 = ap (λ k. slice_get P.threads k) (sym place) ∙ sym (get_drop (i + 1) m P.threads) ∙ f.1 in
      let c = made.copies (i + m + 1) f.0 here f.2 in
      let before : i + m + 1 ≡ c.place + 1 = c.before in
      let p : c.place ≡ i + m = omega (arith, before) in
      record { earlier = c.earlier; later = f.0; first = subst (λ k. slice_get P.threads k ≡ Some c.earlier) p c.stands; second = here; next = c.next }

  -- A copy of a thread, so many places behind it.
  pub record CopyAt (s : Thread) (m : ℕ) : Type 0 where
    pub thread : Thread
    pub stands : slice_get P.threads (i + m) ≡ Some thread
    pub same : thread ≡ record s { name = thread.name; copy = thread.copy }

  pub copy_at : (s : Thread) → slice_get P.threads i ≡ Some s → (m : ℕ) → m ≤ further_copies (drop (i + 1) P.threads) → CopyAt s m
  copy_at s e zero le = let place : i ≡ i + 0 = omega arith in record { thread = s; stands = ap (λ k. slice_get P.threads k) (sym place) ∙ e; same = refl }
  copy_at s e (suc m) le =
      let h = copy_at s e m (omega (arith, le)) in
      let n = next_at m (omega (arith, le)) in
      let first = n.first in
      let stands = h.stands in
      let one : n.earlier ≡ h.thread = cc (first, stands) in
      let place : i + m + 1 ≡ i + suc m = omega arith in
      record {
        thread = n.later;
        stands = ap (λ k. slice_get P.threads k) (sym place) ∙ n.second;
        same = n.next.same ∙ ap (λ (t : Thread). record t { name = n.later.name; copy = n.later.copy }) (one ∙ h.same);
      }

  -- A thread without a number stands alone.
  pub alone : (s : Thread) → slice_get P.threads i ≡ Some s → s.copy ≡ None → further_copies (drop (i + 1) P.threads) ≡ 0
  alone s e none = go (further_copies (drop (i + 1) P.threads)) refl
    where
      go : (n : ℕ) → further_copies (drop (i + 1) P.threads) ≡ n → further_copies (drop (i + 1) P.threads) ≡ 0
      go zero f = f
      go (suc n) f =
          let x = next_at 0 (omega (arith, f)) in
          let place : i ≡ i + 0 = omega arith in
          let first : slice_get P.threads i ≡ Some x.earlier = ap (λ k. slice_get P.threads k) place ∙ x.first in
          let one : s ≡ x.earlier = cc (e, first) in
          let after : x.earlier.copy ≡ Some x.next.number = x.next.after in
          let none' : x.earlier.copy ≡ None = ap (λ (t : Thread). t.copy) (sym one) ∙ none in
          absurd (cc (after, none'))
