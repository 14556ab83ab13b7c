-- The pending requests and the buffers keep to one another.
use Rattle.std.proofs.Common.{◌≡◌, ℕ, zero, suc, ◌+◌, ◌-◌, ◌<◌, ◌≤◌, inl, inr, Bool, true, false, ◌&&◌, ◌||◌, if◌then◌else◌, List, [], ◌∷◌, ◌++◌, drop, length, length-append, Option, Some, None, refl, sym, ap, ◌∙◌, subst, slice_get, slice_set, slice_index_or, nat_eq, nat_le, arith, eq-eqb}
use Rattle.std.proofs.lemmas.Bool.{or_parts, or_left, or_right, and_parts}
use Rattle.std.proofs.lemmas.List.{length-set}
use Rattle.std.proofs.lemmas.Bool.Decides.{nat_tests}
use Rattle.rc_lang.specs.declared.request.Kind.{Kind}
use Rattle.rc_lang.specs.declared.request.Kind.TheVariants.{Read}
use Rattle.rc_lang.specs.declared.request.Request.{Request}
use Rattle.rc_lang.specs.Program.{Program, bytes_at}
use Rattle.rc_world.specs.Faults.{clash, clashes, clashes_with, has_buffer, is_filling, reads_into}
use Rattle.rc_world.specs.Kept.{IsFitting, IsKeptPending, IsMemory}
use Rattle.rc_world.specs.Machine.{Pending, bytes_brought, is_read, taken_bytes, without, without_taken}
use Rattle.rc_world.proofs.Lists.{any_at, any_push, any_without, found, get_none, get_of, get_push, get_set, get_without, none_without}

-- ---- clashes

same_either_way : (m n : ℕ) → nat_eq m n ≡ nat_eq n m
same_either_way m n = grind (arith, nat_tests)

both_ways : (a b e c d : Bool) → ((a && (b && e)) && (c || d)) ≡ ((b && (a && e)) && (d || c))
both_ways true true true true true = refl
both_ways true true true true false = refl
both_ways true true true false true = refl
both_ways true true true false false = refl
both_ways true true false c d = refl
both_ways true false e c d = refl
both_ways false true e c d = refl
both_ways false false e c d = refl

clash_turned : (r s : Request) → clash r s ≡ clash s r
clash_turned r s =
    ap (λ e. (has_buffer r.kind && (has_buffer s.kind && e)) && (is_read r.kind || is_read s.kind)) (same_either_way s.buffer r.buffer)
    ∙ both_ways (has_buffer r.kind) (has_buffer s.kind) (nat_eq r.buffer s.buffer) (is_read r.kind) (is_read s.kind)

regrouped : (a b c d : Bool) → ((a || b) || (c || d)) ≡ ((a || c) || (b || d))
regrouped true b c d = refl
regrouped false true true d = refl
regrouped false true false d = refl
regrouped false false true d = refl
regrouped false false false d = refl

pub clashes_push : (ps : List Pending) (q : Pending) → clashes (ps ++ q ∷ []) ≡ (clashes ps || clashes_with q.request ps)
clashes_push [] q = refl
clashes_push (p ∷ ps) q =
    ap (λ b. b || clashes (ps ++ q ∷ [])) (any_push (λ (x : Pending). clash p.request x.request) ps q)
    ∙ ap (λ b. (clashes_with p.request ps || clash p.request q.request) || b) (clashes_push ps q)
    ∙ ap (λ b. (clashes_with p.request ps || b) || (clashes ps || clashes_with q.request ps)) (clash_turned p.request q.request)
    ∙ regrouped (clashes_with p.request ps) (clash q.request p.request) (clashes ps) (clashes_with q.request ps)

pub calm_without : (k : ℕ) (ps : List Pending) → clashes ps ≡ false → clashes (without k ps) ≡ false
calm_without zero [] h = refl
calm_without (suc k) [] h = refl
calm_without zero (p ∷ ps) h = (or_parts (clashes_with p.request ps) (clashes ps) h).1
calm_without (suc k) (p ∷ ps) h =
    let n = or_parts (clashes_with p.request ps) (clashes ps) h in
    ap (λ b. b || clashes (without k ps)) (none_without (λ (x : Pending). clash p.request x.request) k ps n.0) ∙ calm_without k ps n.1

-- A read of a buffer that another one fills clashes with it.
pub read_has_buffer : (k : Kind) → is_read k ≡ true → has_buffer k ≡ true
read_has_buffer Read e = refl
read_has_buffer _ e = absurd (cc)

clash_of_reads : (r s : Request) → is_read r.kind ≡ true → reads_into r.buffer s ≡ true → clash r s ≡ true
clash_of_reads r s e f =
    let p = and_parts (is_read s.kind) (nat_eq s.buffer r.buffer) f in
    let a = read_has_buffer r.kind e in
    let b = read_has_buffer s.kind p.0 in
    ap (λ x. (x && (has_buffer s.kind && nat_eq s.buffer r.buffer)) && (is_read r.kind || is_read s.kind)) a
    ∙ ap (λ x. (x && nat_eq s.buffer r.buffer) && (is_read r.kind || is_read s.kind)) b
    ∙ ap (λ x. x && (is_read r.kind || is_read s.kind)) p.1
    ∙ ap (λ x. x || is_read s.kind) e

pub filling_clashes : (r : Request) (ps : List Pending) → is_read r.kind ≡ true → is_filling ps r.buffer ≡ true → clashes_with r ps ≡ true
filling_clashes r ps e f =
    let h = found (λ (p : Pending). reads_into r.buffer p.request) ps f in
    any_at (λ (p : Pending). clash r p.request) ps h.0 h.1 h.2 (clash_of_reads r h.1.request e h.3)

-- ---- a request becomes pending

module _ (program : Program) (ps : List Pending) (buffers : List (Option (List ℕ))) (m : IsMemory program ps buffers) (r : Request) (fitting : IsFitting program r) where
  new : Pending
  new = record { request = r; bytes = taken_bytes buffers r }

  more : List Pending
  more = ps ++ new ∷ []

  later : (q : Pending) → IsKeptPending program ps q → IsKeptPending program (ps ++ record { request = r; bytes = taken_bytes buffers r } ∷ []) q
  later q h = record {
    fitting = h.fitting;
    of_read = h.of_read;
    sized = h.sized;
    stands = λ e n. clashes_push ps (record { request = r; bytes = taken_bytes buffers r }) ∙ or_left _ _ (h.stands e n);
  }

  taken_is : (b : Bool) → is_read r.kind ≡ b → taken_bytes buffers r ≡ (if b then slice_index_or buffers r.buffer None else None)
  taken_is b e = ap (λ x. if x then slice_index_or buffers r.buffer None else None) e

  left_is : (b : Bool) → is_read r.kind ≡ b → without_taken buffers r ≡ (if b then slice_set buffers r.buffer None else buffers)
  left_is b e = ap (λ x. if x then slice_set buffers r.buffer None else buffers) e

  fresh : (b : Bool) → is_read r.kind ≡ b → IsKeptPending program (ps ++ record { request = r; bytes = taken_bytes buffers r } ∷ []) (record { request = r; bytes = taken_bytes buffers r })
  fresh true e = record {
    fitting = fitting;
    of_read = λ bytes q. e;
    sized = λ bytes q. m.sized r.buffer bytes (get_of buffers r.buffer bytes (sym (taken_is true e) ∙ q));
    stands = λ f n.
        let lt : r.buffer < length buffers = subst (λ k. r.buffer < k) (sym m.as_many) (fitting.exists (read_has_buffer r.kind e)) in
        let none = get_none buffers r.buffer lt (sym (taken_is true e) ∙ n) in
        clashes_push ps (record { request = r; bytes = taken_bytes buffers r }) ∙ or_right (clashes ps) _ (filling_clashes r ps e (m.filled r.buffer none));
  }
  fresh false e = record {
    fitting = fitting;
    of_read = λ bytes q. let n : taken_bytes buffers r ≡ None = taken_is false e in absurd (cc);
    sized = λ bytes q. let n : taken_bytes buffers r ≡ None = taken_is false e in absurd (cc);
    stands = λ f n. absurd (cc);
  }

  pub memory_begins : IsMemory program (ps ++ record { request = r; bytes = taken_bytes buffers r } ∷ []) (without_taken buffers r)
  memory_begins = go (is_read r.kind) refl
    where
      pending : (k : ℕ) (q : Pending) → slice_get (ps ++ record { request = r; bytes = taken_bytes buffers r } ∷ []) k ≡ Some q → IsKeptPending program (ps ++ record { request = r; bytes = taken_bytes buffers r } ∷ []) q
      pending k q e = elim (get_push ps _ k q e) [
        | inl h ↦ later q (m.pending k q h)
        | inr h ↦ subst (λ x. IsKeptPending program (ps ++ record { request = r; bytes = taken_bytes buffers r } ∷ []) x) h (fresh (is_read r.kind) refl)
      ]

      filling : (b : ℕ) → is_filling ps b ≡ true → is_filling (ps ++ record { request = r; bytes = taken_bytes buffers r } ∷ []) b ≡ true
      filling b h = any_push (λ (p : Pending). reads_into b p.request) ps _ ∙ or_left _ _ h

      go : (b : Bool) → is_read r.kind ≡ b → IsMemory program (ps ++ record { request = r; bytes = taken_bytes buffers r } ∷ []) (without_taken buffers r)
      go true e = subst (λ bs. IsMemory program (ps ++ record { request = r; bytes = taken_bytes buffers r } ∷ []) bs) (sym (left_is true e)) (record {
        pending = pending;
        as_many = length-set buffers r.buffer None ∙ m.as_many;
        sized = λ b bytes q. elim (get_set buffers r.buffer b None (Some bytes) q) [
          | inl h ↦ absurd (cc)
          | inr h ↦ m.sized b bytes h.1
        ];
        filled = λ b q. elim (get_set buffers r.buffer b None None q) [
          | inl h ↦
              let here : reads_into b r ≡ true = ap (λ x. x && nat_eq r.buffer b) e ∙ ap (λ n. nat_eq r.buffer n) h.0 ∙ eq-eqb r.buffer r.buffer refl in
              any_push (λ (p : Pending). reads_into b p.request) ps _ ∙ or_right (is_filling ps b) _ here
          | inr h ↦ filling b (m.filled b h.1)
        ];
      })
      go false e = subst (λ bs. IsMemory program (ps ++ record { request = r; bytes = taken_bytes buffers r } ∷ []) bs) (sym (left_is false e)) (record {
        pending = pending;
        as_many = m.as_many;
        sized = m.sized;
        filled = λ b q. filling b (m.filled b q);
      })

-- ---- a buffer gets other bytes

pub memory_written : (program : Program) (ps : List Pending) (buffers : List (Option (List ℕ))) → IsMemory program ps buffers → (b : ℕ) (bytes new : List ℕ) → slice_index_or buffers b None ≡ Some bytes → length new ≡ length bytes
    → IsMemory program ps (slice_set buffers b (Some new))
memory_written program ps buffers m b bytes new e n = record {
  pending = m.pending;
  as_many = length-set buffers b (Some new) ∙ m.as_many;
  sized = λ k more q. elim (get_set buffers b k (Some new) (Some more) q) [
    | inl h ↦
        let same : new ≡ more = cc in
        sym (ap (λ xs. length xs) same) ∙ n ∙ m.sized b bytes (get_of buffers b bytes e) ∙ ap (λ i. bytes_at program.buffers i) (sym h.0)
    | inr h ↦ m.sized k more h.1
  ];
  filled = λ k q. elim (get_set buffers b k (Some new) None q) [
    | inl h ↦ absurd (cc)
    | inr h ↦ m.filled k h.1
  ];
}

-- ---- a request completes

module _ (program : Program) (ps : List Pending) (buffers : List (Option (List ℕ))) (m : IsMemory program ps buffers) (calm : clashes ps ≡ false) (k : ℕ) (p : Pending) (here : slice_get ps k ≡ Some p) where
  left : (j : ℕ) (q : Pending) → slice_get (without k ps) j ≡ Some q → IsKeptPending program (without k ps) q
  left j q e =
      let g = get_without k ps j q e in
      let h = m.pending g.0 q g.1 in
      record {
        fitting = h.fitting;
        of_read = h.of_read;
        sized = h.sized;
        stands = λ f n. let c = h.stands f n in absurd (cc);
      }

  other_than : (b : ℕ) → (p.request.buffer ≡ b → ⊥) → reads_into b p.request ≡ false
  other_than b ne = go (is_read p.request.kind)
    where
      differs : nat_eq p.request.buffer b ≡ false
      differs = grind (arith, nat_tests)

      go : (x : Bool) → (x && nat_eq p.request.buffer b) ≡ false
      go true = differs
      go false = refl

  pub memory_read : (stood bytes : List ℕ) → p.bytes ≡ Some stood → length bytes ≡ bytes_brought p.request
      → IsMemory program (without k ps) (slice_set buffers p.request.buffer (Some (bytes ++ drop p.request.len stood)))
  memory_read stood bytes e n = record {
    pending = left;
    as_many = length-set buffers p.request.buffer _ ∙ m.as_many;
    sized = λ b more q. elim (get_set buffers p.request.buffer b _ (Some more) q) [
      | inl h ↦
          let same : bytes ++ drop p.request.len stood ≡ more = cc in
          sym (ap (λ xs. length xs) same) ∙ whole ∙ ap (λ i. bytes_at program.buffers i) (sym h.0)
      | inr h ↦ m.sized b more h.1
    ];
    filled = λ b q. elim (get_set buffers p.request.buffer b _ None q) [
      | inl h ↦ absurd (cc)
      | inr h ↦ any_without (λ (x : Pending). reads_into b x.request) k ps p here (other_than b (λ x. h.0 (sym x))) (m.filled b h.1)
    ];
  }
    where
      whole : length (bytes ++ drop p.request.len stood) ≡ bytes_at program.buffers p.request.buffer
      whole =
          let h = m.pending k p here in
          let s : length stood ≡ bytes_at program.buffers p.request.buffer = h.sized stood e in
          let f : nat_le p.request.len (bytes_at program.buffers p.request.buffer) ≡ true = h.fitting.room in
          let le : p.request.len ≤ bytes_at program.buffers p.request.buffer = grind (arith, nat_tests) in
          let r : is_read p.request.kind ≡ true = h.of_read stood e in
          let c : length bytes ≡ p.request.len = n ∙ ap (λ x. if x then p.request.len else 0) r in
          let d : length (drop p.request.len stood) ≡ length stood - p.request.len = length_dropped p.request.len stood in
          let a : length (bytes ++ drop p.request.len stood) ≡ length bytes + length (drop p.request.len stood) = length-append bytes (drop p.request.len stood) in
          omega arith
        where
          length_dropped : (n : ℕ) (xs : List ℕ) → length (drop n xs) ≡ length xs - n
          length_dropped zero xs = omega arith
          length_dropped (suc n) [] = omega arith
          length_dropped (suc n) (x ∷ xs) = let h = length_dropped n xs in omega arith

  pub memory_done : is_read p.request.kind ≡ false → IsMemory program (without k ps) buffers
  memory_done e = record {
    pending = left;
    as_many = m.as_many;
    sized = m.sized;
    filled = λ b q. any_without (λ (x : Pending). reads_into b x.request) k ps p here (ap (λ x. x && nat_eq p.request.buffer b) e) (m.filled b q);
  }
