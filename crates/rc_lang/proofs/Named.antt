-- The names of threads: with a copy's number and without.
use Rattle.std.proofs.Common.{◌≡◌, ℕ, ◌+◌, ◌<◌, true, false, cond, not, List, [], ◌∷◌, ◌++◌, length, take, Option, Some, None, codes, refl, sym, ap, ◌∙◌, arith}
use Rattle.std.specs.Prelude.{decimal}
use Rattle.std.specs.List.{prefix_len}
use Rattle.std.proofs.lemmas.Bool.{and_parts}
use Rattle.std.proofs.lemmas.Fmt.{decimal_injective}
use Rattle.std.proofs.lemmas.List.{append-nil, append_cancel_left, append_cancel_right}
use Rattle.std.proofs.lemmas.List.Folds.{prefix_len-append}
use Rattle.rc_lang.specs.Names.{all_name_bytes, before_bracket, is_bracket, is_name, is_name_byte, is_reserved, is_spelt, numbered}
use Rattle.rc_lang.proofs.Lookups.{take_front}

-- ---- a name has no bracket

no_bracket : (b : ℕ) → is_name_byte b ≡ true → is_bracket b ≡ false
no_bracket b e = grind arith

all_before : (bytes : List ℕ) → all_name_bytes bytes ≡ true → prefix_len (λ b. not (is_bracket b)) bytes ≡ length bytes
all_before [] e = refl
all_before (b ∷ bytes) e =
    let p = and_parts (is_name_byte b) (all_name_bytes bytes) e in
    ap (λ c. cond (not c) (1 + prefix_len (λ x. not (is_bracket x)) bytes) 0) (no_bracket b p.0) ∙ omega (arith, all_before bytes p.1)

spelt_all : (name : List ℕ) → is_spelt name ≡ true → all_name_bytes name ≡ true
spelt_all [] e = absurd cc
spelt_all (b ∷ bytes) e = grind arith

name_before : (name : List ℕ) → is_name name ≡ true → prefix_len (λ b. not (is_bracket b)) name ≡ length name
name_before name e = all_before name (spelt_all name (and_parts (is_spelt name) (not (is_reserved name)) e).0)

-- ---- the name of a copy

pub before_numbered : (name : List ℕ) (copy : Option ℕ) → is_name name ≡ true → before_bracket (numbered name copy) ≡ name
before_numbered name None e =
    let n = name_before name e in
    ap (λ k. take k name) n ∙ ap (λ xs. take (length name) xs) (sym (append-nil name)) ∙ take_front name []
before_numbered name (Some copy) e =
    let n = name_before name e in
    let rest : List ℕ = codes "[" ++ decimal copy ++ codes "]" in
    let at : prefix_len (λ b. not (is_bracket b)) (name ++ rest) ≡ length name = grind (arith, prefix_len-append (λ b. not (is_bracket b)) name rest, n) in
    ap (λ k. take k (name ++ rest)) at ∙ take_front name rest

pub one_number : (name : List ℕ) (i j : ℕ) → i < 64 → j < 64 → numbered name (Some i) ≡ numbered name (Some j) → i ≡ j
one_number name i j few fewer e =
    let behind : codes "[" ++ decimal i ++ codes "]" ≡ codes "[" ++ decimal j ++ codes "]" = append_cancel_left name (codes "[" ++ decimal i ++ codes "]") (codes "[" ++ decimal j ++ codes "]") e in
    let opened : codes "[" ++ decimal i ≡ codes "[" ++ decimal j = append_cancel_right (codes "[" ++ decimal i) (codes "[" ++ decimal j) (codes "]") behind in
    decimal_injective i j (omega (arith, few)) (omega (arith, fewer)) (append_cancel_left (codes "[") (decimal i) (decimal j) opened)
