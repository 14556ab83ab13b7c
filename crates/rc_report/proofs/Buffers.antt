-- What writing out a buffer keeps.
use Rattle.std.proofs.Common.{◌≡◌, ℕ, ◌+◌, ◌-◌, List, ◌++◌, length, take, drop, Option, Some, None, sym, ap, ◌∙◌, append_assoc, length-drop, arith}
use Rattle.std.proofs.lemmas.List.{drop-drop, take-append-drop, take_all}
use Rattle.std.specs.Io.KnownBytes.{Appends, Keeps, append_known}

-- after a write of the first n bytes of what is left
keeps_taken : (a b c : Option (List ℕ)) (first rest : List ℕ) → Keeps a (append_known b (first ++ rest)) → Appends b c first → Keeps a (append_known c rest)
keeps_taken None b c first rest p q = tt
keeps_taken (Some xs) None c first rest p q = absurd p
keeps_taken (Some xs) (Some ys) None first rest p q = q
keeps_taken (Some xs) (Some ys) (Some zs) first rest p q = ap (λ us. us ++ rest) q ∙ append_assoc ys first rest ∙ p

pub keeps_more : (a b c : Option (List ℕ)) (bytes : List ℕ) (w n : ℕ) → Keeps a (append_known b (drop w bytes)) → Appends b c (take n (take (length bytes - w) (drop w bytes))) → Keeps a (append_known c (drop (w + n) bytes))
keeps_more a b c bytes w n p q =
    let all : take (length bytes - w) (drop w bytes) ≡ drop w bytes = take_all (length bytes - w) (drop w bytes) (omega (arith, length-drop w bytes)) in
    let cut : drop w bytes ≡ take n (drop w bytes) ++ drop (w + n) bytes =
    sym (take-append-drop n (drop w bytes)) ∙ ap (λ us. take n (drop w bytes) ++ us) (drop-drop n w bytes) in
    keeps_taken a b c (take n (drop w bytes)) (drop (w + n) bytes) (rw cut at p) (rw all at q)
