use Rattle.std.proofs.Common.{◌≡◌, ◌+◌, List, drop, get_or, ap, sym, ◌∙◌, ℕ, Bool}
use Rattle.std.proofs.lemmas.List.{at_drop_more}
use Rattle.rc_lang.specs.Program.{token_place}
use Rattle.rc_split.specs.Pools.{Pool, with_mark, with_marks}
use Rattle.rc_split.proofs.pool.Pool.mark_all.Goals as goal

pub loop-token-preserved : goal.loop-token-preserved
loop-token-preserved c =
    let P = c.args.program.now in
    let is : Bool = c.args.is in
    let xs : List ℕ = c.args.tokens.now in
    let i : ℕ = c.loop-token.token-index in
    let row : List Bool = c.loop-token.self.marks in
    let m : c.mark.new.self.marks ≡ with_mark is row (token_place P.tokens (get_or xs i 0)) = ap (λ (p : Pool). p.marks) c.mark.ensures in
    let s : with_marks P is row (drop i xs) ≡ with_marks P is (with_mark is row (token_place P.tokens (get_or xs i 0))) (drop (i + 1) xs) = at_drop_more (λ (ts : List ℕ). with_marks P is row ts) xs i 0 c.loop-token-test.true in
    record {
      marks = ap (λ r. with_marks P is r (drop (i + 1) xs)) m ∙ sym s ∙ c.loop-token.invariant.marks;
      shares = ap (λ (p : Pool). p.shares) c.mark.ensures ∙ c.loop-token.invariant.shares;
      credits = ap (λ (p : Pool). p.credits) c.mark.ensures ∙ c.loop-token.invariant.credits;
    }
