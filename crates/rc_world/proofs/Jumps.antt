-- Where the jumps of a thread lead that is at a line.
use Rattle.std.proofs.Common.{ℕ, ◌<◌, ◌≤◌, Bool, Option, length, ap, arith}
use Rattle.rc_lang.specs.declared.lines.Locks.{Locks}
use Rattle.rc_lang.specs.declared.lines.Op.{Op}
use Rattle.rc_lang.specs.declared.lines.Stmt.TheVariants.{Do, Put, If, Peek, EndLoop, Break}
use Rattle.rc_lang.specs.declared.lines.Test.{Test}
use Rattle.rc_lang.specs.declared.lines.Test.TheVariants.{Compare, ReadyZero, SpaceAtLeast, Take, Any}
use Rattle.rc_lang.specs.Nesting.{Way}
use Rattle.rc_lang.specs.Program.{Program, end_at, lines_of, lists_of}
use Rattle.rc_lang.proofs.Lookups.{nested_here}
use Rattle.rc_world.specs.Changes.{CallIsSmall, StandsAt, TestIsSmall}
use Rattle.rc_world.specs.Controls.{Controls}
use Rattle.rc_world.proofs.Laid.{IsBelow, break_loop, if_leads, laid, listed_in, loop_leads, loop_top, peek_leads, resolved_in}
use Rattle.rc_world.proofs.RingSteps.{small_stmt}

module _ (P : Program) (c : Controls) (i j : ℕ) where
  pub peek_below : (x : ℕ) → StandsAt P c i j (Peek x) → IsBelow (lines_of P i) j (end_at P i j)
  peek_below x s = peek_leads (lines_of P i) _ (laid P s.made i) j x s.line

  pub peek_small : (x : ℕ) → StandsAt P c i j (Peek x) → x < 64
  peek_small x s = let r = resolved_in P s.made i j (Peek x) s.line in let le : r.0 ≤ 64 = r.2 in let lt : x < r.0 = r.3 in omega arith

  pub if_below : (test : Test) → StandsAt P c i j (If test) → IsBelow (lines_of P i) j (end_at P i j)
  if_below test s = if_leads (lines_of P i) _ (laid P s.made i) j test s.line

  pub loop_small : (o k : ℕ) → StandsAt P c i j (EndLoop o k) → o ≤ 4096
  loop_small o k s =
      let lt : o < j = (loop_top (lines_of P i) _ (laid P s.made i) j o k s.line).0 in
      let le : j ≤ 4096 = s.within in
      omega arith

  pub break_small : (o : ℕ) (releases : Locks) (leaves : Bool) → StandsAt P c i j (Break o releases leaves) → end_at P i o ≤ 4096
  break_small o releases leaves s =
      let l = laid P s.made i in
      let n = nested_here (lines_of P i) l.each j (Break o releases leaves) s.line in
      let t = break_loop (lines_of P i) _ l j o (ap (λ (way : Way). way.loop) n.1) in
      (loop_leads (lines_of P i) _ l o t.0 t.1).few

  pub test_small : (test : Test) → StandsAt P c i j (If test) → TestIsSmall P i test
  test_small (Compare x comparison n) s = let r = resolved_in P s.made i j _ s.line in let le : r.0 ≤ 64 = r.2 in let lt : x < r.0 = r.3 in omega arith
  test_small ReadyZero s = tt
  test_small (SpaceAtLeast n) s = tt
  test_small Any s = tt
  test_small (Take pool k) s = listed_in P s.made i j (If (Take pool k)) s.line

  -- the items of a put are those of a made program
  pub put_small : (pool : Option ℕ) (k : ℕ) → StandsAt P c i j (Put pool k) → k < length (lists_of P i)
  put_small pool k s = listed_in P s.made i j (Put pool k) s.line

  pub op_small : (op : Op) → StandsAt P c i j (Do op) → CallIsSmall P op
  op_small op s = small_stmt P s.made i j (Do op) s.line
