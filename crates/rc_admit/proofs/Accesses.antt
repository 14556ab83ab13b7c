-- What a thread has next, and what the rules ask where it reads or writes a buffer.
use Rattle.std.proofs.Common.{◌≡◌, ℕ, ◌≤◌, true, false, length, Option, Some, None, refl, ap, ◌∙◌, subst, arith, []}
use Rattle.std.proofs.lemmas.Option.{same_Some}
use Rattle.std.proofs.lemmas.Bool.{leb-true}
use Rattle.std.specs.Prelude.{slice_get}
use Rattle.rc_lang.specs.declared.lines.Line.{Line}
use Rattle.rc_lang.specs.declared.lines.Op.{Op}
use Rattle.rc_lang.specs.declared.lines.Op.TheVariants.{Load, Store, Fill}
use Rattle.rc_lang.specs.declared.lines.Stmt.{Stmt}
use Rattle.rc_lang.specs.declared.lines.Stmt.TheVariants.{Do}
use Rattle.rc_lang.specs.Program.{Program, Thread, lines_in, lines_of, shares_at, stmt_at}
use Rattle.rc_lang.specs.Kept.{IsProgram}
use Rattle.rc_lang.specs.Resolved.{IsResolved}
use Rattle.rc_rules.specs.declared.mode.Mode.{Mode}
use Rattle.rc_rules.specs.Premises.{Meets}
use Rattle.rc_rules.specs.Needs.{line_premises}
use Rattle.rc_split.specs.Bags.{Part, ShareOf}
use Rattle.rc_world.specs.Controls.{Standing, next_at, next_line}
use Rattle.rc_world.specs.Faults.{Access, access_by}
use Rattle.rc_world.specs.Machine.{World}
use Rattle.rc_admit.proofs.Rule.{met}
use Rattle.rc_admit.proofs.Shares.{buffer_shared}
use Rattle.rc_lang.proofs.Reading.{stmt_alone}

-- ---- what the rules ask of an access

-- A statement that writes a buffer has all its shares.
pub all_by : (P : Program) (b : Part → ℕ) (m : Mode) (op : Op) → Meets (line_premises P [] b m (Do op)) → (a : Access) → access_by op ≡ Some a → a.writes ≡ true → shares_at P.buffers a.buffer ≤ b (ShareOf a.buffer)
all_by P b m (Load x c j) h a e y = let z : false ≡ a.writes = ap (λ (x : Access). x.writes) (same_Some (record { buffer = c; writes = false }) a e) in absurd (cc)
all_by P b m (Store c j x) h a e y = subst (λ (x : Access). shares_at P.buffers x.buffer ≤ b (ShareOf x.buffer)) (same_Some (record { buffer = c; writes = true }) a e) (leb-true _ _ (met 7 (line_premises P [] b m (Do (Store c j x))) h))
all_by P b m (Fill c x) h a e y = subst (λ (x : Access). shares_at P.buffers x.buffer ≤ b (ShareOf x.buffer)) (same_Some (record { buffer = c; writes = true }) a e) (leb-true _ _ (met 7 (line_premises P [] b m (Do (Fill c x))) h))
all_by P b m _ h a e y = absurd (cc)

-- One that reads or writes it has a share.
pub one_by : (P : Program) → IsProgram P → (b : Part → ℕ) (m : Mode) (n k : ℕ) (op : Op) → Meets (line_premises P [] b m (Do op)) → IsResolved P n k (Do op) → (a : Access) → access_by op ≡ Some a → 1 ≤ b (ShareOf a.buffer)
one_by P made b m n k (Load x c j) h r a e = subst (λ (x : Access). 1 ≤ b (ShareOf x.buffer)) (same_Some (record { buffer = c; writes = false }) a e) (leb-true 1 _ (met 8 (line_premises P [] b m (Do (Load x c j))) h))
one_by P made b m n k (Store c j x) h r a e =
    let s : 1 ≤ shares_at P.buffers c = buffer_shared P made c r.0 in
    let g : shares_at P.buffers c ≤ b (ShareOf c) = leb-true _ _ (met 7 (line_premises P [] b m (Do (Store c j x))) h) in
    subst (λ (x : Access). 1 ≤ b (ShareOf x.buffer)) (same_Some (record { buffer = c; writes = true }) a e) (omega arith)
one_by P made b m n k (Fill c x) h r a e =
    let s : 1 ≤ shares_at P.buffers c = buffer_shared P made c r.0 in
    let g : shares_at P.buffers c ≤ b (ShareOf c) = leb-true _ _ (met 7 (line_premises P [] b m (Do (Fill c x))) h) in
    subst (λ (x : Access). 1 ≤ b (ShareOf x.buffer)) (same_Some (record { buffer = c; writes = true }) a e) (omega arith)
one_by P made b m n k _ h r a e = absurd (cc)

-- ---- where a thread is

-- The thread has this statement next.
pub record Next (w : World) (i : ℕ) (s : Stmt) : Type 0 where
  pub thread : Standing
  pub stands : slice_get w.controls.threads i ≡ Some thread
  pub line : Line
  pub is : next_at w.program i (Some thread) ≡ Some line
  pub says : line.stmt ≡ s

pub next_is : (w : World) (i : ℕ) (l : Line) → next_line w.program w.controls i ≡ Some l → Next w i l.stmt
next_is w i l e = go (slice_get w.controls.threads i) refl e
  where
    go : (x : Option Standing) → slice_get w.controls.threads i ≡ x → next_at w.program i x ≡ Some l → Next w i l.stmt
    go None f h = absurd (cc)
    go (Some t) f h = record { thread = t; stands = f; line = l; is = h; says = refl }

-- It is the one at the thread's place, where its label stands.
pub written : (w : World) → IsProgram w.program → (i : ℕ) (s : Stmt) (n : Next w i s) → stmt_at (lines_of w.program i) n.thread.place ≡ Some s
written w made i s n = stmt_alone w.program made i n.thread.variables n.thread.place n.line n.is ∙ ap Some n.says

-- The names of its line are resolved.
pub resolved_at : (P : Program) → IsProgram P → (i k : ℕ) (s : Stmt) → stmt_at (lines_of P i) k ≡ Some s → (n : ℕ) × (lists : ℕ) × IsResolved P n lists s
resolved_at P made i k s e = go (slice_get P.threads i) refl e
  where
    go : (x : Option Thread) → slice_get P.threads i ≡ x → stmt_at (lines_in x) k ≡ Some s → (n : ℕ) × (lists : ℕ) × IsResolved P n lists s
    go None f h = absurd (cc)
    go (Some t) f h = (length t.variables, length t.lists, (made.each i t f).resolved k s h)
