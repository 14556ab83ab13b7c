-- Where a thread is at a taken lock, a thread that holds a lock can make an event.
use Rattle.std.proofs.Common.{◌≡◌, ℕ, pos, Bool, true, false, if◌then◌else◌, List, Option, Some, None, refl, ap, ◌∙◌, arith}
use Rattle.std.proofs.lemmas.Int.{ints}
use Rattle.rc_lang.specs.declared.lines.Line.{Line}
use Rattle.rc_lang.specs.declared.lines.Locks.{Locks}
use Rattle.rc_lang.specs.declared.lines.Stmt.{Stmt}
use Rattle.rc_lang.specs.declared.lines.Stmt.TheVariants.{Lock, Else, EndIf, Case, Other, Nothing, EndArm, EndPeek}
use Rattle.rc_lang.specs.Program.{Program}
use Rattle.rc_lang.specs.Kept.{IsProgram}
use Rattle.rc_world.specs.declared.controls.Answer.{Answer}
use Rattle.rc_world.specs.declared.controls.Holders.{Holders}
use Rattle.rc_world.specs.declared.controls.Next.TheVariants.{Ready, TakenLock}
use Rattle.rc_world.specs.declared.event.Event.{Event}
use Rattle.rc_world.specs.Controls.{Controls, Move, Standing, acts, are_free, next_line, plainly, takes_locks}
use Rattle.rc_world.specs.Faults.{fault_of}
use Rattle.rc_world.specs.Items.{next_by, ready_or_taken}
use Rattle.rc_world.specs.Laws.{HasStep, NoDeadlock, WaitsForLock}
use Rattle.rc_world.specs.Machine.{World, start_world}
use Rattle.rc_world.specs.Runs.{IsRun}
use Rattle.rc_world.proofs.LawSteps.{next_of_standing, stepped}
use Rattle.rc_run.specs.Lives.{HoldersGo, can_move, is_ready, is_taken_lock}
use Rattle.rc_run.specs.Machine.{given_by_take}
use Rattle.rc_run.proofs.Turns.{given_allowed}

-- ---- a taken lock

-- The line takes locks, and somebody holds one of them.
record IsTaken (h : Holders) (s : Stmt) : Type 0 where
  wanted : Locks
  is : s ≡ Lock wanted
  taken : are_free wanted h ≡ false

taken_at : (h : Holders) (l : Line) (s : Stmt) → is_taken_lock (ready_or_taken h l s) ≡ true → IsTaken h s
taken_at h l (Lock wanted) e = record { wanted = wanted; is = refl; taken = not_free (are_free wanted h) e }
  where
    not_free : (free : Bool) → is_taken_lock (if free then Ready l else TakenLock wanted) ≡ true → free ≡ false
    not_free true q = absurd (cc)
    not_free false q = refl
taken_at h l _ e = absurd (cc)

waits_by : (w : World) (i : ℕ) (l : Option Line) → next_line w.program w.controls i ≡ l → is_taken_lock (next_by w.controls.holders l) ≡ true → WaitsForLock w i
waits_by w i None e taken = absurd (cc)
waits_by w i (Some l) e taken = let t = taken_at w.controls.holders l l.stmt taken in (l, t.wanted, e, t.is, t.taken)

-- ---- a step

-- A thread acts at no taken lock, and at no line that is no event.
acts_ready : (P : Program) (c : Controls) (i : ℕ) (t : Standing) (a : Answer) (m : Move) (l : Line) (s : Stmt) → acts P c i t s a ≡ Some m → is_ready (ready_or_taken c.holders l s) ≡ true
acts_ready P c i t a m l (Lock wanted) e = if_free (are_free wanted c.holders) e
  where
    if_free : (free : Bool) → (if free then plainly (takes_locks c i t wanted) a else None) ≡ Some m → is_ready (if free then Ready l else TakenLock wanted) ≡ true
    if_free true q = refl
    if_free false q = absurd (cc)
acts_ready P c i t a m l (Else o) e = absurd (cc)
acts_ready P c i t a m l (EndIf o) e = absurd (cc)
acts_ready P c i t a m l (Case o u) e = absurd (cc)
acts_ready P c i t a m l (Other o) e = absurd (cc)
acts_ready P c i t a m l (Nothing o) e = absurd (cc)
acts_ready P c i t a m l (EndArm o) e = absurd (cc)
acts_ready P c i t a m l (EndPeek o) e = absurd (cc)
acts_ready P c i t a m l _ e = refl

can_step : (w : World) (j : ℕ) → HasStep w j → can_move w j ≡ true
can_step w j step =
    let r = given_by_take w (pos 0) step.0.stmt in
    let h = step.2 r (given_allowed w (pos 0) step.0.stmt (omega (arith, ints))) in
    let s = stepped w j r h.0.0 h.0.1 h.1 in
    ap (λ l. is_ready (next_by w.controls.holders l)) (next_of_standing w j s.standing s.line s.stands) ∙ acts_ready w.program w.controls j s.standing _ s.move s.line s.line.stmt s.acted

pub holders_go : NoDeadlock → (events : List Event) (w : World) → IsProgram w.program → IsRun (start_world w.program) events w → fault_of w ≡ None → HoldersGo w
holders_go law events w made run safe i taken =
    let h = law w.program events w i made run safe (waits_by w i (next_line w.program w.controls i) refl taken) in
    (h.0, h.1, can_step w h.0 h.2)
