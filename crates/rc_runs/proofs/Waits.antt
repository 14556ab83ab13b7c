-- A thread waits only where somebody has a lock that it wants.
use Rattle.std.proofs.Common.{◌≡◌, Bool, true, false, if◌then◌else◌, Option, Some, None, refl, subst}
use Rattle.rc_lang.specs.declared.lines.Line.{Line}
use Rattle.rc_lang.specs.declared.lines.Locks.{Locks}
use Rattle.rc_lang.specs.declared.lines.Stmt.{Stmt}
use Rattle.rc_lang.specs.declared.lines.Stmt.TheVariants.{Do, Put, Lock, EndLock, If, Else, EndIf, Peek, Case, Other, Nothing, EndArm, EndPeek, Loop, EndLoop, Break}
use Rattle.rc_world.specs.declared.controls.Holders.{Holders}
use Rattle.rc_world.specs.declared.controls.Next.TheVariants.{Ready, TakenLock}
use Rattle.rc_world.specs.Controls.{are_free}
use Rattle.rc_world.specs.Items.{next_by, ready_or_taken}

by_free : (b : Bool) (l : Line) (w wanted : Locks) → (if b then Ready l else TakenLock w) ≡ TakenLock wanted → (b ≡ false) × (w ≡ wanted)
by_free true l w wanted e = absurd (cc e)
by_free false l w wanted e = (refl, cc e)

at_stmt : (h : Holders) (l : Line) (s : Stmt) (wanted : Locks) → ready_or_taken h l s ≡ TakenLock wanted → are_free wanted h ≡ false
at_stmt h l (Do op) wanted e = absurd (cc e)
at_stmt h l (Put pool k) wanted e = absurd (cc e)
at_stmt h l (Lock w) wanted e =
    let both = by_free (are_free w h) l w wanted e in
    subst (λ x. are_free x h ≡ false) both.1 both.0
at_stmt h l (EndLock o w) wanted e = absurd (cc e)
at_stmt h l (If test) wanted e = absurd (cc e)
at_stmt h l (Else o) wanted e = absurd (cc e)
at_stmt h l (EndIf o) wanted e = absurd (cc e)
at_stmt h l (Peek x) wanted e = absurd (cc e)
at_stmt h l (Case o u) wanted e = absurd (cc e)
at_stmt h l (Other o) wanted e = absurd (cc e)
at_stmt h l (Nothing o) wanted e = absurd (cc e)
at_stmt h l (EndArm o) wanted e = absurd (cc e)
at_stmt h l (EndPeek o) wanted e = absurd (cc e)
at_stmt h l (Loop k) wanted e = absurd (cc e)
at_stmt h l (EndLoop o k) wanted e = absurd (cc e)
at_stmt h l (Break o w leaves) wanted e = absurd (cc e)

pub waits_for_some : (h : Holders) (l : Option Line) (wanted : Locks) → next_by h l ≡ TakenLock wanted → are_free wanted h ≡ false
waits_for_some h None wanted e = absurd (cc e)
waits_for_some h (Some l) wanted e = at_stmt h l l.stmt wanted e
