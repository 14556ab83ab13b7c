-- What one item adds to a trace.
use Rattle.std.proofs.Common.{◌≡◌, ℕ, zero, suc, ◌+◌, ◌<◌, false, ◌&&◌, drop, List, [], ◌∷◌, ◌++◌, length, refl, sym, ap, subst, ◌∙◌, append_assoc, add-zero, length-append, get_or, arith}
use Rattle.std.proofs.lemmas.List.{drop_more}
use Rattle.rc_lang.specs.Program.{Program, Thread as ThreadOf}
use Rattle.rc_world.specs.declared.controls.Next.{Next}
use Rattle.rc_world.specs.declared.controls.Next.TheVariants.{Ended as NoneLeft}
use Rattle.rc_world.specs.declared.event.Event.{Event}
use Rattle.rc_world.specs.declared.event.Item.{Item}
use Rattle.rc_world.specs.Items.{next_of}
use Rattle.rc_world.specs.Machine.{World}
use Rattle.rc_world.specs.Trace.{Trace, after_event, all_ended_from, has_ended, trace_from}
use Rattle.rc_report.specs.declared.engine_fault.EngineFault.{EngineFault}
use Rattle.rc_report.specs.declared.engine_fault.EngineFault.TheVariants.{OutOfMemory}
use Rattle.rc_report.specs.declared.stepping.Made.{Made}
use Rattle.rc_report.specs.declared.stepping.Made.TheVariants.{Event as MadeEvent, Last}
use Rattle.rc_report.specs.declared.trace.End.{End}
use Rattle.rc_report.specs.Engine.{end_of}
use Rattle.rc_report.specs.Made.{MakesItem}
use Rattle.rc_report.specs.Printed.{event_line, event_lines}
use Rattle.rc_report.specs.Streams.{Began, Taken, Wrote}
use Rattle.rc_report.proofs.Lines.{event_lines-append}
use Rattle.rc_report.proofs.Pieces.{append-[], began_next, wrote_along, wrote_both}

-- ---- the lines of the events so far

abbrev pub prepended : List Event → Trace → Trace
prepended done t = record { events = done ++ t.events; world = t.world; ending = t.ending }

-- The lines of n events of the whole trace are written, and these others are left.
pub record IsSoFar (program : Program) (old new : Taken) (whole others : Trace) (n : ℕ) : Type 0 where
  pub done : List Event
  pub count : length done ≡ n
  pub written : Wrote old new (event_lines program 1 done)
  pub trace : whole ≡ prepended done others

lines_of_whole : (program : Program) (whole others : Trace) (done : List Event) → whole ≡ prepended done others → event_lines program 1 whole.events ≡ event_lines program 1 done ++ event_lines program (1 + length done) others.events
lines_of_whole program whole others done e = ap (λ (t : Trace). event_lines program 1 t.events) e ∙ event_lines-append program 1 done others.events

pub so_far_more : (program : Program) (a b c : Taken) (whole others next : Trace) (n : ℕ) (e : Event) → IsSoFar program a b whole others n → others ≡ after_event e next → Wrote b c (event_line program (n + 1) e) → IsSoFar program a c whole next (n + 1)
so_far_more program a b c whole others next n e s o w =
    let k : 1 + length s.done ≡ n + 1 = omega (arith, s.count) in
    let one : event_lines program (1 + length s.done) (e ∷ []) ≡ event_line program (n + 1) e = append-[] (event_line program (1 + length s.done) e) ∙ ap (λ m. event_line program m e) k in
    record {
      done = s.done ++ e ∷ [];
      count = omega (arith, length-append s.done (e ∷ []), s.count);
      written = wrote_along a c _ _ (sym (event_lines-append program 1 s.done (e ∷ []) ∙ ap (λ t. event_lines program 1 s.done ++ t) one)) (wrote_both a b c _ _ s.written w);
      trace = s.trace ∙ ap (λ t. prepended s.done t) o ∙ ap (λ es. record { events = es; world = next.world; ending = next.ending }) (sym (append_assoc s.done (e ∷ []) next.events));
    }

-- Where memory runs out, the writing stops between lines.
pub so_far_began : (program : Program) (a b : Taken) (whole others : Trace) (n : ℕ) → IsSoFar program a b whole others n → Began a b (event_lines program 1 whole.events) OutOfMemory
so_far_began program a b whole others n s =
    record { done = event_lines program 1 s.done; rest = event_lines program (1 + length s.done) others.events; cut = lines_of_whole program whole others s.done s.trace; written = s.written.0; failures = s.written.1 ∙ sym (add-zero a.failures) }

-- A failed write stops within a line.
pub so_far_fails : (program : Program) (a b c : Taken) (whole others next : Trace) (n : ℕ) (e : Event) (fault : EngineFault) → IsSoFar program a b whole others n → others ≡ after_event e next → Began b c (event_line program (n + 1) e) fault → Began a c (event_lines program 1 whole.events) fault
so_far_fails program a b c whole others next n e fault s o w =
    let k : 1 + length s.done ≡ n + 1 = omega (arith, s.count) in
    let cut : event_lines program 1 whole.events ≡ event_lines program 1 s.done ++ (event_line program (n + 1) e ++ event_lines program (n + 1 + 1) next.events) =
    lines_of_whole program whole others s.done s.trace
    ∙ ap (λ (t : Trace). event_lines program 1 s.done ++ event_lines program (1 + length s.done) t.events) o
    ∙ ap (λ m. event_lines program 1 s.done ++ event_lines program m (e ∷ next.events)) k in
    began_next a b c _ _ _ _ fault cut s.written w

-- No event is left.
whole_events : (program : Program) (a b : Taken) (whole others : Trace) (n : ℕ) (s : IsSoFar program a b whole others n) → others.events ≡ [] → whole.events ≡ s.done
whole_events program a b whole others n s o = ap (λ (t : Trace). t.events) s.trace ∙ ap (λ es. s.done ++ es) o ∙ append-[] s.done

pub so_far_written : (program : Program) (a b : Taken) (whole others : Trace) (n : ℕ) → IsSoFar program a b whole others n → others.events ≡ [] → Wrote a b (event_lines program 1 whole.events)
so_far_written program a b whole others n s o =
    wrote_along a b _ _ (ap (λ es. event_lines program 1 es) (sym (whole_events program a b whole others n s o))) s.written

pub so_far_count : (program : Program) (a b : Taken) (whole others : Trace) (n : ℕ) → IsSoFar program a b whole others n → others.events ≡ [] → n ≡ length whole.events
so_far_count program a b whole others n s o = sym (ap (λ es. length es) (whole_events program a b whole others n s o) ∙ s.count)

pub so_far_end : (program : Program) (a b : Taken) (whole others : Trace) (n : ℕ) → IsSoFar program a b whole others n → end_of others.ending ≡ end_of whole.ending
so_far_end program a b whole others n s = sym (ap (λ (t : Trace). end_of t.ending) s.trace)

pub so_far_world : (program : Program) (a b : Taken) (whole others : Trace) (n : ℕ) → IsSoFar program a b whole others n → others.world ≡ whole.world
so_far_world program a b whole others n s = sym (ap (λ (t : Trace). t.world) s.trace)

-- ---- whether every thread has ended

pub ended_at : (w : World) (k i : ℕ) (ts : List ThreadOf) → i < length ts → all_ended_from w k (drop i ts) ≡ (has_ended (next_of w.program w.controls k) && all_ended_from w (k + 1) (drop (i + 1) ts))
ended_at w k i [] h = absurd (omega arith)
ended_at w k zero (t ∷ ts) h = refl
ended_at w k (suc i) (t ∷ ts) h =
    let e : suc i + 1 ≡ suc (i + 1) = omega arith in
    rw e (ended_at w k i ts (omega arith))

-- the thread has something left, so not every one has ended
pub not_ended : (w : World) (k : ℕ) (ts : List ThreadOf) (n : Next) → k < length ts → next_of w.program w.controls k ≡ n → has_ended n ≡ false → all_ended_from w k (drop k ts) ≡ false
not_ended w k ts n h e f = ended_at w k k ts h ∙ ap (λ x. has_ended x && all_ended_from w (k + 1) (drop (k + 1) ts)) e ∙ ap (λ b. b && all_ended_from w (k + 1) (drop (k + 1) ts)) f

-- this thread has ended, so the others decide
pub ended_more : (w : World) (k : ℕ) (ts : List ThreadOf) → k < length ts → next_of w.program w.controls k ≡ NoneLeft → all_ended_from w k (drop k ts) ≡ all_ended_from w (k + 1) (drop (k + 1) ts)
ended_more w k ts h e = ended_at w k k ts h ∙ ap (λ x. has_ended x && all_ended_from w (k + 1) (drop (k + 1) ts)) e

-- ---- the item at a place of the schedule

pub event_here : (w after : World) (items : List Item) (i : ℕ) (d : Item) (m : Made) (e : Event) → i < length items → m ≡ MadeEvent e → MakesItem w (get_or items i d) (i + 1) after m →
    trace_from w (i + 1) (drop i items) ≡ after_event e (trace_from after (i + 1 + 1) (drop (i + 1) items))
event_here w after items i d m e lt q h =
    let made : MakesItem w (get_or items i d) (i + 1) after (MadeEvent e) = subst (λ x. MakesItem w (get_or items i d) (i + 1) after x) q h in
    ap (λ is. trace_from w (i + 1) is) (drop_more items i d lt) ∙ made (drop (i + 1) items)

pub end_here : (w after : World) (items : List Item) (i : ℕ) (d : Item) (m : Made) (end : End) → i < length items → m ≡ Last end → MakesItem w (get_or items i d) (i + 1) after m →
    ((trace_from w (i + 1) (drop i items)).events ≡ []) × (end_of (trace_from w (i + 1) (drop i items)).ending ≡ end) × ((trace_from w (i + 1) (drop i items)).world ≡ after)
end_here w after items i d m end lt q h =
    let made : MakesItem w (get_or items i d) (i + 1) after (Last end) = subst (λ x. MakesItem w (get_or items i d) (i + 1) after x) q h in
    let e = ap (λ is. trace_from w (i + 1) is) (drop_more items i d lt) in
    let both = made (drop (i + 1) items) in
    (ap (λ (t : Trace). t.events) e ∙ both.0, ap (λ (t : Trace). end_of t.ending) e ∙ both.1, ap (λ (t : Trace). t.world) e ∙ both.2)
