-- What is written of a run.
use Rattle.std.proofs.Common.{◌≡◌, ℕ, List, [], ◌++◌, Option, Result, Ok, Err, add-zero, ap, refl, subst, sym, ◌∙◌}
use Rattle.std.specs.Prelude.{IfOk, IsErrAnd}
use Rattle.rc_lang.specs.Program.{Program}
use Rattle.rc_read.specs.Answer.{answer_of}
use Rattle.rc_world.specs.declared.event.Item.{Item}
use Rattle.rc_world.specs.Schedule.{items_of}
use Rattle.rc_world.specs.Trace.{Trace, trace_of}
use Rattle.rc_report.specs.declared.engine_fault.EngineFault.{EngineFault}
use Rattle.rc_report.specs.declared.engine_fault.EngineFault.TheVariants.{Read, OutOfMemory}
use Rattle.rc_report.specs.declared.step_engine.StepEnd.{StepEnd}
use Rattle.rc_report.specs.declared.step_engine.StepEnd.TheVariants.{Trace as OfTrace}
use Rattle.rc_report.specs.declared.trace.End.{End}
use Rattle.rc_report.specs.declared.script.Script.{Script}
use Rattle.rc_report.specs.declared.script.Show.{Show}
use Rattle.rc_report.specs.declared.script.Show.TheVariants as shown
use Rattle.rc_report.specs.declared.step_engine.Steps.{Steps}
use Rattle.rc_report.specs.declared.step_engine.NoSteps.{NoSteps}
use Rattle.rc_report.specs.declared.step_engine.NoSteps.TheVariants.{Text, Schedule}
use Rattle.rc_report.specs.Engine.{EndsItems, end_of, items_text, text_of_trace}
use Rattle.rc_report.specs.Steps.{ReadsSteps}
use Rattle.rc_report.specs.Streams.{Taken, WritesOr, Wrote}
use Rattle.rc_report.proofs.Pieces.{append-[], began_none, memory_stops, stops, writes_along}
use Rattle.rc_runs.specs.Moved.{ReadsMoved, moved_items, spelled_or}
use Rattle.rc_runs.specs.Scripts.{EndsScript, ReadsItems, script_items, script_text}
use Rattle.rc_runs.specs.declared.steps.Moved.{Moved}
use Rattle.rc_runs.specs.Stepping.{OfShown, in_place, trace_before}
use Rattle.rc_runs.proofs.Answered.{stopped}

abbrev pub Texts : Type 0
Texts = Program → Trace → List ℕ

-- What holds of all texts of traces.
pub of_any : (show : Show) (holds : Texts → Type 0) → ((traced : Texts) → holds traced) → OfShown show holds
of_any shown.Trace holds h = h text_of_trace
of_any shown.State holds h = ([], h (trace_before []))
of_any (shown.Picture from) holds h = ([], h (in_place []))

-- What follows from what holds of the texts.
pub of_such : (show : Show) (holds follows : Texts → Type 0) → ((traced : Texts) → holds traced → follows traced) → OfShown show holds → OfShown show follows
of_such shown.Trace holds follows h t = h text_of_trace t
of_such shown.State holds follows h t = (t.0, h (trace_before t.0) t.1)
of_such (shown.Picture from) holds follows h t = (t.0, h (in_place t.0) t.1)

-- What follows whatever the text is.
pub of_some : (show : Show) (holds : Texts → Type 0) (follows : Type 0) → ((traced : Texts) → holds traced → follows) → OfShown show holds → follows
of_some shown.Trace holds follows h t = h text_of_trace t
of_some shown.State holds follows h t = h (trace_before t.0) t.1
of_some (shown.Picture from) holds follows h t = h (in_place t.0) t.1

-- The text that they are the text of, and what is said of it.
pub of_text : (show : Show) (holds : Texts → Type 0) (says : Texts → List ℕ → Type 0) (is : List ℕ → Type 0) (text : Texts → List ℕ) → ((traced : Texts) → holds traced → says traced (text traced) × is (text traced)) → OfShown show holds →
    (said : List ℕ) × OfShown show (λ traced. says traced said) × is said
of_text shown.Trace holds says is text h t = let both = h text_of_trace t in (text text_of_trace, both.0, both.1)
of_text shown.State holds says is text h t = let both = h (trace_before t.0) t.1 in (text (trace_before t.0), (t.0, both.0), both.1)
of_text (shown.Picture from) holds says is text h t = let both = h (in_place t.0) t.1 in (text (in_place t.0), (t.0, both.0), both.1)

-- ---- the trace of a program

no_end : (ends : StepEnd → Type 0) (e : EngineFault) (r : Result StepEnd EngineFault) → IsErrAnd r (λ y. y ≡ e) → IfOk r ends
no_end ends e (Ok x) is = absurd is
no_end ends e (Err y) is = tt

-- Memory ran out once a part was written.
pub wrote_memory : {X : Type 0} (a b : Taken) (s t : List ℕ) (r : Result X EngineFault) → IsErrAnd r (λ y. y ≡ OutOfMemory) → Wrote a b s → WritesOr (λ e. ¬ (e ≡ Read)) a b (s ++ t) r
wrote_memory a b s t r is w = memory_stops a b (s ++ t) r is (record { done = s; rest = t; cut = refl; written = w.0; failures = w.1 ∙ sym (add-zero a.failures) })

module _ (show : Show) (ends : StepEnd → Type 0) (a b : Taken) (program : Program) (run : Trace) where
  -- It is written, and its end is answered.
  abbrev pub Answers : Result StepEnd EngineFault → Type 0
  Answers r = OfShown show (λ traced. WritesOr (λ e. ¬ (e ≡ Read)) a b (traced program run) r × IfOk r ends)

  -- It wasn't written whole.
  pub stops_within : (e : EngineFault) (r : Result StepEnd EngineFault) → IsErrAnd r (λ y. y ≡ e) → OfShown show (λ traced. WritesOr {X = End} (λ e. ¬ (e ≡ Read)) a b (traced program run) (Err e)) → Answers r
  stops_within e r is h = of_such show _ _ (λ traced w. (stops {X = StepEnd} (λ e. ¬ (e ≡ Read)) a b (traced program run) e r is w.0 w.1, no_end ends e r is)) h

  -- Memory ran out once it was written.
  pub stops_after : (r : Result StepEnd EngineFault) → IsErrAnd r (λ y. y ≡ OutOfMemory) → OfShown show (λ traced. Wrote a b (traced program run)) → Answers r
  stops_after r is h =
      of_such show _ _
      (λ traced w.
      let whole = wrote_memory {X = StepEnd} a b (traced program run) [] r is w in
      (writes_along {X = StepEnd} (λ e. ¬ (e ≡ Read)) a b _ _ r (append-[] (traced program run)) whole, no_end ends OutOfMemory r is))
      h

-- Memory ran out before anything was written.
pub stops_before : (show : Show) (ends : StepEnd → Type 0) (a : Taken) (text : Texts → List ℕ) (r : Result StepEnd EngineFault) → IsErrAnd r (λ y. y ≡ OutOfMemory) → OfShown show (λ traced. WritesOr (λ e. ¬ (e ≡ Read)) a a (text traced) r × IfOk r ends)
stops_before show ends a text r is = of_any show _ (λ traced. stopped a a (text traced) r ends is (began_none a (text traced) OutOfMemory refl))

-- Where it is the text that is to be written, with such an end, that is answered.
pub answers_as : (show : Show) (ends others : StepEnd → Type 0) (a b : Taken) (program : Program) (run : Trace) (text : Texts → List ℕ) (r : Result StepEnd EngineFault) → ((traced : Texts) → traced program run ≡ text traced) → ((end : StepEnd) → ends end → others end) →
    Answers show ends a b program run r → OfShown show (λ traced. WritesOr (λ e. ¬ (e ≡ Read)) a b (text traced) r × IfOk r others)
answers_as show ends others a b program run text r same ends_too h =
    of_such show _ _ (λ traced w. (writes_along {X = StepEnd} (λ e. ¬ (e ≡ Read)) a b (traced program run) (text traced) r (same traced) w.0, end_of_such r w.1)) h
  where
    end_of_such : (r : Result StepEnd EngineFault) → IfOk r ends → IfOk r others
    end_of_such (Ok end) h = ends_too end h
    end_of_such (Err e) h = tt

-- ---- the run of a script

ends_items : (program : Program) (read : Result (List Item) ℕ) (items : List Item) (end : StepEnd) → read ≡ Ok items → end ≡ OfTrace (end_of (trace_of program items).ending) → EndsItems program read end
ends_items program read items end e is = subst (λ read. EndsItems program read end) (sym e) is

module _ (bytes : List ℕ) (script : Script) (program : Program) (items : List Item) (answer : answer_of bytes ≡ Ok program) (read : script_items program script ≡ Ok items) where
  pub trace_of_script : (file : Option (List ℕ)) (traced : Texts) → traced program (trace_of program items) ≡ script_text file traced (answer_of bytes) script
  trace_of_script file traced = sym (ap (λ answer. script_text file traced answer script) answer ∙ ap (items_text traced program) read)

  pub end_of_script : (end : StepEnd) → end ≡ OfTrace (end_of (trace_of program items).ending) → EndsScript (answer_of bytes) script end
  end_of_script end is = subst (λ answer. EndsScript answer script end) (sym answer) (ends_items program (script_items program script) items end read is)

-- ---- what is read

-- The steps that are read are those of a schedule.
pub reads_items : (answer : Result Program (ℕ × ℕ)) (schedule : List ℕ) (steps : Steps) (moved : Moved) → ReadsSteps answer schedule (Ok steps) → moved.steps ≡ steps → ReadsItems (λ program. items_of program schedule) answer (Ok moved)
reads_items answer schedule steps moved read is = rw is read

pub reads_no_items : (answer : Result Program (ℕ × ℕ)) (schedule : List ℕ) (unread : NoSteps) → ReadsSteps answer schedule (Err unread) → ReadsItems (λ program. items_of program schedule) answer (Err unread)
reads_no_items (Ok program) schedule (Text line cause) h = h
reads_no_items (Ok program) schedule (Schedule i) h = h
reads_no_items (Err (line, number)) schedule (Text l cause) h = h
reads_no_items (Err (line, number)) schedule (Schedule i) h = h

-- Those that moves spell are the items of the moves.
pub reads_moved : (answer : Result Program (ℕ × ℕ)) (moves : List ℕ) (read : Result Moved NoSteps) → ReadsMoved answer moves read → ReadsItems (λ program. moved_items program moves) answer read
reads_moved answer moves (Ok moved) h = (h.program, ap (spelled_or moved.steps.program) h.moves ∙ ap (λ items. Ok items) (sym h.items))
reads_moved (Ok program) moves (Err (Text line cause)) h = h
reads_moved (Ok program) moves (Err (Schedule i)) h = ap (spelled_or program) h
reads_moved (Err (line, number)) moves (Err (Text l cause)) h = h
reads_moved (Err (line, number)) moves (Err (Schedule i)) h = h

-- What follows of an answer, if there is one.
pub ok_such : {X E : Type 0} (holds follows : X → Type 0) (r : Result X E) → ((x : X) → holds x → follows x) → IfOk r holds → IfOk r follows
ok_such holds follows (Ok x) by h = by x h
ok_such holds follows (Err e) by h = tt
