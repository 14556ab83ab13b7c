-- What commands say and leave.
use Rattle.std.proofs.Common.{◌≡◌, ◌≤◌, ◌++◌, ◌∙◌, inl, inr, ℕ, List, [], Bool, true, false, Option, Some, None, Result, Ok, Err, refl, sym, ap, subst, arith}
use Rattle.std.specs.Global.{Vec}
use Rattle.std.specs.Prelude.{IfOk, IsErrAnd, if◌then◌else◌}
use Rattle.rc_report.specs.declared.engine_fault.EngineFault.{EngineFault}
use Rattle.rc_report.specs.declared.engine_fault.EngineFault.TheVariants.{Read, Write, OutOfMemory}
use Rattle.rc_report.specs.declared.step_engine.StepEnd.{StepEnd}
use Rattle.rc_report.specs.declared.step_engine.StepEnd.TheVariants.{Unreadable, Schedule, Trace}
use Rattle.rc_report.specs.declared.trace.End.{End}
use Rattle.rc_report.specs.declared.trace.End.TheVariants.{Fault, NotEnabled, Ended, Stopped, Limit, Memory}
use Rattle.rc_report.specs.declared.verdict.Verdict.{Verdict}
use Rattle.rc_report.specs.declared.verdict.Verdict.TheVariants.{Accepted, Refused, Unreadable as NoProgram}
use Rattle.rc_lang.specs.Program.{Program}
use Rattle.rc_read.specs.Answer.{answer_of}
use Rattle.rc_rewrite.specs.declared.keeps.UnreadLine.{UnreadLine}
use Rattle.rc_rewrite.specs.Keeps.{GivesKept}
use Rattle.rc_report.specs.Checks.{GivesVerdict, IsVerdict}
use Rattle.rc_report.specs.Files.{printed}
use Rattle.rc_report.specs.Statuses.{status_of_end, status_of_step, status_of_verdict}
use Rattle.rc_report.specs.Streams.{Given, Taken}
use Rattle.rc_report.proofs.Answered.{of_any, of_text}
use Rattle.rc_report.proofs.Pieces.{append-[]}
use Rattle.rc_console.specs.declared.command.Command.{Command}
use Rattle.rc_console.specs.declared.command.Searching.{Searching}
use Rattle.rc_console.specs.declared.command.Command.TheVariants.{Check, Explain, Keeps, Step, Find, Run, Emit, Follow, Draft, Format, Serve, Show}
use Rattle.rc_console.specs.declared.fault.CommandFault.{CommandFault}
use Rattle.rc_console.specs.declared.fault.CommandFault.TheVariants.{Words, Engine, NoEnd, OtherProgram}
use Rattle.rc_console.specs.declared.files.Unread.{Unread}
use Rattle.rc_console.specs.declared.inputs.Extent.{Extent}
use Rattle.rc_console.specs.declared.inputs.Extent.TheVariants.{Whole, Enough}
use Rattle.rc_console.specs.Answers.{Does, Fails, SaysVerdict}
use Rattle.rc_console.specs.Files.{Said, line_told}
use Rattle.rc_console.specs.Inputs.{GivesNeeded, IsOfInput, ReadsNeeded, ReadsOnce, Suffices}
use Rattle.rc_console.specs.Words.{extent}
use Rattle.rc_console.proofs.Answers.{does_as}
use Rattle.rc_runs.proofs.Stepped.{of_some}
use Rattle.rc_command.proofs.Enough.{enough_answers}
use Rattle.rc_explain.specs.Explains.{Tells}
use Rattle.rc_runs.specs.Finds.{IsFound}
use Rattle.rc_runs.specs.declared.find.Found.{Found}
use Rattle.rc_runs.specs.declared.stuck.StuckFound.{StuckFound}
use Rattle.rc_runs.specs.FindsStuck.{has_run}
use Rattle.rc_runs.specs.StuckRuns.{IsStuckFound}
use Rattle.rc_runs.specs.Stepping.{OfShown}
use Rattle.rc_command.specs.Answers.{AsksFile, DoesWith, IsShownAs, IsStuckShownAs, NoAnswer, ReadsAsAsked, Says, SaysAdmitted, SaysKept, SaysLaidOut, SaysRun, SaysScript, SaysSearchOf, TellsWhy, WithNotes, may_report, status_of_stuck}
use Rattle.rc_command.specs.Checking.{TellsFile}
use Rattle.rc_command.specs.Commands.{Gives}
use Rattle.rc_command.specs.declared.checking.Telling.{Telling}
use Rattle.rc_command.specs.declared.checking.Telling.TheVariants.{Alone, Explained}

-- ---- statuses are 3 at most

verdict_within : (v : Verdict) (s : ℕ) → s ≡ status_of_verdict v → s ≤ 3
verdict_within Accepted s e = omega (arith, e)
verdict_within (Refused r) s e = omega (arith, e)
verdict_within (NoProgram line cause) s e = omega (arith, e)

end_within : (end : End) (s : ℕ) → s ≡ status_of_end end → s ≤ 3
end_within (Fault f) s e = omega (arith, e)
end_within (NotEnabled i) s e = omega (arith, e)
end_within Ended s e = omega (arith, e)
end_within Stopped s e = omega (arith, e)
end_within Limit s e = omega (arith, e)
end_within Memory s e = omega (arith, e)

step_within : (end : StepEnd) (s : ℕ) → s ≡ status_of_step end → s ≤ 3
step_within (Unreadable fault) s e = omega (arith, e)
step_within (Schedule i) s e = omega (arith, e)
step_within (Trace end) s e = end_within end s e

stuck_within : (yes : Bool) (v : Verdict) (s : ℕ) → s ≡ (if yes then 1 else status_of_verdict v) → s ≤ 3
stuck_within true v s e = omega (arith, e)
stuck_within false v s e = verdict_within v s e

search_within : (stuck : Bool) (file : Option (List ℕ)) (bytes : List ℕ) (asked : Searching) (s : ℕ) (text : List ℕ) → SaysSearchOf stuck file bytes asked s text → s ≤ 3
search_within true file bytes asked s text h = stuck_within (has_run h.0) h.0.verdict s h.3
search_within false file bytes asked s text h = verdict_within h.0 s h.2

pub within : (file : Option (List ℕ)) (command : Command) (bytes : List ℕ) (s : ℕ) (text : List ℕ) → Says file command bytes s text → s ≤ 3
within file (Check json) bytes s text h = verdict_within h.0 s h.2
within file (Explain form) bytes s text h = verdict_within h.0 s h.2
within file Keeps bytes s text h = elim h [
  | inl (kept, given, is, status) ↦ omega (arith, status)
  | inr (unread, given, says) ↦ verdict_within (NoProgram unread.line unread.cause) s says.1
]
within file (Step stepping) bytes s text h = of_some stepping.show (λ traced. SaysScript file traced (answer_of bytes) stepping.script s text) (s ≤ 3) (λ traced says. step_within says.0 s says.3) h
within file (Find asked) bytes s text h = search_within asked.stuck file bytes asked s text h
within file (Run seed limit summary) bytes s text h = elim h [
  | inl (program, given, run) ↦ end_within run.1 s run.4
  | inr (verdict, given, says) ↦ verdict_within verdict s says.1
]
within file Emit bytes s text h = elim h [
  | inl (program, given, status) ↦ omega (arith, status)
  | inr (verdict, given, says) ↦ verdict_within verdict s says.1
]
within file (Follow asked) bytes s text h = omega (arith, h.1)
within file (Draft asked) bytes s text h = omega (arith, h.1)
within file Format bytes s text h = omega (arith, h.1)
within file Serve bytes s text h = omega (arith, h.1)
within file (Show shown) bytes s text h = omega (arith, h.1)

pub all_within : {S : Type 0} (file : Option (List ℕ)) (command : Command) (bytes : List ℕ) (state : S → Taken) (old new : S) (r : Result ℕ CommandFault) → Does (Says file command bytes) state old new r → IfOk r (λ status. status ≤ 3)
all_within file command bytes state old new (Ok s) h = within file command bytes s h.0 h.1
all_within file command bytes state old new (Err e) h = tt

-- ---- what is written

module _ {S : Type 0} (state : S → Taken) (old new : S) (file : Option (List ℕ)) where
  -- An accepted program is answered, or the verdict on another text.
  pub does_admitted : (bytes : List ℕ) (of : Program → ℕ → List ℕ → Type 0) (program : Program) (r : Result ℕ CommandFault) → GivesVerdict (answer_of bytes) (Ok program) → Does (of program) state old new r → Does (SaysAdmitted file bytes of) state old new r
  does_admitted bytes of program r given h = does_as state old new (of program) (SaysAdmitted file bytes of) r (λ s text said. inl (program, given, said)) h

  pub does_refused : (bytes : List ℕ) (of : Program → ℕ → List ℕ → Type 0) (v : Verdict) (r : Result ℕ CommandFault) → GivesVerdict (answer_of bytes) (Err v) → Does (TellsWhy file v) state old new r → Does (SaysAdmitted file bytes of) state old new r
  does_refused bytes of v r given h = does_as state old new (TellsWhy file v) (SaysAdmitted file bytes of) r (λ s text said. inr (v, given, said)) h

  -- What is kept in a text is answered, or the verdict on one that can't be read.
  pub does_kept : (bytes : List ℕ) (kept : Vec ℕ) (r : Result ℕ CommandFault) → GivesKept bytes (Ok kept) → Does (λ s text. (s ≡ 0) × (text ≡ kept.items)) state old new r → Does (SaysKept file bytes) state old new r
  does_kept bytes kept r given h = does_as state old new (λ s text. (s ≡ 0) × (text ≡ kept.items)) (SaysKept file bytes) r (λ s text said. inl (kept, given, said.1, said.0)) h

  pub does_unread : (bytes : List ℕ) (unread : UnreadLine) (r : Result ℕ CommandFault) → GivesKept bytes (Err unread) → Does (TellsWhy file (NoProgram unread.line unread.cause)) state old new r → Does (SaysKept file bytes) state old new r
  does_unread bytes unread r given h = does_as state old new (TellsWhy file (NoProgram unread.line unread.cause)) (SaysKept file bytes) r (λ s text said. inr (unread, given, said)) h

-- ---- enough of a model

admitted_of_all : (file : Option (List ℕ)) (kept bytes : List ℕ) (of : Program → ℕ → List ℕ → Type 0) (s : ℕ) (text : List ℕ) → answer_of kept ≡ answer_of bytes → SaysAdmitted file kept of s text → SaysAdmitted file bytes of s text
admitted_of_all file kept bytes of s text same h = elim h [
  | inl (program, given, says) ↦ inl (program, subst (λ answer. GivesVerdict answer (Ok program)) same given, says)
  | inr (verdict, given, says) ↦ inr (verdict, subst (λ answer. GivesVerdict answer (Err verdict)) same given, says)
]

search_of_all : (stuck : Bool) (file : Option (List ℕ)) (asked : Searching) (kept bytes : List ℕ) (s : ℕ) (text : List ℕ) → answer_of kept ≡ answer_of bytes → SaysSearchOf stuck file kept asked s text → SaysSearchOf stuck file bytes asked s text
search_of_all true file asked kept bytes s text same h =
    subst (λ answer. (f : StuckFound) × IsStuckFound answer asked.walks f × IsStuckShownAs file asked.form f text × (s ≡ status_of_stuck f)) same h
search_of_all false file asked kept bytes s text same h =
    subst (λ answer. SaysVerdict (λ verdict told. (f : Found) × IsFound answer asked.walks f × (verdict ≡ f.verdict) × IsShownAs file asked.form f told) s text) same h

-- What is said of enough of it is said of all of it.
pub says_of_all : (file : Option (List ℕ)) (command : Command) (kept bytes : List ℕ) (s : ℕ) (text : List ℕ) → Suffices (extent command) kept bytes → Says file command kept s text → Says file command bytes s text
says_of_all file (Check json) kept bytes s text enough h = subst (λ answer. SaysVerdict (λ verdict told. IsVerdict answer verdict × (told ≡ printed None json verdict)) s text) (enough_answers kept bytes enough) h
says_of_all file (Explain form) kept bytes s text enough h = subst (λ answer. SaysVerdict (λ verdict told. IsVerdict answer verdict × Tells None form verdict told) s text) (enough_answers kept bytes enough) h
says_of_all file Keeps kept bytes s text enough h = subst (λ given. SaysKept file given s text) (sym enough) h
says_of_all file (Step stepping) kept bytes s text enough h = subst (λ answer. OfShown stepping.show (λ traced. SaysScript file traced answer stepping.script s text)) (enough_answers kept bytes enough) h
says_of_all file (Find asked) kept bytes s text enough h = search_of_all asked.stuck file asked kept bytes s text (enough_answers kept bytes enough) h
says_of_all file (Run seed limit summary) kept bytes s text enough h =
    admitted_of_all file kept bytes (λ (program : Program). SaysRun program limit summary) s text (enough_answers kept bytes enough) h
says_of_all file Emit kept bytes s text enough h = admitted_of_all file kept bytes (λ (program : Program) (status : ℕ) (told : List ℕ). status ≡ 0) s text (enough_answers kept bytes enough) h
says_of_all file (Follow asked) kept bytes s text enough h = h
says_of_all file (Draft asked) kept bytes s text enough h = h
says_of_all file Format kept bytes s text enough h = subst (λ given. SaysLaidOut given s text) (sym enough) h
says_of_all file Serve kept bytes s text enough h = h
says_of_all file (Show shown) kept bytes s text enough h = h

-- The same of a file that is checked.
pub told_of_all : (name : List ℕ) (telling : Telling) (kept bytes : List ℕ) (s : ℕ) (text : List ℕ) → Suffices Enough kept bytes → SaysVerdict (TellsFile name telling kept) s text → SaysVerdict (TellsFile name telling bytes) s text
told_of_all name (Alone json) kept bytes s text enough h = subst (λ answer. SaysVerdict (λ verdict told. IsVerdict answer verdict × (told ≡ printed (Some name) json verdict)) s text) (enough_answers kept bytes enough) h
told_of_all name (Explained form) kept bytes s text enough h = subst (λ answer. SaysVerdict (λ verdict told. IsVerdict answer verdict × Tells (Some name) form verdict told) s text) (enough_answers kept bytes enough) h

-- ---- what is read

-- What isn't written.
pub fails_as : {S : Type 0} (state : S → Taken) (old new : S) (e : CommandFault) → Fails (state old) (state new) e → NoAnswer state old new e
fails_as state old new (Words e) h = absurd h
fails_as state old new (Engine Read) h = absurd h
fails_as state old new (Engine Write) h = h
fails_as state old new (Engine OutOfMemory) h = h
fails_as state old new NoEnd h = absurd h
fails_as state old new OtherProgram h = h

module _ {S : Type 0} (state : S → Taken) (old new : S) (source : Given) where
  -- The source failed, or memory ran out.
  pub input_failed : (command : Command) (fault : CommandFault) (r : Result ℕ CommandFault) → IsErrAnd r (λ y. y ≡ fault) → IsOfInput fault → new ≡ old → DoesWith source command state old new r
  input_failed command fault (Ok s) is of same = absurd is
  input_failed command fault (Err y) is of same = subst (λ (z : CommandFault). NoAnswer state old new z) (sym is) (by fault of)
    where
      by : (fault : CommandFault) → IsOfInput fault → NoAnswer state old new fault
      by (Words e) of = absurd of
      by (Engine Read) of = same
      by (Engine Write) of = absurd of
      by (Engine OutOfMemory) of = ap (λ (s : S). (state s).failures) same
      by NoEnd of = same
      by OtherProgram of = absurd of

  -- The text was read.
  pub input_done : (command : Command) (left : Given) (text : Vec ℕ) (e : Extent) (r : Result ℕ CommandFault) → e ≡ extent command → ReadsNeeded e source left text → Does (Says None command text.items) state old new r → DoesWith source command state old new r
  input_done command left text e (Ok s) is (bytes, consumed, end, enough) (told, h, w) =
      let suffices : Suffices (extent command) text.items bytes = subst (λ x. Suffices x text.items bytes) is enough in
      (told, of_text source.remaining left.remaining bytes (λ given. Says None command given s told) consumed end (says_of_all None command text.items bytes s told suffices h), w)
  input_done command left text e (Err fault) is read h = fails_as state old new fault h

  -- A text is shown, and nothing is read.
  pub input_shown : (command : Command) (shown : List ℕ) (r : Result ℕ CommandFault) → ((bytes : List ℕ) (s : ℕ) (told : List ℕ) → (s ≡ 0) × (told ≡ shown) → Says None command bytes s told) → Does (λ s told. (s ≡ 0) × (told ≡ shown)) state old new r → DoesWith source command state old new r
  input_shown command shown (Ok s) says (told, h, w) = (told, of_any source.remaining (λ bytes. Says None command bytes s told) (λ bytes. says bytes s told h), w)
  input_shown command shown (Err fault) says h = fails_as state old new fault h

asked : (command : Command) (old new : Given) (r : Result ℕ CommandFault) → ReadsOnce old new r → ReadsAsAsked command old new r
asked (Check json) old new r h = h
asked (Explain form) old new r h = h
asked Keeps old new r h = h
asked (Step stepping) old new r h = h
asked (Find search) old new r h = h
asked (Run seed limit summary) old new r h = h
asked Emit old new r h = h
asked (Follow logs) old new r h = h
asked (Draft logs) old new r h = h
asked Format old new r h = h
asked Serve old new r h = h
asked (Show text) old new r h = tt

-- a failure of the source
failed : (X : Type 0) (old new : Given) (fault : CommandFault) → ReadsOnce {X = X} old new (Err fault) → ReadsOnce {X = ℕ} old new (Err fault)
failed X old new (Words e) h = h
failed X old new (Engine Read) h = h
failed X old new (Engine Write) h = h
failed X old new (Engine OutOfMemory) h = h
failed X old new NoEnd h = h
failed X old new OtherProgram h = h

pub source_failed : (X : Type 0) (command : Command) (old new : Given) (r : Result ℕ CommandFault) (fault : CommandFault) → IsErrAnd r (λ y. y ≡ fault) → ReadsOnce {X = X} old new (Err fault) → ReadsAsAsked command old new r
source_failed X command old new (Ok s) fault is c = absurd is
source_failed X command old new (Err y) fault is c = asked command old new (Err y) (subst (λ (z : CommandFault). ReadsOnce {X = ℕ} old new (Err z)) (sym is) (failed X old new fault c))

-- The text was read, and what followed reads nothing.
was_read : {X S : Type 0} (says : ℕ → List ℕ → Type 0) (state : S → Taken) (a b : S) (old new : Given) (x : X) (r : Result ℕ CommandFault) → ReadsOnce old new (Ok x) → Does says state a b r → ReadsOnce old new r
was_read says state a b old new x (Ok s) c h = c
was_read says state a b old new x (Err (Words e)) c h = absurd h
was_read says state a b old new x (Err (Engine Read)) c h = absurd h
was_read says state a b old new x (Err (Engine Write)) c h = c
was_read says state a b old new x (Err (Engine OutOfMemory)) c h = (c.0, omega (arith, c.1), c.2)
was_read says state a b old new x (Err NoEnd) c h = absurd h
was_read says state a b old new x (Err OtherProgram) c h = c

pub text_was_read : {X S : Type 0} (command : Command) (says : ℕ → List ℕ → Type 0) (state : S → Taken) (a b : S) (old new : Given) (x : X) (r : Result ℕ CommandFault) → ReadsOnce old new (Ok x) → Does says state a b r → ReadsAsAsked command old new r
text_was_read command says state a b old new x r c h = asked command old new r (was_read says state a b old new x r c h)

-- ---- of a file

abbrev pub told_of : List ℕ → Said
told_of told = record { status = 3; text = []; told = told }

module _ (gives : Gives) (command : Command) (name notes : List ℕ) where
  pub file_read : (kept : List ℕ) (e : Extent) (status : ℕ) (text : List ℕ) → e ≡ extent command → GivesNeeded (gives name) e (Ok kept) → (may_report command ≡ false → notes ≡ []) → Says (Some name) command kept status text →
      WithNotes notes (AsksFile gives command name) (record { status = status; text = text; told = [] })
  file_read kept e status text is (bytes, given, enough) quiet h =
      (Ok bytes, given, (says_of_all (Some name) command kept bytes status text (subst (λ x. Suffices x kept bytes) is enough) h, quiet))

  pub file_unread : (unread : Unread) (why : List ℕ) → gives name (Err unread) → notes ≡ [] → WithNotes notes (AsksFile gives command name) (told_of (line_told name why))
  file_unread unread why given none = (Err unread, given, (why, ap told_of (ap (λ n. line_told name why ++ n) none ∙ append-[] (line_told name why))))
