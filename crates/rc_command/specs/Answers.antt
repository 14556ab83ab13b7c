-- What the program answers: of each command the exit status, and what it writes.
use Rattle.std.specs.Global.{Vec}
use Rattle.std.specs.Prelude.{ℕ, ℤ, ◌≡◌, ◌+◌, ◌≤ℤ◌, if◌then◌else◌, pos, negsuc, ◌⊎◌, Bool, true, false, List, [], ◌++◌, Option, Some, None, Result, Ok, Err, string_bytes}
use Rattle.rc_lang.specs.Program.{Program}
use Rattle.rc_read.specs.Answer.{answer_of}
use Rattle.rc_world.specs.declared.event.Event.{Event}
use Rattle.rc_world.specs.Trace.{Trace}
use Rattle.rc_run.specs.declared.report.RunFault.TheVariants as fault
use Rattle.rc_run.specs.declared.report.RunReport.{RunReport}
use Rattle.rc_run.specs.Reports.{Tells}
use Rattle.rc_report.specs.declared.engine_fault.EngineFault.TheVariants.{Read, Write, OutOfMemory}
use Rattle.rc_report.specs.declared.script.Script.{Script}
use Rattle.rc_report.specs.declared.script.Stepping.{Stepping}
use Rattle.rc_report.specs.declared.step_engine.StepEnd.{StepEnd}
use Rattle.rc_report.specs.declared.trace.End.{End}
use Rattle.rc_report.specs.declared.trace.End.TheVariants as end
use Rattle.rc_report.specs.declared.verdict.Verdict.{Verdict}
use Rattle.rc_report.specs.declared.verdict.Verdict.TheVariants.{Unreadable}
use Rattle.rc_report.specs.Checks.{GivesVerdict, TellsVerdict}
use Rattle.rc_report.specs.Files.{printed}
use Rattle.rc_report.specs.Statuses.{status_of_end, status_of_step, status_of_verdict}
use Rattle.rc_report.specs.Streams.{Given, OfBytes, Taken}
use Rattle.rc_report.specs.Traces.{trace_text}
use Rattle.rc_console.specs.declared.command.Command.{Command}
use Rattle.rc_console.specs.declared.command.FoundAs.{FoundAs}
use Rattle.rc_console.specs.declared.command.Searching.{Searching}
use Rattle.rc_console.specs.declared.command.FoundAs.TheVariants as form
use Rattle.rc_console.specs.declared.command.Command.TheVariants.{Check, Explain, Keeps, Step, Find, Run, Emit, Follow, Draft, Format, Serve, Show}
use Rattle.rc_console.specs.declared.fault.CommandFault.{CommandFault}
use Rattle.rc_console.specs.declared.fault.CommandFault.TheVariants.{Words, Engine, NoEnd, OtherProgram}
use Rattle.rc_console.specs.declared.files.Unread.{Unread}
use Rattle.rc_console.specs.Answers.{Does, SaysVerdict}
use Rattle.rc_console.specs.Files.{Said, SaysFile}
use Rattle.rc_console.specs.Inputs.{ReadsOnce}
use Rattle.rc_explain.specs.Explains.{Explains}
use Rattle.rc_rewrite.specs.LaidOut.{IsLaidOut}
use Rattle.rc_rewrite.specs.declared.keeps.UnreadLine.{UnreadLine}
use Rattle.rc_rewrite.specs.Keeps.{GivesKept}
use Rattle.rc_runs.specs.declared.find.Found.{Found}
use Rattle.rc_runs.specs.declared.stuck.StuckFound.{StuckFound}
use Rattle.rc_runs.specs.Finds.{IsFound, found_json, found_text}
use Rattle.rc_runs.specs.FindsStuck.{IsStuckJson, IsStuckText, has_run}
use Rattle.rc_runs.specs.StuckRuns.{IsStuckFound}
use Rattle.rc_runs.specs.Scripts.{EndsScript, script_text}
use Rattle.rc_runs.specs.Stepping.{OfShown}

-- ---- what each command says of the bytes of a model, which may be that of a file: the status, and the text that is written

-- The status is that of the end to which the program is stepped, and this text of its trace is written, or the verdict.
abbrev pub SaysScript : Option (List ℕ) → (Program → Trace → List ℕ) → Result Program (ℕ × ℕ) → Script → ℕ → List ℕ → Type 0
SaysScript file traced answer script status text =
    (end : StepEnd) × EndsScript answer script end × (text ≡ script_text file traced answer script) × (status ≡ status_of_step end)

-- With `--state` some text follows the trace, and with `--svg` some text is in its place.
abbrev pub SaysSteps : Option (List ℕ) → List ℕ → Stepping → ℕ → List ℕ → Type 0
SaysSteps file bytes s status text = OfShown s.show (λ traced. SaysScript file traced (answer_of bytes) s.script status text)

-- What was found is written in words or as JSON. What a picture shows no contract says.
abbrev pub IsShownAs : Option (List ℕ) → FoundAs → Found → List ℕ → Type 0
IsShownAs file form.Words f text = text ≡ found_text file f
IsShownAs file form.Json f text = text ≡ found_json file f
IsShownAs file form.Picture f text = Unit {0}

-- The verdict on the bytes, and what so many walks found in them.
abbrev pub Finds : Option (List ℕ) → List ℕ → Searching → Verdict → List ℕ → Type 0
Finds file bytes asked verdict text =
    (f : Found) × IsFound (answer_of bytes) asked.walks f × (verdict ≡ f.verdict) × IsShownAs file asked.form f text

-- The same of runs into a stuck world.
abbrev pub IsStuckShownAs : Option (List ℕ) → FoundAs → StuckFound → List ℕ → Type 0
IsStuckShownAs file form.Words f text = IsStuckText file f text
IsStuckShownAs file form.Json f text = IsStuckJson file f text
IsStuckShownAs file form.Picture f text = Unit {0}

-- The status is 1 where one was found, else that of the verdict.
abbrev pub status_of_stuck : StuckFound → ℕ
status_of_stuck f = if has_run f then 1 else status_of_verdict f.verdict

abbrev pub FindsStuck : Option (List ℕ) → List ℕ → Searching → ℕ → List ℕ → Type 0
FindsStuck file bytes asked status text =
    (f : StuckFound) × IsStuckFound (answer_of bytes) asked.walks f × IsStuckShownAs file asked.form f text × (status ≡ status_of_stuck f)

abbrev pub SaysSearchOf : Bool → Option (List ℕ) → List ℕ → Searching → ℕ → List ℕ → Type 0
SaysSearchOf true file bytes asked status text = FindsStuck file bytes asked status text
SaysSearchOf false file bytes asked status text = SaysVerdict (Finds file bytes asked) status text

abbrev pub SaysSearch : Option (List ℕ) → List ℕ → Searching → ℕ → List ℕ → Type 0
SaysSearch file bytes asked status text = SaysSearchOf asked.stuck file bytes asked status text

-- The disk gives any result that a request may have.
abbrev pub DiskGives : ℕ → ℤ → Type 0
DiskGives user_data res = (negsuc 4094 ≤ℤ res) × (res ≤ℤ pos 4096)

-- A run with this report ended so.
abbrev pub EndsRun : Program → ℕ → RunReport → End → Type 0
EndsRun program limit report (end.Fault f) = ⊥
EndsRun program limit report (end.NotEnabled i) = ⊥
EndsRun program limit report end.Ended = Tells DiskGives program limit (Ok report)
EndsRun program limit report end.Stopped = ⊥
EndsRun program limit report end.Limit = Tells DiskGives program limit (Err (fault.Limit report))
EndsRun program limit report end.Memory = Tells DiskGives program limit (Err (fault.OutOfMemory report))

-- What is written of a run is its trace. Of a summary no contract says more.
abbrev pub TellsRun : Bool → Program → List Event → End → List ℕ → Type 0
TellsRun true program events end text = Unit {0}
TellsRun false program events end text = text ≡ trace_text program events end

-- The program ran, and what happened is written.
abbrev pub SaysRun : Program → ℕ → Bool → ℕ → List ℕ → Type 0
SaysRun program limit summary status text =
    (report : RunReport) × (end : End) × EndsRun program limit report end
    × TellsRun summary program report.history.items end text × (status ≡ status_of_end end)

-- The verdict, with the file's name if it is on the model of a file.
abbrev pub TellsWhy : Option (List ℕ) → Verdict → ℕ → List ℕ → Type 0
TellsWhy file verdict status text = (text ≡ printed file false verdict) × (status ≡ status_of_verdict verdict)

-- An accepted program is answered so; and another text with the verdict that says why it isn't one.
abbrev pub SaysAdmitted : Option (List ℕ) → List ℕ → (Program → ℕ → List ℕ → Type 0) → ℕ → List ℕ → Type 0
SaysAdmitted file bytes says status text =
    ((program : Program) × GivesVerdict (answer_of bytes) (Ok program) × says program status text)
    ⊎ ((verdict : Verdict) × GivesVerdict (answer_of bytes) (Err verdict) × TellsWhy file verdict status text)

-- A text that can be read is answered with what is kept in it, and another with its verdict.
abbrev pub SaysKept : Option (List ℕ) → List ℕ → ℕ → List ℕ → Type 0
SaysKept file bytes status text =
    ((kept : Vec ℕ) × GivesKept bytes (Ok kept) × (text ≡ kept.items) × (status ≡ 0))
    ⊎ ((unread : UnreadLine) × GivesKept bytes (Err unread) × TellsWhy file (Unreadable unread.line unread.cause) status text)

-- A text is answered with its lines laid out.
abbrev pub SaysLaidOut : List ℕ → ℕ → List ℕ → Type 0
SaysLaidOut bytes status text = IsLaidOut bytes text × (status ≡ 0)

-- The status of `check` is that of the verdict on the bytes, which is written. `--explain` writes what explains it too, and
-- `find` a run of a refused program into a fault, or of any into a stuck world, where it was found. What the C of a program
-- is no contract says. `follow` reads its text and the logs itself, and `draft` and a server read no text, so these have
-- nothing to say of one text. Files that are checked are answered apart, with their names.
abbrev pub Says : Option (List ℕ) → Command → List ℕ → ℕ → List ℕ → Type 0
Says file (Check json) bytes status text = SaysVerdict (TellsVerdict None bytes json) status text
Says file (Explain form) bytes status text = SaysVerdict (Explains bytes None form) status text
Says file Keeps bytes status text = SaysKept file bytes status text
Says file (Step stepping) bytes status text = SaysSteps file bytes stepping status text
Says file (Find asked) bytes status text = SaysSearch file bytes asked status text
Says file (Run seed limit summary) bytes status text =
    SaysAdmitted file bytes (λ program. SaysRun program limit summary) status text
Says file Emit bytes status text = SaysAdmitted file bytes (λ program status text. status ≡ 0) status text
Says file (Follow asked) bytes status text = (text ≡ []) × (status ≡ 3)
Says file (Draft asked) bytes status text = (text ≡ []) × (status ≡ 3)
Says file Format bytes status text = SaysLaidOut bytes status text
Says file Serve bytes status text = (text ≡ []) × (status ≡ 3)
Says file (Show shown) bytes status text = (text ≡ string_bytes shown) × (status ≡ 0)

-- `step` and `find` may report something besides.
abbrev pub may_report : Command → Bool
may_report (Step stepping) = true
may_report (Find asked) = true
may_report command = false

-- What is said of the bytes with what is reported.
abbrev pub SaysText : Option (List ℕ) → Command → List ℕ → Said → Type 0
SaysText file command bytes said = Says file command bytes said.status said.text × (may_report command ≡ false → said.told ≡ [])

-- ---- what a command leaves

-- Where there is no answer a failed write counts, and only that. If it is the input that can't be read, nothing is written.
abbrev pub NoAnswer : {S : Type 0} → (S → Taken) → S → S → CommandFault → Type 0
NoAnswer state old new (Words e) = ⊥
NoAnswer state old new (Engine Read) = new ≡ old
NoAnswer state old new (Engine Write) = (state new).failures ≡ (state old).failures + 1
NoAnswer state old new (Engine OutOfMemory) = (state new).failures ≡ (state old).failures
NoAnswer state old new NoEnd = new ≡ old
NoAnswer state old new OtherProgram = (state new).failures ≡ (state old).failures

-- This is said of the bytes of a source.
abbrev pub SaysOf : Given → Command → ℕ → List ℕ → Type 0
SaysOf source command status text = OfBytes source.remaining (λ bytes. Says None command bytes status text)

abbrev pub DoesWith : {S : Type 0} → Given → Command → (S → Taken) → S → S → Result ℕ CommandFault → Type 0
DoesWith source command state old new (Ok status) = Does (SaysOf source command) state old new (Ok status)
DoesWith source command state old new (Err e) = NoAnswer state old new e

-- Each command that reads does so once.
abbrev pub ReadsAsAsked : Command → Given → Given → Result ℕ CommandFault → Type 0
ReadsAsAsked (Show text) old new r = Unit {0}
ReadsAsAsked command old new r = ReadsOnce old new r

-- ---- of a file

-- A command answers what it says of the bytes of one file.
abbrev pub AsksFile : (List ℕ → Result (List ℕ) Unread → Type 0) → Command → List ℕ → Said → Type 0
AsksFile gives command name said = SaysFile gives (SaysText (Some name) command) name said

-- What is said once these notes are reported too, which come after the answer.
abbrev pub WithNotes : List ℕ → (Said → Type 0) → Said → Type 0
WithNotes notes says said = says (record { status = said.status; text = said.text; told = said.told ++ notes })
