-- What is answered of logs that are followed.
use Rattle.std.specs.Prelude.{ℕ, ◌≡◌, ◌⊎◌, ◌++◌, ◌&&◌, ◌||◌, not, nat_eq, max, Bool, true, false, List, [], ◌∷◌, replicate, Option, Some, None, Result, Ok, Err, option_copied as named}
use Rattle.std.specs.Borrow.{Bor}
use Rattle.rc_lang.specs.declared.lines.Line.{Line}
use Rattle.rc_lang.specs.Program.{Program}
use Rattle.rc_read.specs.Answer.{answer_of}
use Rattle.rc_follow.specs.Follower.{Follower}
use Rattle.rc_report.specs.declared.engine_fault.EngineFault.TheVariants.{Read, Write, OutOfMemory}
use Rattle.rc_report.specs.declared.verdict.Verdict.{Verdict}
use Rattle.rc_report.specs.Checks.{GivesVerdict}
use Rattle.rc_report.specs.Files.{printed}
use Rattle.rc_report.specs.Statuses.{status_of_verdict}
use Rattle.rc_report.specs.Streams.{Began, OfBytes, Taken}
use Rattle.rc_console.specs.declared.command.Following.{Following}
use Rattle.rc_console.specs.declared.fault.CommandFault.{CommandFault}
use Rattle.rc_console.specs.declared.fault.CommandFault.TheVariants.{Words, Engine, NoEnd, OtherProgram}
use Rattle.rc_console.specs.declared.files.Unread.{Unread}
use Rattle.rc_console.specs.Files.{Answered, IsToldWhy, Said, SaysFile, together}
use Rattle.rc_command.specs.declared.departures.answer.Answer.{Answer}
use Rattle.rc_command.specs.declared.departures.ending.Ending.{Ending}
use Rattle.rc_command.specs.Endings.{ending_printed, status_of}
use Rattle.rc_command.specs.Logs.{Reaches}
use Rattle.rc_command.specs.Unmade.{is_empty, unmade, unmade_printed}

-- What opening a log gives: its bytes, where they are known, or why it can't be opened.
abbrev pub opened : {L : Type 0} → (L → Option (List ℕ)) → Result L Unread → Result (Option (List ℕ)) Unread
opened remaining (Ok log) = Ok (remaining log)
opened remaining (Err unread) = Err unread

-- ---- one log

-- How it ends is printed, with the status of that ending.
abbrev pub ending_said : Bool → List ℕ → Ending → Said
ending_said json name ending = record { status = status_of ending; text = ending_printed json name ending; told = [] }

abbrev pub IsReported : List ℕ → Said → Type 0
IsReported name said = (why : List ℕ) × IsToldWhy name why said

-- It is held to the program up to where it ends, after the logs before it.
abbrev pub IsEnded : Bool → List ℕ → Option (List ℕ) → Follower → Follower → Said → Type 0
IsEnded json name bytes old new said = (ending : Ending) × Reaches old bytes new ending × (said ≡ ending_said json name ending)

-- It can't be read: that is reported, and nothing more is reached.
abbrev pub IsUnread : List ℕ → Follower → Follower → Said → Type 0
IsUnread name old new said = (new.program ≡ old.program) × (new.reached ≡ old.reached) × IsReported name said

-- A log that is open may still fail to be read.
abbrev pub SaysOpened : Bool → List ℕ → Result (Option (List ℕ)) Unread → Follower → Follower → Said → Type 0
SaysOpened json name (Ok bytes) old new said = IsEnded json name bytes old new said ⊎ IsUnread name old new said
SaysOpened json name (Err unread) old new said = IsUnread name old new said

-- What is said of the log of this name, by what opening it may give.
abbrev pub SaysLog : (List ℕ → Result (Option (List ℕ)) Unread → Type 0) → Bool → List ℕ → Follower → Follower → Said → Type 0
SaysLog opens json name old new said = (given : Result (Option (List ℕ)) Unread) × opens name given × SaysOpened json name given old new said

-- ---- all logs

-- Of each something is said, in their order, and each is followed after those before it.
abbrev pub SaysLogs : {N : Type 0} → (N → Follower → Follower → Said → Type 0) → List N → Follower → Follower → List Said → Type 0
SaysLogs says [] old new [] = new ≡ old
SaysLogs says [] old new (said ∷ rest) = ⊥
SaysLogs says (name ∷ names) old new [] = ⊥
SaysLogs says (name ∷ names) old new (said ∷ rest) = (next : Follower) × says name old next said × SaysLogs says names next new rest

-- The calls that no log made are listed where all are followed, and where that is asked for and how one ends is printed.
abbrev pub is_listed : Bool → Said → Bool
is_listed never said = nat_eq said.status 0 || never && not (is_empty said.text)

abbrev pub listed : Bool → Bool → List Line → List ℕ
listed true json lines = unmade_printed json lines
listed false json lines = []

-- They come after what is printed of the logs.
abbrev pub with_unmade : Bool → Bool → Program → Follower → Said → Said
with_unmade never json program f said = record said { text = said.text ++ listed (is_listed never said) json (unmade program f.reached) }

-- Nothing is reached yet.
abbrev pub IsStart : Program → Follower → Type 0
IsStart program f = (f.program ≡ program) × (f.reached ≡ replicate 4097 false)

-- What is said of the logs of an accepted program: of each in order, and then the calls that no log made; the status is the
-- greatest.
abbrev pub SaysFollowed : (List ℕ → Result (Option (List ℕ)) Unread → Type 0) → Following → Program → Said → Type 0
SaysFollowed opens asked program said =
    (start end : Follower) × (each : List Said) × IsStart program start
    × SaysLogs (λ (name : Bor (List ℕ)). SaysLog opens asked.json name.now) asked.logs.items start end each
    × (said ≡ with_unmade asked.never asked.json program end (together each))

-- ---- a model with its logs

abbrev pub verdict_said : Option (List ℕ) → Bool → Verdict → Said
verdict_said file json verdict = record { status = status_of_verdict verdict; text = printed file json verdict; told = [] }

-- The logs are followed in the program of a model that is accepted. Another model is answered with its verdict.
abbrev pub SaysModel : (List ℕ → Result (Option (List ℕ)) Unread → Type 0) → Following → List ℕ → Said → Type 0
SaysModel opens asked bytes said =
    ((program : Program) × GivesVerdict (answer_of bytes) (Ok program) × SaysFollowed opens asked program said)
    ⊎ ((verdict : Verdict) × GivesVerdict (answer_of bytes) (Err verdict) × (said ≡ verdict_said (named asked.text) asked.json verdict))

-- The model is in a file, which may be one that can't be read, or it is the bytes of the input.
abbrev pub SaysSource : (List ℕ → Result (List ℕ) Unread → Type 0) → Option (List ℕ) → Option (List ℕ) → (List ℕ → Said → Type 0) → Said → Type 0
SaysSource gives None input says said = OfBytes input (λ bytes. says bytes said)
SaysSource gives (Some file) input says said = SaysFile gives says file said

-- What is said where files give this, logs are opened so, and the input has these bytes.
abbrev pub SaysAsked : (List ℕ → Result (List ℕ) Unread → Type 0) → (List ℕ → Result (Option (List ℕ)) Unread → Type 0) → Following → Option (List ℕ) → Said → Type 0
SaysAsked gives opens asked input said = SaysSource gives (named asked.text) input (SaysModel opens asked) said

-- ---- what is left

-- The answer is written whole, and what is reported comes after it. Where a write failed, a beginning of the answer is
-- written; where memory ran out or the input can't be read, nothing; and nothing is reported then.
abbrev pub AnswersWhole : {S E : Type 0} → (Said → Type 0) → (S → Taken) → S → S → (E → Taken) → E → E → Result ℕ CommandFault → Type 0
AnswersWhole says state old new told before after (Ok status) = Answered says (state old) (state new) (told before) (told after) status
AnswersWhole says state old new told before after (Err (Words e)) = ⊥
AnswersWhole says state old new told before after (Err (Engine Read)) = (new ≡ old) × (told after ≡ told before)
AnswersWhole says state old new told before after (Err (Engine Write)) =
    (said : Said) × says said × Began (state old) (state new) said.text Write × (told after ≡ told before)
AnswersWhole says state old new told before after (Err (Engine OutOfMemory)) = (new ≡ old) × (told after ≡ told before)
AnswersWhole says state old new told before after (Err NoEnd) = (new ≡ old) × (told after ≡ told before)
AnswersWhole says state old new told before after (Err OtherProgram) = ⊥

-- ---- an answer that is made in memory

abbrev pub said_of : Answer → Said
said_of answer = record { status = answer.status; text = answer.written.items; told = answer.reported.items }

abbrev pub HasSaid : (Said → Type 0) → Answer → Type 0
HasSaid says answer = says (said_of answer)

-- one thing after another
abbrev pub said_both : Said → Said → Said
said_both first next = record { status = max first.status next.status; text = first.text ++ next.text; told = first.told ++ next.told }

-- Such a thing is said after what was said before.
abbrev pub SaysMore : (Said → Type 0) → Answer → Answer → Type 0
SaysMore says old new = (said : Said) × says said × (said_of new ≡ said_both (said_of old) said)
