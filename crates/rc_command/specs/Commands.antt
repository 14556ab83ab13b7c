-- What the program writes, reports and answers for the words that were read.
use Rattle.std.specs.Global.{Vec}
use Rattle.std.specs.Borrow.{Bor}
use Rattle.std.specs.Prelude.{ℕ, ◌≡◌, ◌+◌, ◌≤◌, Bool, true, false, List, [], ◌∷◌, Option, Some, None, Result, Ok, Err, IfOk, option_copied as named}
use Rattle.rc_report.specs.declared.engine_fault.EngineFault.TheVariants.{Write}
use Rattle.rc_report.specs.declared.buffered.Buffered.{Buffered}
use Rattle.rc_report.specs.declared.streams.WriteSink.{WriteSink}
use Rattle.rc_report.specs.Streams.{OfBytes, Taken}
use Rattle.rc_console.specs.declared.command.Asked.{Asked}
use Rattle.rc_console.specs.declared.command.Command.{Command}
use Rattle.rc_console.specs.declared.command.Drafting.{Drafting}
use Rattle.rc_console.specs.declared.command.Following.{Following}
use Rattle.rc_console.specs.declared.fault.CommandFault.{CommandFault}
use Rattle.rc_console.specs.declared.fault.CommandFault.TheVariants.{Words, Engine}
use Rattle.rc_console.specs.declared.files.Unread.{Unread}
use Rattle.rc_console.specs.declared.words.WordsFault.{WordsFault}
use Rattle.rc_console.specs.Faults.{is_hung_up, reason_line}
use Rattle.rc_console.specs.Files.{Answered, IsTold, Said, SaysAll, SaysFile, ToldSome, together}
pub use Rattle.rc_report.specs.Buffers.{kept_back}
use Rattle.rc_console.specs.Outputs.{IsWrittenOut}
pub use Rattle.rc_console.specs.Outputs.{put_out}
use Rattle.rc_console.specs.Words.{HasRanges, drafting, following, is_server, with_moves}
use Rattle.rc_command.specs.declared.checking.Telling.{Telling}
use Rattle.rc_command.specs.Answers.{AsksFile, NoAnswer, SaysText}
use Rattle.rc_command.specs.Checking.{ChecksFile, telling_of}
use Rattle.rc_command.specs.Drafting.{SaysDraft}
use Rattle.rc_command.specs.Following.{SaysAsked}

-- What reading and opening the file of a name may give.
abbrev pub Gives : Type 1
Gives = List ℕ → Result (List ℕ) Unread → Type 0

abbrev pub Opens : Type 1
Opens = List ℕ → Result (Option (List ℕ)) Unread → Type 0

-- ---- what is said

-- `check` takes several files; the others take the first.
abbrev pub SaysFirst : Gives → Command → List (Bor (List ℕ)) → Said → Type 0
SaysFirst gives command [] said = said ≡ together []
SaysFirst gives command (name ∷ names) said = AsksFile gives command name.now said

abbrev pub SaysChecked : Gives → Option Telling → (Said → Type 0) → List (Bor (List ℕ)) → Said → Type 0
SaysChecked gives None says names said = says said
SaysChecked gives (Some telling) says names said = SaysAll (λ (name : Bor (List ℕ)). ChecksFile gives telling name.now) names said

abbrev pub SaysFiles : Gives → Command → List (Bor (List ℕ)) → Said → Type 0
SaysFiles gives command names said = SaysChecked gives (telling_of command) (SaysFirst gives command names) names said

-- Without a file the model is the input.
abbrev pub SaysInput : Option (List ℕ) → Command → Said → Type 0
SaysInput input command said = OfBytes input (λ bytes. SaysText None command bytes said)

abbrev pub SaysModels : Gives → Option (List ℕ) → Command → List (Bor (List ℕ)) → Said → Type 0
SaysModels gives input command [] said = SaysInput input command said
SaysModels gives input command (name ∷ names) said = SaysFiles gives command (name ∷ names) said

-- `follow` has its model and its logs.
abbrev pub SaysFollowing : Gives → Opens → Option (List ℕ) → Option Following → (Said → Type 0) → Said → Type 0
SaysFollowing gives opens input None says said = says said
SaysFollowing gives opens input (Some asked) says said = SaysAsked gives opens asked input said

abbrev pub SaysWithModel : Gives → Opens → Option (List ℕ) → Command → List (Bor (List ℕ)) → Said → Type 0
SaysWithModel gives opens input command names said =
    SaysFollowing gives opens input (following command) (SaysModels gives input command names) said

-- `draft` has its logs, and no model.
abbrev pub SaysDrafting : Opens → Option Drafting → (Said → Type 0) → Said → Type 0
SaysDrafting opens None says said = says said
SaysDrafting opens (Some asked) says said = SaysDraft opens asked said

abbrev pub SaysCommand : Gives → Opens → Option (List ℕ) → Command → List (Bor (List ℕ)) → Said → Type 0
SaysCommand gives opens input command names said =
    SaysDrafting opens (drafting command) (SaysWithModel gives opens input command names) said

-- Moves that are in a file are read before the model.
abbrev pub SaysMoved : Gives → (Vec ℕ → Said → Type 0) → List ℕ → Said → Type 0
SaysMoved gives says name said = SaysFile gives (λ bytes said. (moves : Vec ℕ) × (moves.items ≡ bytes) × says moves said) name said

abbrev pub SaysWith : Gives → Opens → Option (List ℕ) → Command → List (Bor (List ℕ)) → Option (List ℕ) → Said → Type 0
SaysWith gives opens input command names None said = SaysCommand gives opens input command names said
SaysWith gives opens input command names (Some file) said =
    SaysMoved gives (λ moves. SaysCommand gives opens input (with_moves command moves) names) file said

abbrev pub SaysWords : Gives → Opens → Option (List ℕ) → Asked → Said → Type 0
SaysWords gives opens input asked said = SaysWith gives opens input asked.command asked.files.items (named asked.moves) said

-- ---- what is left

-- The answer is written and reported whole; or there is none, and it is known what was written.
abbrev pub Leaves : {S : Type 0} → (Said → Type 0) → (S → Taken) → S → S → Taken → Taken → Result ℕ CommandFault → Type 0
Leaves says state old new before after (Ok status) = Answered says (state old) (state new) before after status
Leaves says state old new before after (Err e) = NoAnswer state old new e × ToldSome before after

-- What was answered is written out, and then the notes are reported.
abbrev pub Finishes : {O : Type 0} → (O → Option (List ℕ)) → ℕ → List ℕ → Buffered (WriteSink O) → Buffered (WriteSink O) → Taken → Taken → Result ℕ CommandFault → Type 0
Finishes contents status notes old new before after (Ok s) = (s ≡ status) × IsWrittenOut contents old new × IsTold before after notes
Finishes contents status notes old new before after (Err e) = (e ≡ Engine Write) × (new.sink.failures ≡ old.sink.failures + 1) × (after ≡ before)

-- Of an editor that is served only the status is said.
abbrev pub Serves : Taken → Result ℕ CommandFault → Type 0
Serves after (Ok status) = (status ≤ 1) × (after.failures ≤ 1)
Serves after (Err e) = after.failures ≤ 1

abbrev pub LeavesOr : Bool → Type 0 → Type 0 → Type 0
LeavesOr true serves leaves = serves
LeavesOr false serves leaves = leaves

-- Wrong words are a fault, and nothing is written or reported then.
abbrev pub Answers : {S : Type 0} → Gives → Opens → Option (List ℕ) → Result Asked WordsFault → (S → Taken) → S → S → Taken → Taken → Result ℕ CommandFault → Type 0
Answers gives opens input (Ok asked) state old new before after r =
    LeavesOr (is_server asked.command) (Serves after r) (Leaves (SaysWords gives opens input asked) state old new before after r)
Answers gives opens input (Err fault) state old new before after r = (r ≡ Err (Words fault)) × (new ≡ old) × (after ≡ before)

-- ---- how the program ends

-- A line says why there is no answer, unless nobody reads the output any more.
abbrev pub TellsUnless : Bool → CommandFault → Taken → Taken → Type 0
TellsUnless true fault before after = after ≡ before
TellsUnless false fault before after = IsTold before after (reason_line fault)

-- The status is that of the answer. Where there is none it is 3.
abbrev pub Ends : Bool → Result ℕ CommandFault → Taken → Taken → ℕ → Type 0
Ends closed (Ok answered) before after status = (status ≡ answered) × (after ≡ before)
Ends closed (Err fault) before after status = (status ≡ 3) × TellsUnless (is_hung_up closed fault) fault before after

-- There is such an answer, and the program ends with it.
abbrev pub Runs : (Taken → Result ℕ CommandFault → Type 0) → Bool → Taken → ℕ → Type 0
Runs answers closed after status = (r : Result ℕ CommandFault) × (between : Taken) × answers between r × Ends closed r between after status

-- The same of words, as they were read: their numbers are in their ranges.
abbrev pub RunsWords : {S : Type 0} → Gives → Opens → Option (List ℕ) → (S → Taken) → S → S → Taken → Bool → Taken → ℕ → Type 0
RunsWords gives opens input state old new before closed after status =
    (asked : Result Asked WordsFault) × IfOk asked (λ a. HasRanges a.command) × Runs (Answers gives opens input asked state old new before) closed after status
