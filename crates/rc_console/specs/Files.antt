-- What the program answers of files.
use Rattle.std.specs.Global.{Vec}
use Rattle.std.specs.Prelude.{ℕ, ◌≡◌, ◌≤◌, max, List, [], ◌∷◌, ◌++◌, map, codes, Result, Ok, Err}
use Rattle.std.specs.Io.KnownBytes.{Appends}
use Rattle.std.specs.List.{flat_map}
use Rattle.rc_report.specs.Shown.{shown}
use Rattle.rc_report.specs.Streams.{Taken, Wrote}
use Rattle.rc_console.specs.declared.fault.CommandFault.{CommandFault}
use Rattle.rc_console.specs.declared.files.Unread.{Unread}
use Rattle.rc_console.specs.Answers.{Fails}

-- The bytes of a file, or why it gives none.
abbrev pub bytes_of : Result (Vec ℕ) Unread → Result (List ℕ) Unread
bytes_of (Ok text) = Ok text.items
bytes_of (Err unread) = Err unread

-- The line of standard error that says of a file, by its name as it is shown, why it has no answer.
abbrev pub line_told : List ℕ → List ℕ → List ℕ
line_told name why = codes "ringcheck: " ++ (shown name ++ (codes ": " ++ (why ++ codes "\n")))

-- What is said of a file: a status, what is written, and what is told on standard error.
pub record Said : Type 0 where
  pub status : ℕ
  pub text : List ℕ
  pub told : List ℕ

-- The status of a file without an answer is 3: nothing is written, and it is told why.
abbrev pub IsToldWhy : List ℕ → List ℕ → Said → Type 0
IsToldWhy name why said = said ≡ record { status = 3; text = []; told = line_told name why }

-- A file has an answer by its bytes, and one that can't be read has none.
abbrev pub SaysGiven : (List ℕ → Said → Type 0) → List ℕ → Result (List ℕ) Unread → Said → Type 0
SaysGiven says name (Ok bytes) said = says bytes said
SaysGiven says name (Err unread) said = (why : List ℕ) × IsToldWhy name why said

-- What is said of the file of this name, by what reading it may give.
abbrev pub SaysFile : (List ℕ → Result (List ℕ) Unread → Type 0) → (List ℕ → Said → Type 0) → List ℕ → Said → Type 0
SaysFile gives says name said = (given : Result (List ℕ) Unread) × gives name given × SaysGiven says name given said

-- Of each file something is said, in their order.
abbrev pub SaysEach : {N : Type 0} → (N → Said → Type 0) → List N → List Said → Type 0
SaysEach says [] [] = Unit {0}
SaysEach says [] (said ∷ rest) = ⊥
SaysEach says (name ∷ names) [] = ⊥
SaysEach says (name ∷ names) (said ∷ rest) = says name said × SaysEach says names rest

abbrev pub greatest : List ℕ → ℕ
greatest [] = 0
greatest (n ∷ ns) = max n (greatest ns)

-- The status of several files is the greatest of theirs, and what is said of each is written and told, in their order.
abbrev pub together : List Said → Said
together each = record { status = greatest (map (λ said. said.status) each); text = flat_map (λ said. said.text) each; told = flat_map (λ said. said.told) each }

abbrev pub SaysAll : {N : Type 0} → (N → Said → Type 0) → List N → Said → Type 0
SaysAll says names said = (each : List Said) × SaysEach says names each × (said ≡ together each)

-- This was told, where no write to standard error failed; after one that failed nothing more is told.
abbrev pub IsTold : Taken → Taken → List ℕ → Type 0
IsTold old new told = (old.failures ≤ new.failures) × (new.failures ≤ 1) × (new.failures ≡ 0 → Appends old.contents new.contents told)

-- Something was told, as of the files before a failure.
abbrev pub ToldSome : Taken → Taken → Type 0
ToldSome old new = (told : List ℕ) × IsTold old new told

-- Such an answer has this status, and was written to one sink and told on another.
abbrev pub Answered : (Said → Type 0) → Taken → Taken → Taken → Taken → ℕ → Type 0
Answered says old new before after status =
    (said : Said) × says said × (said.status ≡ status) × Wrote old new said.text × IsTold before after said.told

abbrev pub AnswersAs : {S E : Type 0} → (Said → Type 0) → (S → Taken) → S → S → (E → Taken) → E → E → Result ℕ CommandFault → Type 0
AnswersAs says state old new told before after (Ok status) = Answered says (state old) (state new) (told before) (told after) status
AnswersAs says state old new told before after (Err e) = Fails (state old) (state new) e × ToldSome (told before) (told after)
