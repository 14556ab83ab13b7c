-- What is said of logs, one after another.
use Rattle.std.proofs.Common.{◌≡◌, ℕ, ◌+◌, ◌<◌, ◌≤◌, List, [], ◌∷◌, ◌++◌, length, take, Bool, Option, Some, None, Result, Ok, Err, refl, sym, ap, subst, ◌∙◌, get_or, inl, inr}
use Rattle.std.proofs.lemmas.Grind.{flat_map-append}
use Rattle.std.proofs.lemmas.List.{append-nil, map-append, take_more}
use Rattle.std.specs.List.{flat_map}
use Rattle.std.specs.Borrow.{Bor}
use Rattle.std.specs.Global.{Vec}
use Rattle.std.specs.Io.KnownBytes.{Consumes, IsAtEnd}
use Rattle.std.specs.Prelude.{IfOk, IsErrAnd, false, true, max, map, option_copied, replicate}
use Rattle.rc_lang.specs.declared.lines.Line.{Line}
use Rattle.rc_lang.specs.Program.{Program}
use Rattle.rc_read.specs.Answer.{answer_of}
use Rattle.rc_follow.specs.Follower.{Follower}
use Rattle.rc_report.specs.declared.engine_fault.EngineFault.{EngineFault}
use Rattle.rc_report.specs.declared.engine_fault.EngineFault.TheVariants.{Read, Write, OutOfMemory}
use Rattle.rc_report.specs.declared.verdict.Verdict.{Verdict}
use Rattle.rc_report.specs.Checks.{GivesVerdict}
use Rattle.rc_report.specs.Streams.{Began, OfBytes, Taken, Wrote}
use Rattle.rc_report.proofs.Answered.{of_text}
use Rattle.rc_text.specs.Text.{Puts}
use Rattle.rc_console.specs.declared.command.Following.{Following}
use Rattle.rc_console.specs.declared.fault.CommandFault.{CommandFault}
use Rattle.rc_console.specs.declared.fault.CommandFault.TheVariants.{Words, Engine, NoEnd, OtherProgram}
use Rattle.rc_console.specs.declared.files.Unread.{Unread}
use Rattle.rc_console.specs.declared.inputs.Extent.TheVariants.{Enough}
use Rattle.rc_console.specs.Files.{IsTold, Said, greatest, together}
use Rattle.rc_console.specs.Inputs.{GivesNeeded, IsOfInput, Suffices}
use Rattle.rc_console.proofs.FileAnswers.{greatest_more}
use Rattle.rc_command.specs.declared.departures.answer.Answer.{Answer}
use Rattle.rc_command.specs.declared.departures.ending.Ending.{Ending}
use Rattle.rc_command.specs.Logs.{Reaches}
use Rattle.rc_command.specs.Unmade.{unmade, unmade_printed}
use Rattle.rc_command.proofs.Enough.{enough_answers}
use Rattle.rc_command.specs.Following.{AnswersWhole, HasSaid, IsReported, SaysAsked, SaysFollowed, SaysLog, SaysLogs, SaysModel, SaysMore, SaysSource, ending_said, is_listed, listed, said_both, said_of, verdict_said, with_unmade}

-- ---- one log

if_ok_as : {X E : Type 0} (P Q : Type 0) (r : Result X E) → (P → Q) → IfOk r (λ x. P) → IfOk r (λ x. Q)
if_ok_as P Q (Ok x) by h = by h
if_ok_as P Q (Err e) by h = tt

module _ {X E : Type 0} (opens : List ℕ → Result (Option (List ℕ)) Unread → Type 0) (json : Bool) (name : List ℕ) (old new : Follower) (a b : Answer) (r : Result X E) where
  -- It was followed up to where it ends.
  pub of_ended : (bytes : Option (List ℕ)) (ending : Ending) → opens name (Ok bytes) → Reaches old bytes new ending →
      IfOk r (λ x. said_of b ≡ said_both (said_of a) (ending_said json name ending)) → IfOk r (λ x. SaysMore (SaysLog opens json name old new) a b)
  of_ended bytes ending known reaches h = if_ok_as _ _ r (λ more. (ending_said json name ending, (Ok bytes, known, inl (ending, reaches, refl)), more)) h

  -- A read of it failed.
  pub of_failed : (bytes : Option (List ℕ)) → opens name (Ok bytes) → new.program ≡ old.program → new.reached ≡ old.reached →
      IfOk r (λ x. SaysMore (IsReported name) a b) → IfOk r (λ x. SaysMore (SaysLog opens json name old new) a b)
  of_failed bytes known program reached h = if_ok_as _ _ r (λ more. (more.0, (Ok bytes, known, inr (program, reached, more.1)), more.2)) h

  -- It can't be opened.
  pub of_closed : (unread : Unread) → opens name (Err unread) → new.program ≡ old.program → new.reached ≡ old.reached →
      IfOk r (λ x. SaysMore (IsReported name) a b) → IfOk r (λ x. SaysMore (SaysLog opens json name old new) a b)
  of_closed unread known program reached h = if_ok_as _ _ r (λ more. (more.0, (Err unread, known, (program, reached, more.1)), more.2)) h

-- ---- one log more

logs_more : {N : Type 0} (says : N → Follower → Follower → Said → Type 0) (names : List N) (each : List Said) (a b c : Follower) (name : N) (said : Said) →
    SaysLogs says names a b each → says name b c said → SaysLogs says (names ++ name ∷ []) a c (each ++ said ∷ [])
logs_more says [] [] a b c name said h k = (c, subst (λ (f : Follower). says name f c said) h k, refl)
logs_more says [] (s ∷ each) a b c name said h k = absurd h
logs_more says (n ∷ names) [] a b c name said h k = absurd h
logs_more says (n ∷ names) (s ∷ each) a b c name said h k = (h.0, h.1, logs_more says names each h.0 b c name said h.2 k)

pub said_along : (m n : ℕ) (s t u v : List ℕ) → m ≡ n → s ≡ t → u ≡ v →
    (let first : Said = record { status = m; text = s; told = u } in let next : Said = record { status = n; text = t; told = v } in first ≡ next)
said_along m n s t u v a b c = cc

together_more : (each : List Said) (said : Said) → together (each ++ said ∷ []) ≡ said_both (together each) said
together_more each said =
    said_along _ _ _ _ _ _
    (ap greatest (map-append (λ (s : Said). s.status) each (said ∷ [])) ∙ greatest_more (map (λ (s : Said). s.status) each) said.status)
    (flat_map-append (λ (s : Said). s.text) each (said ∷ []) ∙ ap (λ us. flat_map (λ (s : Said). s.text) each ++ us) (append-nil said.text))
    (flat_map-append (λ (s : Said). s.told) each (said ∷ []) ∙ ap (λ us. flat_map (λ (s : Said). s.told) each ++ us) (append-nil said.told))

-- What was said of the logs so far, and of the next one.
pub one_more : {N : Type 0} (says : N → Follower → Follower → Said → Type 0) (names : List N) (i : ℕ) (d : N) (a b c : Follower) (old new : Answer) → i < length names →
    ((each : List Said) × SaysLogs says (take i names) a b each × (said_of old ≡ together each)) → SaysMore (says (get_or names i d) b c) old new →
    (each : List Said) × SaysLogs says (take (i + 1) names) a c each × (said_of new ≡ together each)
one_more says names i d a b c old new lt (each, logs, all) (said, next, more) = (
  each ++ said ∷ [],
  subst (λ ns. SaysLogs says ns a c (each ++ said ∷ [])) (sym (take_more names i d lt)) (logs_more says (take i names) each a b c (get_or names i d) said logs next),
  more ∙ ap (λ (s : Said). said_both s said) all ∙ sym (together_more each said),
)

-- The calls that no log made aren't listed.
pub not_listed : (never json : Bool) (program : Program) (f : Follower) (a : Answer) → is_listed never (said_of a) ≡ false → said_of a ≡ with_unmade never json program f (said_of a)
not_listed never json program f a is =
    said_along _ _ _ _ _ _ refl (sym (append-nil a.written.items) ∙ ap (λ b. a.written.items ++ listed b json (unmade program f.reached)) (sym is)) refl

-- They are.
pub with_listed : {X E : Type 0} (never json : Bool) (program : Program) (f : Follower) (a b : Answer) (lines : List Line) (r : Result X E) → is_listed never (said_of a) ≡ true → lines ≡ unmade program f.reached →
    b.status ≡ a.status → b.reported.items ≡ a.reported.items → Puts a.written b.written (unmade_printed json lines) r → IfOk r (λ x. said_of b ≡ with_unmade never json program f (said_of a))
with_listed never json program f a b lines (Err e) is all status reported h = tt
with_listed never json program f a b lines (Ok x) is all status reported h =
    said_along _ _ _ _ _ _ status (h ∙ ap (λ ls. a.written.items ++ unmade_printed json ls) all ∙ ap (λ c. a.written.items ++ listed c json (unmade program f.reached)) (sym is)) reported

-- What is said of all of them, and then the calls that no log made.
pub all_said : (opens : List ℕ → Result (Option (List ℕ)) Unread → Type 0) (asked : Following) (program : Program) (start end : Follower) (made listed : Answer) → start.program ≡ program → start.reached ≡ replicate 4097 false →
    HasSaid (λ said. (each : List Said) × SaysLogs (λ (name : Bor (List ℕ)). SaysLog opens asked.json name.now) asked.logs.items start end each × (said ≡ together each)) made →
    said_of listed ≡ with_unmade asked.never asked.json program end (said_of made) → HasSaid (SaysFollowed opens asked program) listed
all_said opens asked program start end made listed is none (each, logs, all) more =
    (start, end, each, (is, none), logs, more ∙ ap (λ (s : Said). with_unmade asked.never asked.json program end s) all)

module _ {E : Type 0} (opens : List ℕ → Result (Option (List ℕ)) Unread → Type 0) (asked : Following) (bytes : List ℕ) where
  said_as : (says others : Said → Type 0) (r : Result Answer E) → ((said : Said) → says said → others said) → IfOk r (HasSaid says) → IfOk r (HasSaid others)
  said_as says others (Ok answer) by h = by (said_of answer) h
  said_as says others (Err e) by h = tt

  -- The model is accepted.
  pub of_accepted : (program : Program) (r : Result Answer E) → GivesVerdict (answer_of bytes) (Ok program) → IfOk r (HasSaid (SaysFollowed opens asked program)) → IfOk r (HasSaid (SaysModel opens asked bytes))
  of_accepted program r given h = said_as (SaysFollowed opens asked program) (SaysModel opens asked bytes) r (λ said says. inl (program, given, says)) h

  -- It isn't.
  pub of_refused : (verdict : Verdict) (r : Result Answer E) → GivesVerdict (answer_of bytes) (Err verdict) →
      IfOk r (HasSaid (λ said. said ≡ verdict_said (option_copied asked.text) asked.json verdict)) → IfOk r (HasSaid (SaysModel opens asked bytes))
  of_refused verdict r given h =
      said_as (λ said. said ≡ verdict_said (option_copied asked.text) asked.json verdict) (SaysModel opens asked bytes) r (λ said says. inr (verdict, given, says)) h

-- ---- what is left

module _ {S E : Type 0} (state : S → Taken) (old new : S) (told : E → Taken) (before after : E) where
  -- This says that.
  pub whole_as : (says others : Said → Type 0) (r : Result ℕ CommandFault) → ((said : Said) → says said → others said) → AnswersWhole says state old new told before after r → AnswersWhole others state old new told before after r
  whole_as says others (Ok status) by (said, h, is, wrote, tells) = (said, by said h, is, wrote, tells)
  whole_as says others (Err (Words e)) by h = h
  whole_as says others (Err (Engine Read)) by h = h
  whole_as says others (Err (Engine Write)) by (said, h, began, same) = (said, by said h, began, same)
  whole_as says others (Err (Engine OutOfMemory)) by h = h
  whole_as says others (Err NoEnd) by h = h
  whole_as says others (Err OtherProgram) by h = h

  -- Nothing was written before this fault.
  pub whole_nothing : (says : Said → Type 0) (fault : CommandFault) (r : Result ℕ CommandFault) → IsErrAnd r (λ y. y ≡ fault) → IsOfInput fault → new ≡ old → told after ≡ told before → AnswersWhole says state old new told before after r
  whole_nothing says fault (Ok status) is of same silent = absurd is
  whole_nothing says fault (Err y) is of same silent = subst (λ (z : CommandFault). AnswersWhole says state old new told before after (Err z)) (sym is) (by fault of)
    where
      by : (fault : CommandFault) → IsOfInput fault → AnswersWhole says state old new told before after (Err fault)
      by (Words e) of = absurd of
      by (Engine Read) of = (same, silent)
      by (Engine Write) of = absurd of
      by (Engine OutOfMemory) of = (same, silent)
      by NoEnd of = (same, silent)
      by OtherProgram of = absurd of

  -- A write of the answer failed.
  pub whole_begun : (says : Said → Type 0) (answer : Answer) (e : EngineFault) (r : Result ℕ CommandFault) → IsErrAnd r (λ y. y ≡ Engine e) → HasSaid says answer →
      (e ≡ Write) × Began (state old) (state new) answer.written.items e → told after ≡ told before → AnswersWhole says state old new told before after r
  whole_begun says answer e (Ok status) is h begun silent = absurd is
  whole_begun says answer e (Err y) is h (write, begun) silent =
      let began : Began (state old) (state new) answer.written.items Write = subst (λ (z : EngineFault). Began (state old) (state new) answer.written.items z) write begun in
      subst (λ (z : CommandFault). AnswersWhole says state old new told before after (Err z)) (sym (is ∙ ap (λ w. Engine w) write)) (said_of answer, h, began, silent)

  -- The whole answer was written, and then what is reported.
  pub whole_written : (says : Said → Type 0) (answer : Answer) (text notes : List ℕ) → HasSaid says answer → text ≡ answer.written.items → notes ≡ answer.reported.items →
      Wrote (state old) (state new) text → IsTold (told before) (told after) notes → AnswersWhole says state old new told before after (Ok answer.status)
  whole_written says answer text notes h is reported wrote tells =
      (said_of answer, h, refl, subst (λ t. Wrote (state old) (state new) t) is wrote, subst (λ t. IsTold (told before) (told after) t) reported tells)

-- ---- the model

-- What is said of enough of a model is said of all of it.
model_of_all : (opens : List ℕ → Result (Option (List ℕ)) Unread → Type 0) (asked : Following) (kept bytes : List ℕ) (said : Said) → Suffices Enough kept bytes → SaysModel opens asked kept said → SaysModel opens asked bytes said
model_of_all opens asked kept bytes said enough h = elim h [
  | inl (program, given, says) ↦ inl (program, subst (λ answer. GivesVerdict answer (Ok program)) (enough_answers kept bytes enough) given, says)
  | inr (verdict, given, says) ↦ inr (verdict, subst (λ answer. GivesVerdict answer (Err verdict)) (enough_answers kept bytes enough) given, says)
]

module _ (gives : List ℕ → Result (List ℕ) Unread → Type 0) (opens : List ℕ → Result (Option (List ℕ)) Unread → Type 0) (asked : Following) (input : Option (List ℕ)) where
  -- The model of a file was read.
  pub of_file : (file : Bor (List ℕ)) (model : List ℕ) (said : Said) → asked.text ≡ Some file → GivesNeeded (gives file.now) Enough (Ok model) → SaysModel opens asked model said → SaysAsked gives opens asked input said
  of_file file model said is (bytes, given, enough) h =
      subst (λ (o : Option (Bor (List ℕ))). SaysSource gives (option_copied o) input (SaysModel opens asked) said) (sym is) (Ok bytes, given, model_of_all opens asked model bytes said enough h)

  -- It can't be.
  pub of_unread : (file : Bor (List ℕ)) (unread : Unread) (said : Said) → asked.text ≡ Some file → gives file.now (Err unread) → IsReported file.now said → SaysAsked gives opens asked input said
  of_unread file unread said is given h =
      subst (λ (o : Option (Bor (List ℕ))). SaysSource gives (option_copied o) input (SaysModel opens asked) said) (sym is) (Err unread, given, h)

  -- The model is the input.
  pub of_input : (source left : Option (List ℕ)) (model : Vec ℕ) (said : Said) → asked.text ≡ None → source ≡ input
      → ((bytes : List ℕ) × Consumes source left bytes × IsAtEnd left × Suffices Enough model.items bytes) → SaysModel opens asked model.items said → SaysAsked gives opens asked input said
  of_input source left model said is from (bytes, consumed, end, enough) h =
      let says = of_text source left bytes (λ given. SaysModel opens asked given said) consumed end (model_of_all opens asked model.items bytes said enough h) in
      subst (λ (o : Option (Bor (List ℕ))). SaysSource gives (option_copied o) input (SaysModel opens asked) said) (sym is)
      (subst (λ known. OfBytes known (λ given. SaysModel opens asked given said)) from says)
