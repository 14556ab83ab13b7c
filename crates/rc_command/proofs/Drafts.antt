-- What is said of logs from which a model is drafted.
use Rattle.std.proofs.Common.{◌≡◌, ℕ, ◌+◌, ◌<◌, List, [], ◌∷◌, ◌++◌, length, take, Bool, true, false, Option, None, Result, Ok, Err, refl, sym, ap, subst, ◌∙◌, get_or, inl, inr}
use Rattle.std.proofs.lemmas.List.{map-append, take_more}
use Rattle.std.proofs.lemmas.List.Elements.{All-cons, All-head, All-map, All-nil, All-push, All-same, All-tail}
use Rattle.std.specs.Borrow.{Bor}
use Rattle.std.specs.Global.{Vec}
use Rattle.std.specs.Prelude.{All, IfOk, map, max}
use Rattle.serde_json.specs.View.{items_of}
use Rattle.serde_json.specs.Written.{has_float, items_have_float}
use Rattle.rc_lang.specs.Program.{Program}
use Rattle.rc_read.specs.Answer.{answer_of}
use Rattle.rc_report.specs.declared.verdict.Verdict.{Verdict}
use Rattle.rc_report.specs.declared.verdict.Verdict.TheVariants.{Accepted, Refused, Unreadable}
use Rattle.rc_report.specs.Checks.{GivesVerdict}
use Rattle.rc_report.specs.Verdicts.{finding, finding_object}
use Rattle.rc_console.specs.declared.command.Drafting.{Drafting}
use Rattle.rc_console.specs.declared.files.Unread.{Unread}
use Rattle.rc_console.specs.Files.{Said, greatest}
use Rattle.rc_console.proofs.FileAnswers.{greatest_more}
use Rattle.rc_command.specs.declared.departures.answer.Answer.{Answer}
use Rattle.rc_command.specs.declared.drafting.outcome.LogEnd.{LogEnd}
use Rattle.rc_command.specs.declared.drafting.outcome.Outcome.{Outcome}
use Rattle.rc_command.specs.declared.drafting.outcome.Outcome.TheVariants as outcome
use Rattle.rc_command.specs.declared.drafting.outcome.RecordedLog.{RecordedLog}
use Rattle.rc_command.specs.Following.{HasSaid}
use Rattle.rc_command.proofs.Objects.{ending_has_no_float}
use Rattle.rc_command.specs.Drafting.{AreEnds, AreRecorded, AreUntried, IsRefusedSaid, IsUnrecorded, IsUntried, MoreEnds, MoreRecorded, SaysDraft, SaysForm, SaysOfText, SaysTried, draft_object, end_names, end_object, is_read, note_string, notes_object, notes_said, outcome_object, outcome_of, recorded_names, status_of_outcome, statuses, texts_of}

-- ---- no log yet, and one log more

pub recorded_none : (names : List (Bor (List ℕ))) (logs : List RecordedLog) → logs ≡ [] → AreRecorded (texts_of (take 0 names)) logs
recorded_none names logs none = (ap recorded_names none, All-same (λ (l : RecordedLog). IsUntried l.outcome) logs [] none (All-nil (λ (l : RecordedLog). IsUntried l.outcome)))

pub ends_none : (is : List ℕ → Outcome → Type 0) (logs : List RecordedLog) (ends : List LogEnd) → ends ≡ [] → AreEnds is (recorded_names (take 0 logs)) ends
ends_none is logs ends none = (ap end_names none, All-same (λ (e : LogEnd). is e.log.now.name.now (outcome_of e)) ends [] none (All-nil (λ (e : LogEnd). is e.log.now.name.now (outcome_of e))))

pub untried_none : (logs : List RecordedLog) (ends : List LogEnd) → ends ≡ [] → AreUntried (take 0 logs) ends
untried_none logs ends none = (ap end_names none, ap (map outcome_of) none)

-- It was recorded.
pub recorded_more : (names : List (Bor (List ℕ))) (i : ℕ) (d : Bor (List ℕ)) (old new : List RecordedLog) → i < length names → AreRecorded (texts_of (take i names)) old →
    MoreRecorded (get_or names i d).now old new → AreRecorded (texts_of (take (i + 1) names)) new
recorded_more names i d old new lt (named, all) (log, is, name, untried) = (
  ap recorded_names is ∙ map-append (λ (l : RecordedLog). l.name.now) old (log ∷ []) ∙ ap (λ ns. ns ++ log.name.now ∷ []) named ∙ ap (λ n. texts_of (take i names) ++ n ∷ []) name
      ∙ sym (ap texts_of (take_more names i d lt) ∙ map-append (λ (n : Bor (List ℕ)). n.now) (take i names) (get_or names i d ∷ [])),
  All-same (λ (l : RecordedLog). IsUntried l.outcome) new (old ++ log ∷ []) is (All-push (λ (l : RecordedLog). IsUntried l.outcome) old log all untried),
)

-- It ended so.
pub ends_more : (is : List ℕ → Outcome → Type 0) (logs : List RecordedLog) (i : ℕ) (d : RecordedLog) (old new : List LogEnd) → i < length logs → AreEnds is (recorded_names (take i logs)) old →
    MoreEnds is (get_or logs i d).name.now old new → AreEnds is (recorded_names (take (i + 1) logs)) new
ends_more is logs i d old new lt (named, all) (end, more, name, ended) = (
  ap end_names more ∙ map-append (λ (e : LogEnd). e.log.now.name.now) old (end ∷ []) ∙ ap (λ ns. ns ++ end.log.now.name.now ∷ []) named ∙ ap (λ n. recorded_names (take i logs) ++ n ∷ []) name
      ∙ sym (ap recorded_names (take_more logs i d lt) ∙ map-append (λ (l : RecordedLog). l.name.now) (take i logs) (get_or logs i d ∷ [])),
  All-same (λ (e : LogEnd). is e.log.now.name.now (outcome_of e)) new (old ++ end ∷ []) more
      (All-push (λ (e : LogEnd). is e.log.now.name.now (outcome_of e)) old end all (subst (λ n. is n (outcome_of end)) (sym name) ended)),
)

-- It isn't held to a program.
pub untried_more : (logs : List RecordedLog) (i : ℕ) (d : RecordedLog) (old new : List LogEnd) (end : LogEnd) → i < length logs → AreUntried (take i logs) old → new ≡ old ++ end ∷ [] →
    end.log.now.name.now ≡ (get_or logs i d).name.now → outcome_of end ≡ (get_or logs i d).outcome → AreUntried (take (i + 1) logs) new
untried_more logs i d old new end lt (named, all) more name ended = (
  ap end_names more ∙ map-append (λ (e : LogEnd). e.log.now.name.now) old (end ∷ []) ∙ ap (λ ns. ns ++ end.log.now.name.now ∷ []) named ∙ ap (λ n. recorded_names (take i logs) ++ n ∷ []) name
      ∙ sym (ap recorded_names (take_more logs i d lt) ∙ map-append (λ (l : RecordedLog). l.name.now) (take i logs) (get_or logs i d ∷ [])),
  ap (map outcome_of) more ∙ map-append outcome_of old (end ∷ []) ∙ ap (λ os. os ++ outcome_of end ∷ []) all ∙ ap (λ o. map (λ (l : RecordedLog). l.outcome) (take i logs) ++ o ∷ []) ended
      ∙ sym (ap (map (λ (l : RecordedLog). l.outcome)) (take_more logs i d lt) ∙ map-append (λ (l : RecordedLog). l.outcome) (take i logs) (get_or logs i d ∷ [])),
)

-- ---- what all ends say

pub status_more : (ends : List LogEnd) (i : ℕ) (d : LogEnd) (s : ℕ) → i < length ends → s ≡ statuses (take i ends) → max s (status_of_outcome (outcome_of (get_or ends i d))) ≡ statuses (take (i + 1) ends)
status_more ends i d s lt is =
    ap (λ n. max n (status_of_outcome (outcome_of (get_or ends i d)))) is
    ∙ sym (ap statuses (take_more ends i d lt) ∙ ap greatest (map-append (λ (e : LogEnd). status_of_outcome (outcome_of e)) (take i ends) (get_or ends i d ∷ []))
    ∙ greatest_more (map (λ (e : LogEnd). status_of_outcome (outcome_of e)) (take i ends)) (status_of_outcome (outcome_of (get_or ends i d))))

-- ---- outcomes of logs that aren't held to a program

unmapped : {X Y : Type 0} (P : Y → Type 0) (f : X → Y) (xs : List X) → All P (map f xs) → All (λ x. P (f x)) xs
unmapped P f [] h = All-nil (λ x. P (f x))
unmapped P f (x ∷ xs) h = All-cons (λ x. P (f x)) x xs (All-head P (f x) (map f xs) h) (unmapped P f xs (All-tail P (f x) (map f xs) h))

of_outcomes : (is : Outcome → Type 0) (names : List (List ℕ)) (logs : List RecordedLog) (ends : List LogEnd) → recorded_names logs ≡ names → All (λ (l : RecordedLog). is l.outcome) logs → AreUntried logs ends →
    AreEnds (λ name. is) names ends
of_outcomes is names logs ends named all (same, outcomes) =
    (same ∙ named, unmapped is outcome_of ends (All-same is (map outcome_of ends) (map (λ (l : RecordedLog). l.outcome) logs) outcomes (All-map is (λ (l : RecordedLog). l.outcome) logs all)))

both : (names : List (List ℕ)) (logs : List RecordedLog) → All (λ (l : RecordedLog). IsUntried l.outcome) logs → All (λ (l : RecordedLog). is_read l.outcome ≡ false) logs → All (λ (l : RecordedLog). IsUnrecorded l.outcome) logs
both names logs untried unread k d lt = (untried k d lt, unread k d lt)

-- ---- answers

said_as : {E : Type 0} (says others : Said → Type 0) (r : Result Answer E) → ((said : Said) → says said → others said) → IfOk r (HasSaid says) → IfOk r (HasSaid others)
said_as says others (Ok answer) by h = by (record { status = answer.status; text = answer.written.items; told = answer.reported.items }) h
said_as says others (Err e) by h = tt

module _ {E : Type 0} (opens : List ℕ → Result (Option (List ℕ)) Unread → Type 0) (asked : Drafting) (logs : List RecordedLog) (r : Result Answer E) where
  of_form : (notes : Bool) (said : Said) → asked.notes ≡ notes → SaysForm opens notes asked.json (texts_of asked.logs.items) said → SaysDraft opens asked said
  of_form notes said is h = subst (λ (b : Bool). SaysForm opens b asked.json (texts_of asked.logs.items) said) (sym is) h

  -- No log was read.
  pub of_none : AreRecorded (texts_of asked.logs.items) logs → All (λ (l : RecordedLog). is_read l.outcome ≡ false) logs →
      IfOk r (HasSaid (λ said. (ends : List LogEnd) × AreUntried logs ends × (said ≡ notes_said asked.json [] ends))) → IfOk r (HasSaid (SaysDraft opens asked))
  of_none (named, all) unread h =
      said_as (λ said. (ends : List LogEnd) × AreUntried logs ends × (said ≡ notes_said asked.json [] ends)) (SaysDraft opens asked) r (λ said says. by asked.notes refl said says) h
    where
      by : (notes : Bool) → asked.notes ≡ notes → (said : Said) → (ends : List LogEnd) × AreUntried logs ends × (said ≡ notes_said asked.json [] ends) → SaysDraft opens asked said
      by true is said (ends, untried, says) = of_form true said is ([], ends, of_outcomes IsUntried _ logs ends named all untried, says)
      by false is said (ends, untried, says) = of_form false said is (inl (ends, of_outcomes IsUnrecorded _ logs ends named (both (texts_of asked.logs.items) logs all unread) untried, says))

  -- The notes are printed alone.
  pub of_notes : (notes : List (Vec ℕ)) → asked.notes ≡ true → AreRecorded (texts_of asked.logs.items) logs →
      IfOk r (HasSaid (λ said. (ends : List LogEnd) × AreUntried logs ends × (said ≡ notes_said asked.json notes ends))) → IfOk r (HasSaid (SaysDraft opens asked))
  of_notes notes is (named, all) h =
      said_as (λ said. (ends : List LogEnd) × AreUntried logs ends × (said ≡ notes_said asked.json notes ends)) (SaysDraft opens asked) r
      (λ said says. of_form true said is (notes, says.0, of_outcomes IsUntried _ logs says.0 named all says.1, says.2)) h

  -- A draft is printed.
  pub of_draft : (text : List ℕ) (notes : List (Vec ℕ)) → asked.notes ≡ false → AreRecorded (texts_of asked.logs.items) logs →
      IfOk r (HasSaid (SaysOfText opens asked.json (recorded_names logs) text notes)) → IfOk r (HasSaid (SaysDraft opens asked))
  of_draft text notes is (named, all) h =
      said_as (SaysOfText opens asked.json (recorded_names logs) text notes) (SaysDraft opens asked) r
      (λ said says. of_form false said is (inr (text, notes, subst (λ names. SaysOfText opens asked.json names text notes said) named says))) h

module _ {E : Type 0} (opens : List ℕ → Result (Option (List ℕ)) Unread → Type 0) (json : Bool) (logs : List RecordedLog) (text : List ℕ) (notes : List (Vec ℕ)) (r : Result Answer E) where
  -- The draft is accepted.
  pub of_accepted : (program : Program) → GivesVerdict (answer_of text) (Ok program) → IfOk r (HasSaid (SaysTried opens json program (recorded_names logs) text notes)) →
      IfOk r (HasSaid (SaysOfText opens json (recorded_names logs) text notes))
  of_accepted program given h = said_as (SaysTried opens json program (recorded_names logs) text notes) (SaysOfText opens json (recorded_names logs) text notes) r (λ said says. inl (program, given, says)) h

  -- It isn't.
  pub of_refused : (verdict : Verdict) → GivesVerdict (answer_of text) (Err verdict) → All (λ (l : RecordedLog). IsUntried l.outcome) logs →
      IfOk r (HasSaid (λ said. (ends : List LogEnd) × AreUntried logs ends × IsRefusedSaid json text notes verdict ends said)) → IfOk r (HasSaid (SaysOfText opens json (recorded_names logs) text notes))
  of_refused verdict given all h =
      said_as (λ said. (ends : List LogEnd) × AreUntried logs ends × IsRefusedSaid json text notes verdict ends said) (SaysOfText opens json (recorded_names logs) text notes) r
      (λ said says. inr (verdict, says.0, given, of_outcomes IsUntried (recorded_names logs) logs says.0 refl all says.1, says.2)) h

-- ---- what is printed as JSON has whole numbers alone

outcome_has_no_float : (log : List ℕ) (o : Outcome) → has_float (outcome_object log o) ≡ false
outcome_has_no_float log outcome.Read = refl
outcome_has_no_float log (outcome.Ended ending) = ending_has_no_float log ending
outcome_has_no_float log (outcome.Unread why) = refl

ends_have_no_float : (ends : List LogEnd) → items_have_float (items_of (map end_object ends)) ≡ false
ends_have_no_float [] = refl
ends_have_no_float (end ∷ ends) = rw (outcome_has_no_float end.log.now.name.now (outcome_of end)) (ends_have_no_float ends)

notes_have_no_float : (notes : List (Vec ℕ)) → items_have_float (items_of (map note_string notes)) ≡ false
notes_have_no_float [] = refl
notes_have_no_float (note ∷ notes) = notes_have_no_float notes

verdict_has_no_float : (verdict : Verdict) → has_float (finding_object None (finding verdict)) ≡ false
verdict_has_no_float Accepted = refl
verdict_has_no_float (Refused r) = refl
verdict_has_no_float (Unreadable line cause) = refl

pub draft_has_no_float : (text : List ℕ) (notes : List (Vec ℕ)) (verdict : Verdict) (ends : List LogEnd) → has_float (draft_object text notes verdict ends) ≡ false
draft_has_no_float text notes verdict ends = rw (ends_have_no_float ends, notes_have_no_float notes, verdict_has_no_float verdict) refl

pub notes_has_no_float : (notes : List (Vec ℕ)) (ends : List LogEnd) → has_float (notes_object notes ends) ≡ false
notes_has_no_float notes ends = rw (ends_have_no_float ends, notes_have_no_float notes) refl
