-- What is left of an answer, once it is written out.
use Rattle.std.proofs.Common.{◌≡◌, ◌≤◌, ◌+◌, ◌++◌, ◌∙◌, ℕ, List, [], ◌∷◌, Bool, true, false, Option, Some, None, Result, Ok, Err, refl, sym, ap, subst, arith}
use Rattle.std.proofs.lemmas.Bool.{eqb-true}
use Rattle.std.specs.Borrow.{Bor}
use Rattle.std.specs.Global.{Vec}
use Rattle.std.specs.Prelude.{◌==◌, IfOk, IsErrAnd, length, option_copied, slice_get}
use Rattle.std.specs.Io.KnownBytes.{Appends, Keeps, append_known}
use Rattle.rc_report.specs.declared.buffered.Buffered.{Buffered}
use Rattle.rc_report.specs.declared.streams.WriteSink.{WriteSink}
use Rattle.rc_report.specs.declared.engine_fault.EngineFault.TheVariants.{Read, Write, OutOfMemory}
use Rattle.rc_report.specs.Buffers.{held, kept_back}
use Rattle.rc_report.specs.Streams.{OfBytes, Taken, Wrote}
use Rattle.rc_report.proofs.Pieces.{append-[], appends_both, wrote_none}
use Rattle.rc_console.specs.declared.command.Asked.{Asked}
use Rattle.rc_console.specs.declared.command.Command.{Command}
use Rattle.rc_console.specs.declared.command.Drafting.{Drafting}
use Rattle.rc_console.specs.declared.command.Following.{Following}
use Rattle.rc_console.specs.declared.fault.CommandFault.{CommandFault}
use Rattle.rc_console.specs.declared.fault.CommandFault.TheVariants.{Words, Engine, NoEnd, OtherProgram}
use Rattle.rc_console.specs.declared.files.Unread.{Unread}
use Rattle.rc_console.specs.declared.words.WordsFault.{WordsFault}
use Rattle.rc_console.specs.Answers.{Fails}
use Rattle.rc_console.specs.Files.{Answered, AnswersAs, IsTold, Said, SaysAll, ToldSome, line_told, together}
use Rattle.rc_console.specs.Outputs.{IsWrittenOut, written_by}
use Rattle.rc_console.specs.Words.{drafting, following, is_server, with_moves}
use Rattle.rc_console.proofs.FileAnswers.{told_none}
use Rattle.rc_command.specs.Answers.{AsksFile, NoAnswer, Says, SaysText, WithNotes, may_report}
use Rattle.rc_console.specs.Faults.{is_hung_up, reason_line}
use Rattle.rc_command.specs.Commands.{Answers, Ends, Finishes, Gives, Leaves, LeavesOr, Opens, SaysChecked, SaysCommand, SaysDrafting, SaysFiles, SaysFirst, SaysFollowing, SaysInput, SaysModels, SaysMoved, SaysWith, SaysWithModel, SaysWords, Serves, TellsUnless}
use Rattle.rc_command.specs.Checking.{ChecksFile, telling_of}
use Rattle.rc_command.specs.declared.checking.Telling.{Telling}
use Rattle.rc_command.specs.Drafting.{SaysDraft}
use Rattle.rc_command.specs.Following.{AnswersWhole, SaysAsked}

-- ---- this says that

module _ {S : Type 0} (state : S → Taken) (old new : S) (before after : Taken) where
  pub leaves_as : (says others : Said → Type 0) (r : Result ℕ CommandFault) → ((said : Said) → says said → others said) → Leaves says state old new before after r → Leaves others state old new before after r
  leaves_as says others (Ok s) by (said, h, is, wrote, told) = (said, by said h, is, wrote, told)
  leaves_as says others (Err e) by h = h

pub answers_as : {S E : Type 0} (says others : Said → Type 0) (state : S → Taken) (old new : S) (told : E → Taken) (before after : E) (r : Result ℕ CommandFault) → ((said : Said) → says said → others said) →
    AnswersAs says state old new told before after r → AnswersAs others state old new told before after r
answers_as says others state old new told before after (Ok s) by (said, h, is, wrote, tells) = (said, by said h, is, wrote, tells)
answers_as says others state old new told before after (Err e) by h = h

-- Without notes all of it is said.
abbrev with_told : Said → List ℕ → Said
with_told said told = record { status = said.status; text = said.text; told = told }

pub without_notes : (says : Said → Type 0) (notes : List ℕ) → notes ≡ [] → (said : Said) → says said → WithNotes notes says said
without_notes says notes none said h = subst (λ (told : List ℕ). says (with_told said told)) (sym (ap (λ ns. said.told ++ ns) none ∙ append-[] said.told)) h

-- ---- what was kept back is written out

keeps_appends : (a b c : Option (List ℕ)) (s : List ℕ) → Appends a b s → Keeps b c → Appends a c s
keeps_appends None b c s p q = tt
keeps_appends (Some xs) None c s p q = absurd p
keeps_appends (Some xs) (Some ys) None s p q = q
keeps_appends (Some xs) (Some ys) (Some zs) s p q = q ∙ p

told_both : (a b c : Taken) (s t : List ℕ) → IsTold a b s → IsTold b c t → IsTold a c (s ++ t)
told_both a b c s t h k =
    (omega (arith, h.0, k.0), k.1, λ zero. appends_both a.contents b.contents c.contents s t (h.2 (omega (arith, k.0, zero))) (k.2 zero))

append_none : (known : Option (List ℕ)) → append_known known [] ≡ known
append_none None = refl
append_none (Some xs) = ap (λ ys. Some ys) (append-[] xs)

module _ {O : Type 0} (contents : O → Option (List ℕ)) (old new : Buffered (WriteSink O)) where
  all_out : kept_back old ≡ [] → (held contents old).contents ≡ contents old.sink.writer
  all_out none = ap (λ ks. append_known (contents old.sink.writer) ks) none ∙ append_none (contents old.sink.writer)

  -- There is no answer.
  no_answer : (e : CommandFault) → NoAnswer (held contents) old new e → NoAnswer (written_by contents) old new e
  no_answer (Words e) h = h
  no_answer (Engine Read) h = h
  no_answer (Engine Write) h = h
  no_answer (Engine OutOfMemory) h = h
  no_answer NoEnd h = h
  no_answer OtherProgram h = h

  pub stops : (before after : Taken) (says : Said → Type 0) (e : CommandFault) (r : Result ℕ CommandFault) → IsErrAnd r (λ y. y ≡ e) → NoAnswer (held contents) old new e → ToldSome before after → Leaves says (written_by contents) old new before after r
  stops before after says e (Ok s) is h told = absurd is
  stops before after says e (Err y) is h told = subst (λ (z : CommandFault). Leaves says (written_by contents) old new before after (Err z)) (sym is) (no_answer e h, told)

module _ {O : Type 0} (contents : O → Option (List ℕ)) (old mid new : Buffered (WriteSink O)) where
  wrote_out : (text : List ℕ) → kept_back old ≡ [] → Wrote (held contents old) (held contents mid) text → IsWrittenOut contents mid new → Wrote (written_by contents old) (written_by contents new) text
  wrote_out text empty wrote out =
      let appends : Appends (held contents old).contents (held contents new).contents text = keeps_appends (held contents old).contents (held contents mid).contents (held contents new).contents text wrote.0 out.keeps in
      let from : Appends (contents old.sink.writer) (held contents new).contents text = subst (λ (known : Option (List ℕ)). Appends known (held contents new).contents text) (all_out contents old new empty) appends in
      (subst (λ (known : Option (List ℕ)). Appends (contents old.sink.writer) known text) (all_out contents new old out.whole) from, out.no_failure ∙ wrote.1)

module _ {O : Type 0} (contents : O → Option (List ℕ)) (old mid new : Buffered (WriteSink O)) (before between after : Taken) (says : Said → Type 0) where
  pub whole : (notes : List ℕ) (status : ℕ) (r : Result ℕ CommandFault) → kept_back old ≡ [] → Answered (WithNotes notes says) (held contents old) (held contents mid) before between status →
      Finishes contents status notes mid new between after r → Leaves says (written_by contents) old new before after r
  whole notes status (Ok s) empty (said, h, is, wrote, told) (same, out, noted) =
      (with_told said (said.told ++ notes), h, is ∙ sym same, wrote_out contents old mid new said.text empty wrote out, told_both before between after said.told notes told noted)
  whole notes status (Err e) empty (said, h, is, wrote, told) (write, failures, same) = (
    subst (λ (z : CommandFault). NoAnswer (written_by contents) old new z) (sym write) (failures ∙ ap (λ n. n + 1) wrote.1),
    (said.told, subst (λ (t : Taken). IsTold before t said.told) (sym same) told),
  )

  pub bound_whole : (notes : List ℕ) (status : ℕ) (r : Result ℕ CommandFault) → status ≤ 3 → Finishes contents status notes mid new between after r → IfOk r (λ s. s ≤ 3)
  bound_whole notes status (Ok s) within h = omega (arith, within, h.0)
  bound_whole notes status (Err e) within h = tt

pub not_finished : {O : Type 0} (contents : O → Option (List ℕ)) (status : ℕ) (notes : List ℕ) (old new : Buffered (WriteSink O)) (before : Taken) (e : CommandFault) (r : Result ℕ CommandFault) → IsErrAnd r (λ y. y ≡ e) → (e ≡ Engine Write) × (new.sink.failures ≡ old.sink.failures + 1) →
    Finishes contents status notes old new before before r
not_finished contents status notes old new before e (Ok s) is h = absurd is
not_finished contents status notes old new before e (Err y) is h = (is ∙ h.0, h.1, refl)

-- ---- the input

of_bytes : (known : Option (List ℕ)) (holds others : List ℕ → Type 0) → ((bytes : List ℕ) → holds bytes → others bytes) → OfBytes known holds → OfBytes known others
of_bytes None holds others by (bytes, h) = (bytes, by bytes h)
of_bytes (Some bytes) holds others by h = by bytes h

pub input_said : (input : Option (List ℕ)) (command : Command) (notes : List ℕ) (status : ℕ) (text : List ℕ) → OfBytes input (λ bytes. Says None command bytes status text) → (may_report command ≡ false → notes ≡ []) →
    WithNotes notes (SaysInput input command) (record { status = status; text = text; told = [] })
input_said input command notes status text h quiet = of_bytes input (λ bytes. Says None command bytes status text) (λ bytes. Says None command bytes status text × (may_report command ≡ false → notes ≡ [])) (λ bytes says. (says, quiet)) h

pub told_nothing_yet : (e : Taken) → e.failures ≤ 1 → ToldSome e e
told_nothing_yet e few = ([], told_none e few)

-- ---- files

module _ (gives : Gives) (command : Command) (names : List (Bor (List ℕ))) where
  pub of_checked : (telling : Telling) → telling_of command ≡ Some telling → (said : Said) → SaysAll (λ (name : Bor (List ℕ)). ChecksFile gives telling name.now) names said → SaysFiles gives command names said
  of_checked telling is said h = subst (λ (t : Option Telling). SaysChecked gives t (SaysFirst gives command names) names said) (sym is) h

  pub of_first : telling_of command ≡ None → (said : Said) → SaysFirst gives command names said → SaysFiles gives command names said
  of_first is said h = subst (λ (t : Option Telling). SaysChecked gives t (SaysFirst gives command names) names said) (sym is) h

abbrev some_or : Option (Bor (List ℕ)) → Bor (List ℕ) → Bor (List ℕ)
some_or None other = other
some_or (Some name) other = name

module _ (gives : Gives) (command : Command) where
  pub of_first_file : (names : List (Bor (List ℕ))) (name : Bor (List ℕ)) → slice_get names 0 ≡ Some name → (said : Said) → AsksFile gives command name.now said → SaysFirst gives command names said
  of_first_file [] name is said h = absurd cc
  of_first_file (first ∷ names) name is said h = subst (λ (n : Bor (List ℕ)). AsksFile gives command n.now said) (sym (ap (λ o. some_or o name) is)) h

  pub of_no_file : (names : List (Bor (List ℕ))) → slice_get names 0 ≡ None → (said : Said) → said ≡ together [] → SaysFirst gives command names said
  of_no_file [] none said h = h
  of_no_file (first ∷ names) none said h = absurd cc

-- ---- logs

pub follows_no_more : {S E : Type 0} (says : Said → Type 0) (state : S → Taken) (old new : S) (told : E → Taken) (before after : E) (e : CommandFault) → (told before).failures ≤ 1 → AnswersWhole says state old new told before after (Err e) →
    NoAnswer state old new e × ToldSome (told before) (told after)
follows_no_more says state old new told before after (Words e) few h = absurd h
follows_no_more says state old new told before after (Engine Read) few h = (h.0, subst (λ (t : Taken). ToldSome (told before) t) (sym h.1) (told_nothing_yet (told before) few))
follows_no_more says state old new told before after (Engine Write) few (said, says_it, began, same) = (began.failures, subst (λ (t : Taken). ToldSome (told before) t) (sym same) (told_nothing_yet (told before) few))
follows_no_more says state old new told before after (Engine OutOfMemory) few h = (ap (λ s. (state s).failures) h.0, subst (λ (t : Taken). ToldSome (told before) t) (sym h.1) (told_nothing_yet (told before) few))
follows_no_more says state old new told before after NoEnd few h = (h.0, subst (λ (t : Taken). ToldSome (told before) t) (sym h.1) (told_nothing_yet (told before) few))
follows_no_more says state old new told before after OtherProgram few h = absurd h

pub whole_is_answered : {S E : Type 0} (says : Said → Type 0) (state : S → Taken) (old new : S) (told : E → Taken) (before after : E) (status : ℕ) → AnswersWhole says state old new told before after (Ok status) →
    Answered (WithNotes [] says) (state old) (state new) (told before) (told after) status
whole_is_answered says state old new told before after status (said, h, is, wrote, tells) = (said, without_notes says [] refl said h, is, wrote, tells)

-- ---- which of them is asked for

module _ (gives : Gives) (opens : Opens) (input : Option (List ℕ)) (command : Command) (names : List (Bor (List ℕ))) where
  pub of_logs : (asked : Option (Bor Following)) (logs : Bor Following) → option_copied asked ≡ following command → asked ≡ Some logs → (said : Said) → SaysAsked gives opens logs.now input said → SaysWithModel gives opens input command names said
  of_logs asked logs is some said h =
      subst (λ (f : Option Following). SaysFollowing gives opens input f (SaysModels gives input command names) said) (sym (ap (λ (o : Option (Bor Following)). option_copied o) some) ∙ is) h

  pub of_models : (asked : Option (Bor Following)) → option_copied asked ≡ following command → asked ≡ None → (said : Said) → SaysModels gives input command names said → SaysWithModel gives opens input command names said
  of_models asked is none said h =
      subst (λ (f : Option Following). SaysFollowing gives opens input f (SaysModels gives input command names) said) (sym (ap (λ (o : Option (Bor Following)). option_copied o) none) ∙ is) h

  pub of_draft : (asked : Option (Bor Drafting)) (logs : Bor Drafting) → option_copied asked ≡ drafting command → asked ≡ Some logs → (said : Said) → SaysDraft opens logs.now said → SaysCommand gives opens input command names said
  of_draft asked logs is some said h =
      subst (λ (d : Option Drafting). SaysDrafting opens d (SaysWithModel gives opens input command names) said) (sym (ap (λ (o : Option (Bor Drafting)). option_copied o) some) ∙ is) h

  pub of_no_draft : (asked : Option (Bor Drafting)) → option_copied asked ≡ drafting command → asked ≡ None → (said : Said) → SaysWithModel gives opens input command names said → SaysCommand gives opens input command names said
  of_no_draft asked is none said h =
      subst (λ (d : Option Drafting). SaysDrafting opens d (SaysWithModel gives opens input command names) said) (sym (ap (λ (o : Option (Bor Drafting)). option_copied o) none) ∙ is) h

module _ (gives : Gives) (input : Option (List ℕ)) (command : Command) where
  pub of_input : (names : List (Bor (List ℕ))) → (length names == 0) ≡ true → (said : Said) → SaysInput input command said → SaysModels gives input command names said
  of_input [] none said h = h
  of_input (name ∷ names) none said h = let z : length (name ∷ names) ≡ 0 = eqb-true (length (name ∷ names)) 0 none in absurd (omega (arith, z))

  pub of_files : (names : List (Bor (List ℕ))) → (length names == 0) ≡ false → (said : Said) → SaysFiles gives command names said → SaysModels gives input command names said
  of_files [] some said h = absurd cc
  of_files (name ∷ names) some said h = h

-- ---- moves that are in a file

pub of_moves : (gives : Gives) (says : Vec ℕ → Said → Type 0) (name bytes : List ℕ) (moves : Vec ℕ) → gives name (Ok bytes) → bytes ≡ moves.items → (said : Said) → says moves said → SaysMoved gives says name said
of_moves gives says name bytes moves given is said h = (Ok bytes, given, (moves, sym is, h))

pub of_no_moves : {S : Type 0} (state : S → Taken) (old : S) (gives : Gives) (says : Vec ℕ → Said → Type 0) (name : List ℕ) (unread : Unread) (before after : Taken) (why : List ℕ) (status : ℕ) → gives name (Err unread) → status ≡ 3 → IsTold before after (line_told name why) →
    Leaves (SaysMoved gives says name) state old old before after (Ok status)
of_no_moves state old gives says name unread before after why status given is told =
    (record { status = 3; text = []; told = line_told name why }, (Err unread, given, (why, refl)), sym is, wrote_none (state old), told)

module _ {S : Type 0} (gives : Gives) (opens : Opens) (input : Option (List ℕ)) (asked : Asked) (state : S → Taken) (old new : S) (before after : Taken) (r : Result ℕ CommandFault) where
  pub with_moves_of : (name : Bor (List ℕ)) → asked.moves ≡ Some name → Leaves (SaysMoved gives (λ moves. SaysCommand gives opens input (with_moves asked.command moves) asked.files.items) name.now) state old new before after r →
      Leaves (SaysWords gives opens input asked) state old new before after r
  with_moves_of name is h = subst (λ (o : Option (Bor (List ℕ))). Leaves (SaysWith gives opens input asked.command asked.files.items (option_copied o)) state old new before after r) (sym is) h

  pub without_moves : asked.moves ≡ None → Leaves (SaysCommand gives opens input asked.command asked.files.items) state old new before after r → Leaves (SaysWords gives opens input asked) state old new before after r
  without_moves is h = subst (λ (o : Option (Bor (List ℕ))). Leaves (SaysWith gives opens input asked.command asked.files.items (option_copied o)) state old new before after r) (sym is) h

pub serves_instead : (server : Bool) (serves leaves : Type 0) → server ≡ true → serves → LeavesOr server serves leaves
serves_instead server serves leaves is h = subst (λ b. LeavesOr b serves leaves) (sym is) h

pub leaves_instead : (server : Bool) (serves leaves : Type 0) → server ≡ false → leaves → LeavesOr server serves leaves
leaves_instead server serves leaves is h = subst (λ b. LeavesOr b serves leaves) (sym is) h

-- ---- what was reported before

few_left : {S : Type 0} (says : Said → Type 0) (state : S → Taken) (old new : S) (before after : Taken) (r : Result ℕ CommandFault) → Leaves says state old new before after r → after.failures ≤ 1
few_left says state old new before after (Ok s) (said, h, is, wrote, told) = told.1
few_left says state old new before after (Err e) (h, (some, told)) = told.1

few_served : (after : Taken) (r : Result ℕ CommandFault) → Serves after r → after.failures ≤ 1
few_served after (Ok s) h = h.1
few_served after (Err e) h = h

few_either : (server : Bool) (serves leaves few : Type 0) → (serves → few) → (leaves → few) → LeavesOr server serves leaves → few
few_either true serves leaves few by_serving by_leaving h = by_serving h
few_either false serves leaves few by_serving by_leaving h = by_leaving h

pub few_after : {S : Type 0} (gives : Gives) (opens : Opens) (input : Option (List ℕ)) (asked : Result Asked WordsFault) (state : S → Taken) (old new : S) (before after : Taken) (r : Result ℕ CommandFault) → before.failures ≡ 0 → Answers gives opens input asked state old new before after r → after.failures ≤ 1
few_after gives opens input (Ok asked) state old new before after r none h = few_either (is_server asked.command) _ _ (after.failures ≤ 1) (few_served after r) (few_left _ state old new before after r) h
few_after gives opens input (Err fault) state old new before after r none (is, same, silent) = omega (arith, none, ap (λ (t : Taken). t.failures) silent)

-- ---- how the program ends

pub ends_silent : (closed : Bool) (r : Result ℕ CommandFault) (fault : CommandFault) (before : Taken) → r ≡ Err fault → is_hung_up closed fault ≡ true → Ends closed r before before 3
ends_silent closed r fault before is silent = subst (λ (x : Result ℕ CommandFault). Ends closed x before before 3) (sym is) (refl, subst (λ (b : Bool). TellsUnless b fault before before) (sym silent) refl)

pub ends_told : (closed : Bool) (r : Result ℕ CommandFault) (fault : CommandFault) (before after : Taken) (status : ℕ) → r ≡ Err fault → is_hung_up closed fault ≡ false → status ≡ 3 → IsTold before after (reason_line fault) → Ends closed r before after status
ends_told closed r fault before after status is heard three told =
    subst (λ (x : Result ℕ CommandFault). Ends closed x before after status) (sym is) (three, subst (λ (b : Bool). TellsUnless b fault before after) (sym heard) told)
