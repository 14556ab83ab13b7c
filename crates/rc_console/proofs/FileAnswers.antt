-- What is said of files, one after another.
use Rattle.std.proofs.Common.{◌≡◌, ℕ, ◌+◌, ◌<◌, ◌≤◌, List, [], ◌∷◌, ◌++◌, length, take, Result, Ok, Err, refl, sym, ap, subst, ◌∙◌, get_or, arith}
use Rattle.std.proofs.lemmas.Grind.{flat_map-append}
use Rattle.std.proofs.lemmas.List.{map-append, take_more}
use Rattle.std.specs.List.{flat_map}
use Rattle.std.specs.Prelude.{IsErrAnd, max, map}
use Rattle.rc_report.specs.Streams.{Taken}
use Rattle.rc_report.proofs.Pieces.{append-[], appends_both, appends_none, wrote_along, wrote_both, wrote_none}
use Rattle.rc_report.specs.declared.engine_fault.EngineFault.TheVariants.{Read, Write, OutOfMemory}
use Rattle.rc_console.specs.declared.fault.CommandFault.{CommandFault}
use Rattle.rc_console.specs.declared.fault.CommandFault.TheVariants.{Words, Engine, NoEnd, OtherProgram}
use Rattle.rc_console.specs.Answers.{Does, Fails}
use Rattle.rc_console.specs.Files.{Answered, AnswersAs, IsTold, Said, SaysAll, SaysEach, greatest}

-- ---- what is told on standard error

pub told_none : (e : Taken) → e.failures ≤ 1 → IsTold e e []
told_none e h = (omega arith, h, λ zero. appends_none e.contents)

told_both : (a b c : Taken) (s t : List ℕ) → IsTold a b s → IsTold b c t → IsTold a c (s ++ t)
told_both a b c s t h k =
    (omega (arith, h.0, k.0), k.1, λ zero. appends_both a.contents b.contents c.contents s t (h.2 (omega (arith, k.0, zero))) (k.2 zero))

told_along : (a b : Taken) (s t : List ℕ) → s ≡ t → IsTold a b s → IsTold a b t
told_along a b s t e h = subst (λ us. IsTold a b us) e h

-- ---- one file more

pub greatest_more : (ns : List ℕ) (n : ℕ) → greatest (ns ++ n ∷ []) ≡ max (greatest ns) n
greatest_more [] n = omega arith
greatest_more (m ∷ ns) n = ap (λ k. max m k) (greatest_more ns n) ∙ omega arith

module _ {N : Type 0} (says : N → Said → Type 0) where
  says_more : (names : List N) (each : List Said) (name : N) (said : Said) → SaysEach says names each → says name said → SaysEach says (names ++ name ∷ []) (each ++ said ∷ [])
  says_more [] [] name said h k = (k, tt)
  says_more [] (s ∷ each) name said h k = absurd h
  says_more (n ∷ names) [] name said h k = absurd h
  says_more (n ∷ names) (s ∷ each) name said h k = (h.0, says_more names each name said h.1 k)

  pub none_yet : (a e : Taken) → e.failures ≤ 1 → Answered (SaysAll says []) a a e e 0
  none_yet a e h = (record { status = 0; text = []; told = [] }, ([], tt, refl), refl, wrote_none a, told_none e h)

  pub one_more : (names : List N) (i : ℕ) (d : N) (a b c e f g : Taken) (s t u : ℕ) → i < length names → u ≡ max s t →
      Answered (SaysAll says (take i names)) a b e f s → Answered (says (get_or names i d)) b c f g t → Answered (SaysAll says (take (i + 1) names)) a c e g u
  one_more names i d a b c e f g s t u lt is (so_far, (each_so_far, says_so_far, all), status_so_far, wrote, told) (next, says_next, status_next, wrote_next, told_next) =
      let each = each_so_far ++ next ∷ [] in
      let said : SaysEach says (take (i + 1) names) each = subst (λ ns. SaysEach says ns each) (sym (take_more names i d lt)) (says_more (take i names) each_so_far (get_or names i d) next says_so_far says_next) in
      let statuses : map (λ said. said.status) each ≡ map (λ said. said.status) each_so_far ++ next.status ∷ [] = map-append (λ said. said.status) each_so_far (next ∷ []) in
      let greater : greatest (map (λ said. said.status) each) ≡ max (greatest (map (λ said. said.status) each_so_far)) next.status = ap greatest statuses ∙ greatest_more (map (λ said. said.status) each_so_far) next.status in
      let before : greatest (map (λ said. said.status) each_so_far) ≡ s = sym (ap (λ (x : Said). x.status) all) ∙ status_so_far in
      let status : greatest (map (λ said. said.status) each) ≡ u = greater ∙ ap (λ n. max n next.status) before ∙ ap (λ n. max s n) status_next ∙ sym is in
      let texts : so_far.text ++ next.text ≡ flat_map (λ said. said.text) each =
      ap (λ (x : Said). x.text ++ next.text) all ∙ ap (λ us. flat_map (λ said. said.text) each_so_far ++ us) (sym (append-[] next.text)) ∙ sym (flat_map-append (λ said. said.text) each_so_far (next ∷ [])) in
      let tells : so_far.told ++ next.told ≡ flat_map (λ said. said.told) each =
      ap (λ (x : Said). x.told ++ next.told) all ∙ ap (λ us. flat_map (λ said. said.told) each_so_far ++ us) (sym (append-[] next.told)) ∙ sym (flat_map-append (λ said. said.told) each_so_far (next ∷ [])) in (
        record { status = greatest (map (λ said. said.status) each); text = flat_map (λ said. said.text) each; told = flat_map (λ said. said.told) each },
        (each, said, refl),
        status,
        wrote_along a c _ _ texts (wrote_both a b c _ _ wrote wrote_next),
        told_along e g _ _ tells (told_both e f g _ _ told told_next),
      )

-- One of them stops.
stops_along : (a b c : Taken) (fault : CommandFault) → b.failures ≡ a.failures → Fails b c fault → Fails a c fault
stops_along a b c (Words e) same h = absurd h
stops_along a b c (Engine Read) same h = absurd h
stops_along a b c (Engine Write) same h = omega (arith, same, h)
stops_along a b c (Engine OutOfMemory) same h = omega (arith, same, h)
stops_along a b c NoEnd same h = absurd h
stops_along a b c OtherProgram same h = omega (arith, same, h)

module _ {S E : Type 0} (state : S → Taken) (told : E → Taken) where
  pub one_stops : (first next others : Said → Type 0) (a b c : S) (e f g : E) (status : ℕ) (fault : CommandFault) (r : Result ℕ CommandFault) → IsErrAnd r (λ y. y ≡ fault) →
      Answered first (state a) (state b) (told e) (told f) status → AnswersAs next state b c told f g (Err fault) → AnswersAs others state a c told e g r
  one_stops first next others a b c e f g status fault (Ok s) is so_far h = absurd is
  one_stops first next others a b c e f g status fault (Err y) is (said, says, same, wrote, before) (fails, (some, after)) =
      subst (λ (z : CommandFault). AnswersAs others state a c told e g (Err z)) (sym is) (stops_along (state a) (state b) (state c) fault wrote.1 fails, (said.told ++ some, told_both (told e) (told f) (told g) said.told some before after))

-- A text that was written is what is said, and nothing is told.
pub told_nothing : {S E : Type 0} (kind : ℕ → List ℕ → Type 0) (says : Said → Type 0) (state : S → Taken) (old new : S) (told : E → Taken) (errors : E) (r : Result ℕ CommandFault) →
    (told errors).failures ≤ 1 → ((status : ℕ) (text : List ℕ) → kind status text → says (record { status = status; text = text; told = [] })) → Does kind state old new r → AnswersAs says state old new told errors errors r
told_nothing kind says state old new told errors (Ok status) few by (text, h, wrote) =
    (record { status = status; text = text; told = [] }, by status text h, refl, wrote, told_none (told errors) few)
told_nothing kind says state old new told errors (Err e) few by h = (h, ([], told_none (told errors) few))
