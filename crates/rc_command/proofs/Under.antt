-- A log under way: its first two lines, one line more, and its end.
use Rattle.std.specs.Str.{bytes_eq}
use Rattle.std.specs.Prelude.{codes}
use Rattle.std.proofs.Common.{◌≡◌, ◌↔◌, ℕ, ◌<◌, Bool, true, false, true≢false, List, [], ◌∷◌, ◌++◌, length, Option, Some, None, Result, Ok, Err, refl, sym, ap, subst, ◌∙◌, append_assoc, append-nil, arith, inl, inr}
use Rattle.std.specs.Prelude.{IfErr, IsErrAnd}
use Rattle.rc_lang.specs.Program.{Program}
use Rattle.rc_log.specs.declared.call.Said.{Said}
use Rattle.rc_log.specs.declared.reader.LogFault.{LogFault}
use Rattle.rc_log.specs.declared.reader.LogFault.TheVariants.{TooLong, Failed, OutOfMemory}
use Rattle.rc_log.specs.Heads.{is_head}
use Rattle.rc_log.specs.Lines.{Gives, is_full, log_lines}
use Rattle.rc_log.specs.declared.reader.Next.TheVariants as next
use Rattle.rc_log.specs.Said.{said}
use Rattle.rc_follow.proofs.Followed.{followed_of as followed}
use Rattle.rc_follow.specs.Answers.{Answers, FollowsMore, is_followed}
use Rattle.rc_follow.specs.declared.follower.Answer.{Answer}
use Rattle.rc_follow.specs.declared.follower.Answer.TheVariants as answer
use Rattle.rc_follow.specs.Followed.{IsFollowed}
use Rattle.rc_follow.specs.Follower.{Follower, Follows}
use Rattle.rc_command.specs.declared.departures.ending.Ending.{Ending}
use Rattle.rc_command.specs.declared.departures.ending.Ending.TheVariants.{Followed, Stuck, Full, Departs, Unreadable, TooMany}
use Rattle.rc_runs.specs.declared.stuck_text.waits.Wait.{Wait}
use Rattle.std.specs.Global.{Vec}
use Rattle.rc_command.specs.Logs.{AreFollowed, IsFollowedSaid, IsRightly, IsSaidOf, Declares, Ends, FollowsLine, FollowsSaid, HasFollowed, HasRoom, Headed, IsBegun, IsDeclared, IsFollowedLog, IsLog, IsOther, IsRoomy, IsUnder, KeepsReached, Ringed, Say, Stops, Under}

-- ---- the first two lines

same_end : {o n : List ℕ} → o ≡ n → bytes_eq o (codes "full") ≡ bytes_eq n (codes "full")
same_end e = ap (λ v. bytes_eq v (codes "full")) e

pub ring_then : (p : Program) (old new : Option (List ℕ)) (line : List ℕ) (r : Option Ending) → Gives old new line (Ok next.Line) → IsRoomy p line r → Ringed p old new r
ring_then p old new line (Some e) g h = h
ring_then p None new line None g h = tt
ring_then p (Some o) None line None g h = absurd g
ring_then p (Some o) (Some n) line None g h = (line, g.0.0, same_end g.0.1, h)

pub head_then : (p : Program) (old mid new : Option (List ℕ)) (line : List ℕ) (r : Option Ending) → Gives old mid line (Ok next.Line) → is_head line ≡ true → Ringed p mid new r → Headed p old new r
head_then p old mid new line (Some e) g i h = h
head_then p None mid new line None g i h = tt
head_then p (Some o) None new line None g i h = absurd g
head_then p (Some o) (Some m) None line None g i h = absurd h
head_then p (Some o) (Some m) (Some n) line None g i h = (line, h.0, g.0.0 ∙ ap (λ ls. line ∷ ls) h.1, same_end g.0.1 ∙ h.2, i, h.3)

begun_with : (p : Program) (bytes left : Option (List ℕ)) (f : Follower) → Headed p bytes left None → Follows [] f → f.program ≡ p → HasFollowed p bytes left f
begun_with p None left f h s e = ([], s)
begun_with p (Some b) None f h s e = absurd h
begun_with p (Some b) (Some l) f h s e = (h.0, h.1, [], [], h.2, h.3, h.4, h.5, tt, s, e)

pub begun : (old : Follower) (bytes left : Option (List ℕ)) (f : Follower) → Headed old.program bytes left None → Follows [] f → f.program ≡ old.program → f.reached ≡ old.reached → Under old bytes left f None
begun old bytes left f h s e r = (e, r, begun_with old.program bytes left f h s e)

-- ---- where a log ends

other_ends : (p : Program) (bytes : Option (List ℕ)) (e : Ending) → IsOther e → Ends p bytes e
other_ends p None e h = tt
other_ends p (Some b) (Followed calls) h = absurd h
other_ends p (Some b) (Stuck calls waits) h = absurd h
other_ends p (Some b) (Full calls) h = absurd h
other_ends p (Some b) _ h = tt

other_made : (p : Program) (b : List ℕ) (e : Ending) (ss : List Said) → IsOther e → IsBegun p (log_lines b) ss → AreFollowed p (Some b) e ss
other_made p b (Followed calls) ss h k = absurd h
other_made p b (Stuck calls waits) ss h k = absurd h
other_made p b (Full calls) ss h k = absurd h
other_made p b _ ss h k = k

none_made : (p : Program) (bytes : Option (List ℕ)) (e : Ending) → IsOther e → AreFollowed p bytes e []
none_made p None e h = tt
none_made p (Some b) e h = other_made p b e [] h (inl refl)

pub stops_at_once : (old : Follower) (bytes : Option (List ℕ)) (f : Follower) (e : Ending) → IsOther e → Follows [] f → f.program ≡ old.program → f.reached ≡ old.reached → Stops old bytes f e
stops_at_once old bytes f e h s p r = (other_ends old.program bytes e h, p, r, [], s, none_made old.program bytes e h)

stops_with : (p : Program) (bytes left : Option (List ℕ)) (f : Follower) (e : Ending) → IsOther e → HasFollowed p bytes left f → (ss : List Said) × Follows ss f × AreFollowed p bytes e ss
stops_with p None left f e h u = (u.0, u.1, tt)
stops_with p (Some b) None f e h u = absurd u
stops_with p (Some b) (Some l) f e h u = (u.3, u.9, other_made p b e u.3 h (inr (u.0, u.1, u.2, log_lines l, u.4, u.8)))

pub under_stop : (old : Follower) (bytes left : Option (List ℕ)) (f : Follower) (e : Ending) → IsOther e → Under old bytes left f None → Stops old bytes f e
under_stop old bytes left f e h u =
    let made = stops_with old.program bytes left f e h u.2 in
    (other_ends old.program bytes e h, u.0, u.1, made.0, made.1, made.2)

-- the same where it is said that the worlds are stuck, or isn't
said_ends : (p : Program) (bytes : Option (List ℕ)) (calls : ℕ) (waits : Vec Wait) → Ends p bytes (Followed calls) ↔ Ends p bytes (Stuck calls waits)
said_ends p None calls waits = (λ h. h, λ h. h)
said_ends p (Some b) calls waits = (λ h. h, λ h. h)

said_made : (p : Program) (bytes : Option (List ℕ)) (calls : ℕ) (waits : Vec Wait) (ss : List Said) → AreFollowed p bytes (Followed calls) ss ↔ AreFollowed p bytes (Stuck calls waits) ss
said_made p None calls waits ss = (λ h. h, λ h. h)
said_made p (Some b) calls waits ss = (λ h. h, λ h. h)

stops_stuck : (old : Follower) (bytes : Option (List ℕ)) (f : Follower) (calls : ℕ) (waits : Vec Wait) → Stops old bytes f (Followed calls) → Stops old bytes f (Stuck calls waits)
stops_stuck old bytes f calls waits s = ((said_ends old.program bytes calls waits).0 s.0, s.1, s.2, s.3, s.4, (said_made old.program bytes calls waits s.3).0 s.5)

stops_followed : (old : Follower) (bytes : Option (List ℕ)) (f : Follower) (calls : ℕ) (waits : Vec Wait) → Stops old bytes f (Stuck calls waits) → Stops old bytes f (Followed calls)
stops_followed old bytes f calls waits s = ((said_ends old.program bytes calls waits).1 s.0, s.1, s.2, s.3, s.4, (said_made old.program bytes calls waits s.3).1 s.5)

followed_rightly : (old : Follower) (bytes : Option (List ℕ)) (f : Follower) (calls : ℕ) (new : Ending) → Stops old bytes f (Followed calls) → IsFollowedSaid f calls new → Stops old bytes f new × IsRightly f new
followed_rightly old bytes f calls (Followed more) s h = (subst (λ (n : ℕ). Stops old bytes f (Followed n)) h s, tt)
followed_rightly old bytes f calls (Stuck more waits) s h = (subst (λ (n : ℕ). Stops old bytes f (Stuck n waits)) h.0 (stops_stuck old bytes f calls waits s), h.1)
followed_rightly old bytes f calls (Full more) s h = absurd h
followed_rightly old bytes f calls (Departs number place says why) s h = absurd h
followed_rightly old bytes f calls (Unreadable number why) s h = absurd h
followed_rightly old bytes f calls (TooMany number) s h = absurd h

pub said_rightly : (old : Follower) (bytes : Option (List ℕ)) (f : Follower) (e new : Ending) → Stops old bytes f e → IsSaidOf f e new → Stops old bytes f new × IsRightly f new
said_rightly old bytes f (Followed calls) new s h = followed_rightly old bytes f calls new s h
said_rightly old bytes f (Stuck calls waits) new s h = followed_rightly old bytes f calls new (stops_followed old bytes f calls waits s) h
said_rightly old bytes f (Full calls) new s h = subst (λ (e : Ending). Stops old bytes f e × IsRightly f e) (sym h) (s, tt)
said_rightly old bytes f (Departs number place says why) new s h = subst (λ (e : Ending). Stops old bytes f e × IsRightly f e) (sym h) (s, tt)
said_rightly old bytes f (Unreadable number why) new s h = subst (λ (e : Ending). Stops old bytes f e × IsRightly f e) (sym h) (s, tt)
said_rightly old bytes f (TooMany number) new s h = subst (λ (e : Ending). Stops old bytes f e × IsRightly f e) (sym h) (s, tt)

-- ---- one line more

pub line_stops : (old new : Follower) (line : List ℕ) (s : Said) (a : Answer) (e : Ending) → Answers old s new a → is_followed a ≡ false → IsOther e → FollowsLine old line new (Some e)
line_stops old new line s answer.Followed e h f o = absurd (true≢false f)
line_stops old new line s _ e h f o = (o, h)

pub line_followed : (old new : Follower) (line : List ℕ) (s : Said) (a : Answer) → said old.program line ≡ Ok s → Answers old s new a → ((ss : List Said) → Follows ss old → FollowsMore ss s new a) → is_followed a ≡ true → FollowsLine old line new None
line_followed old new line s answer.Followed r h f t = inl (s, r, h.2, h.6, f)
line_followed old new line s _ r h f t = absurd (true≢false (sym t))

pub line_declares : (old : Follower) (line : List ℕ) (r : Option Ending) → IsDeclared old.program line r → FollowsLine old line old r
line_declares old line None h = inr (h, refl)
line_declares old line (Some e) h = (h, refl)

say_more : (p : Program) (lines : List (List ℕ)) (ss : List Said) (line : List ℕ) (s : Said) → Say p lines ss → said p line ≡ Ok s → Say p (lines ++ line ∷ []) (ss ++ s ∷ [])
say_more p [] [] line s h e = inl (e, tt)
say_more p [] (t ∷ ss) line s h e = absurd h
say_more p (m ∷ lines) [] line s h e = inr (h.0, say_more p lines [] line s h.1 e)
say_more p (m ∷ lines) (t ∷ ss) line s h e = elim h [
  | inl k ↦ inl (k.0, say_more p lines ss line s k.1 e)
  | inr k ↦ inr (k.0, say_more p lines (t ∷ ss) line s k.1 e)
]

say_declared : (p : Program) (lines : List (List ℕ)) (ss : List Said) (line : List ℕ) → Say p lines ss → Declares p line → Say p (lines ++ line ∷ []) ss
say_declared p [] [] line h d = (d, tt)
say_declared p [] (t ∷ ss) line h d = absurd h
say_declared p (m ∷ lines) [] line h d = (h.0, say_declared p lines [] line h.1 d)
say_declared p (m ∷ lines) (t ∷ ss) line h d = elim h [
  | inl k ↦ inl (k.0, say_declared p lines ss line k.1 d)
  | inr k ↦ inr (k.0, say_declared p lines (t ∷ ss) line k.1 d)
]

one_more : (p : Program) (b l n line : List ℕ) (f : Follower) (u : IsUnder p b l f) → log_lines l ≡ line ∷ log_lines n → log_lines b ≡ u.0 ∷ u.1 ∷ ((u.2 ++ line ∷ []) ++ log_lines n)
one_more p b l n line f u g =
    u.4 ∙ ap (λ ls. u.0 ∷ u.1 ∷ (u.2 ++ ls)) g ∙ ap (λ ls. u.0 ∷ u.1 ∷ ls) (sym (append_assoc u.2 (line ∷ []) (log_lines n)))

under_said : (p : Program) (b l n line : List ℕ) (f new : Follower) → IsUnder p b l f → log_lines l ≡ line ∷ log_lines n → is_full l ≡ is_full n → FollowsSaid f line new → IsUnder p b n new
under_said p b l n line f new u g e h = (
  u.0,
  u.1,
  u.2 ++ line ∷ [],
  u.3 ++ h.0 ∷ [],
  one_more p b l n line f u g,
  u.5 ∙ e,
  u.6,
  u.7,
  say_more p u.2 u.3 line h.0 u.8 (subst (λ (q : Program). said q line ≡ Ok h.0) u.10 h.1),
  h.4 u.3 u.9,
  h.2 ∙ u.10,
)

under_declared : (p : Program) (b l n line : List ℕ) (f : Follower) → IsUnder p b l f → log_lines l ≡ line ∷ log_lines n → is_full l ≡ is_full n → Declares f.program line → IsUnder p b n f
under_declared p b l n line f u g e d = (
  u.0,
  u.1,
  u.2 ++ line ∷ [],
  u.3,
  one_more p b l n line f u g,
  u.5 ∙ e,
  u.6,
  u.7,
  say_declared p u.2 u.3 line u.8 (subst (λ (q : Program). Declares q line) u.10 d),
  u.9,
  u.10,
)

under_more : (p : Program) (b l n line : List ℕ) (f new : Follower) → IsUnder p b l f → log_lines l ≡ line ∷ log_lines n → is_full l ≡ is_full n → FollowsLine f line new None → IsUnder p b n new
under_more p b l n line f new u g e h = elim h [
  | inl k ↦ under_said p b l n line f new u g e k
  | inr k ↦ subst (λ (x : Follower). IsUnder p b n x) (sym k.1) (under_declared p b l n line f u g e k.0)
]

-- where the bytes aren't known
some_more : (f new : Follower) (line : List ℕ) → ((ss : List Said) × Follows ss f) → FollowsLine f line new None → (ss : List Said) × Follows ss new
some_more f new line u h = elim h [
  | inl k ↦ (u.0 ++ k.0 ∷ [], k.4 u.0 u.1)
  | inr k ↦ (u.0, subst (λ (x : Follower). Follows u.0 x) (sym k.1) u.1)
]

has_more : (p : Program) (bytes left more : Option (List ℕ)) (line : List ℕ) (f new : Follower) → HasFollowed p bytes left f → Gives left more line (Ok next.Line) → FollowsLine f line new None → HasFollowed p bytes more new
has_more p None left more line f new u g h = some_more f new line u h
has_more p (Some b) None more line f new u g h = absurd u
has_more p (Some b) (Some l) None line f new u g h = absurd g
has_more p (Some b) (Some l) (Some n) line f new u g h = under_more p b l n line f new u g.0.0 (same_end g.0.1) h

kept_program : (f new : Follower) (line : List ℕ) → FollowsLine f line new None → (new.program ≡ f.program) × (new.reached ≡ f.reached)
kept_program f new line h = elim h [
  | inl k ↦ (k.2, k.3)
  | inr k ↦ (ap (λ (x : Follower). x.program) k.1, ap (λ (x : Follower). x.reached) k.1)
]

pub under_line : (old : Follower) (bytes left more : Option (List ℕ)) (line : List ℕ) (f new : Follower) (r : Option Ending) → Under old bytes left f None → Gives left more line (Ok next.Line) → FollowsLine f line new r → Under old bytes more new r
under_line old bytes left more line f new (Some e) u g h = subst (λ (x : Follower). Stops old bytes x e) (sym h.1) (under_stop old bytes left f e h.0 u)
under_line old bytes left more line f new None u g h =
    let kept = kept_program f new line h in
    (kept.0 ∙ u.0, kept.1 ∙ u.1, has_more old.program bytes left more line f new u.2 g h)

-- ---- the end

followed_of : (p : Program) (ss : List Said) (f : Follower) → Follows ss f → f.program ≡ p → IsFollowed p ss
followed_of p ss f h e = subst (λ (q : Program). IsFollowed q ss) e (followed ss f h)

whole_log : (p : Program) (b l : List ℕ) (f : Follower) (u : IsUnder p b l f) → log_lines l ≡ [] → IsLog p (log_lines b) u.3
whole_log p b l f u g =
    let lines : log_lines b ≡ u.0 ∷ u.1 ∷ u.2 = u.4 ∙ ap (λ ls. u.0 ∷ u.1 ∷ (u.2 ++ ls)) g ∙ ap (λ ls. u.0 ∷ u.1 ∷ ls) (append-nil u.2) in
    subst (λ ls. IsLog p ls u.3) (sym lines) (u.6, u.7, u.8)

is_followed_log : (p : Program) (b l : List ℕ) (f : Follower) → IsUnder p b l f → log_lines l ≡ [] → IsFollowedLog p b
is_followed_log p b l f u g = (u.3, whole_log p b l f u g, followed_of p u.3 f u.9 u.10)

pub under_end : (old : Follower) (bytes left more : Option (List ℕ)) (line : List ℕ) (f : Follower) (calls : ℕ) → Under old bytes left f None → Gives left more line (Ok next.End) → Under old bytes more f (Some (Followed calls))
under_end old None left more line f calls u g = (tt, u.0, u.1, u.2.0, u.2.1, tt)
under_end old (Some b) None more line f calls u g = absurd u.2
under_end old (Some b) (Some l) more line f calls u g =
    ((is_followed_log old.program b l f u.2 g.0, u.2.5 ∙ g.1), u.0, u.1, u.2.3, u.2.9, whole_log old.program b l f u.2 g.0)

pub under_full : (old : Follower) (bytes left more : Option (List ℕ)) (line : List ℕ) (f : Follower) (calls : ℕ) → Under old bytes left f None → Gives left more line (Ok next.Full) → Under old bytes more f (Some (Full calls))
under_full old None left more line f calls u g = (tt, u.0, u.1, u.2.0, u.2.1, tt)
under_full old (Some b) None more line f calls u g = absurd u.2
under_full old (Some b) (Some l) more line f calls u g =
    ((is_followed_log old.program b l f u.2 g.0, u.2.5 ∙ g.1), u.0, u.1, u.2.3, u.2.9, whole_log old.program b l f u.2 g.0)

-- ---- a read that failed

keeps_after : (old mid new : Follower) (e : LogFault) → mid.reached ≡ old.reached → KeepsReached mid new e → KeepsReached old new e
keeps_after old mid new TooLong same h = tt
keeps_after old mid new (Failed e) same h = h ∙ same
keeps_after old mid new OutOfMemory same h = tt

keeps_same : (old new : Follower) (e : LogFault) → new.reached ≡ old.reached → KeepsReached old new e
keeps_same old new TooLong same = tt
keeps_same old new (Failed e) same = same
keeps_same old new OutOfMemory same = tt

module _ {X : Type 0} (old new : Follower) (r : Result X LogFault) (e : LogFault) where
  pub keeps_as : IsErrAnd r (λ y. y ≡ e) → KeepsReached old new e → IfErr r (KeepsReached old new)
  keeps_as is h = by r is
    where
      by : (r : Result X LogFault) → IsErrAnd r (λ y. y ≡ e) → IfErr r (KeepsReached old new)
      by (Ok x) is = tt
      by (Err y) is = subst (KeepsReached old new) (sym is) h

  pub keeps_next : (mid : Follower) → IsErrAnd r (λ y. y ≡ e) → mid.reached ≡ old.reached → KeepsReached mid new e → IfErr r (KeepsReached old new)
  keeps_next mid is same h = keeps_as is (keeps_after old mid new e same h)

  pub keeps_still : IsErrAnd r (λ y. y ≡ e) → new.reached ≡ old.reached → IfErr r (KeepsReached old new)
  keeps_still is same = keeps_as is (keeps_same old new e same)

pub keeps_memory : {X : Type 0} (old new : Follower) (r : Result X LogFault) → IsErrAnd r (λ y. y ≡ OutOfMemory) → IfErr r (KeepsReached old new)
keeps_memory old new r is = keeps_as old new r OutOfMemory is tt
