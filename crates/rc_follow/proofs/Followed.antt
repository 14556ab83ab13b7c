-- A line that goes on is followed, and what is followed is a weak run.
use Rattle.std.proofs.Common.{◌≡◌, ◌<◌, Bool, length, arith, List, [], ◌∷◌, ◌++◌, get_or, refl, sym, ap, subst, ◌∙◌, inl, inr, ℕ, Option, Some, None}
use Rattle.std.specs.Prelude.{All}
use Rattle.std.proofs.lemmas.List.Elements.{All-cons, All-contains, All-get_or, All-nil, All-same, All-weaker}
use Rattle.rc_lang.specs.Program.{Program}
use Rattle.rc_log.specs.declared.call.Call.{Call}
use Rattle.rc_log.specs.declared.call.Call.TheVariants.{Exit}
use Rattle.rc_log.specs.declared.call.Said.{Said}
use Rattle.rc_world.specs.declared.event.Event.{Event}
use Rattle.rc_world.specs.Machine.{World, start_world}
use Rattle.rc_world.specs.WeakRuns.{IsWeakRun}
use Rattle.rc_follow.specs.Answers.{Answers, FollowsMore}
use Rattle.rc_follow.specs.declared.follower.Answer.{Answer}
use Rattle.rc_follow.specs.declared.follower.Answer.TheVariants as answer
use Rattle.rc_follow.specs.Followed.{Goes, IsBy, IsFollowed, Noted, Says, noted_line, start_noted}
use Rattle.rc_follow.specs.Follower.{ComesBy, Follower, Follows, GoesOn, noted_lines, reached_below, with_ways}
use Rattle.rc_follow.specs.Laws.{FollowedIsRun}
use Rattle.rc_follow.specs.Ways.{GoesOver, Leads, Makes, Way, start_way}
use Rattle.rc_follow.proofs.Added.{leads_both, leads_none}
use Rattle.rc_follow.proofs.Runs.{goes_weak}

noted_more : (P : Program) (n : Noted) (ls : List Said) (l : Said) → noted_lines P n (ls ++ l ∷ []) ≡ noted_line P (noted_lines P n ls) l
noted_more P n [] l = refl
noted_more P n (m ∷ ls) l = noted_more P (noted_line P n m) ls l

-- more hidden steps after the lines
goes_on : (P : Program) (n : Noted) (w v u : Way) (ls : List Said) → GoesOver P n w ls v → Leads (noted_lines P n ls) v u → GoesOver P n w ls u
goes_on P n w v u [] g h = leads_both n w v u g h
goes_on P n w v u (l ∷ ls) g h = (g.0, g.1, g.2, g.3, g.4, g.5, goes_on P (noted_line P n l) g.4 v u ls g.6 h)

-- one more line
goes_line : (P : Program) (n : Noted) (w v u : Way) (ls : List Said) (l : Said) (i : ℕ) → GoesOver P n w ls v → IsBy l i → Makes P (noted_lines P n ls) v i l.call u → GoesOver P n w (ls ++ l ∷ []) u
goes_line P n w v u [] l i g t s = (v, g, i, t, u, s, leads_none (noted_line P n l) u)
goes_line P n w v u (m ∷ ls) l i g t s = (g.0, g.1, g.2, g.3, g.4, g.5, goes_line P (noted_line P n m) g.4 v u ls l i g.6 t s)

-- without what was made
says_of : (P : Program) (n : Noted) (w v : Way) (i : ℕ) (call : Call) → Makes P n w i call v → Says P n w.world i call v.world
says_of P n w v i call s = elim s [
  | inl c ↦ inl c.0
  | inr a ↦ inr (a.0, ap (λ (x : Way). x.world) a.1)
]

goes_of : (P : Program) (n : Noted) (w u : Way) (ls : List Said) → GoesOver P n w ls u → Goes P n w.world ls u.world
goes_of P n w u [] g = (g.0, g.1)
goes_of P n w u (l ∷ ls) g =
    (g.1.0, g.0.world, g.1.1, g.2, g.3, g.4.world, says_of P n g.0 g.4 g.2 l.call g.5, goes_of P (noted_line P n l) g.4 u ls g.6)

pub follows_on : (ls : List Said) (l : Said) (old new : Follower) → Follows ls old → GoesOn old l new → Follows (ls ++ l ∷ []) new
follows_on ls l old new f g = record {
  some = g.5;
  noted = subst (λ (Q : Program). new.noted ≡ noted_lines Q (start_noted Q) (ls ++ l ∷ [])) (sym g.2) (g.3 ∙ ap (λ (n : Noted). noted_line old.program n l) f.noted ∙ sym (noted_more old.program (start_noted old.program) ls l));
  ways = subst (λ (Q : Program). All (GoesOver Q (start_noted Q) (start_way Q) (ls ++ l ∷ [])) new.ways) (sym g.2) (All-weaker (ComesBy old.program old.noted old.ways g.0 l.call) (GoesOver old.program (start_noted old.program) (start_way old.program) (ls ++ l ∷ [])) step new.ways g.4);
}
  where
    step : (u : Way) → ComesBy old.program old.noted old.ways g.0 l.call u → GoesOver old.program (start_noted old.program) (start_way old.program) (ls ++ l ∷ []) u
    step u c =
        let n : Noted = noted_lines old.program (start_noted old.program) ls in
        let base : GoesOver old.program (start_noted old.program) (start_way old.program) ls c.0 = All-contains (GoesOver old.program (start_noted old.program) (start_way old.program) ls) old.ways c.0 f.ways c.1 in
        let v : Way = c.2.0 in
        let leads : Leads n c.0 v = subst (λ (m : Noted). Leads m c.0 v) f.noted c.2.1 in
        let makes : Makes old.program n v g.0 l.call u = subst (λ (m : Noted). Makes old.program m v g.0 l.call u) f.noted c.2.2 in
        goes_line old.program (start_noted old.program) (start_way old.program) v u ls l g.0 (goes_on old.program (start_noted old.program) (start_way old.program) c.0 v ls base leads) g.1 makes

pub follows_more : (ls : List Said) (l : Said) (old new : Follower) (a : Answer) → Follows ls old → Answers old l new a → FollowsMore ls l new a
follows_more ls l old new answer.Followed f g = follows_on ls l old new f g
follows_more ls l old new _ f g = tt

-- whichever thread a ring is gone by
anybody : (old new : Follower) (t : Option ℕ) (i k : ℕ) (a : Answer) → Answers old (record { thread = Some i; call = Exit k }) new a → Answers old (record { thread = t; call = Exit k }) new a
anybody old new None i k answer.Followed h = (h.0, inr refl, h.2, h.3, h.4, h.5, h.6)
anybody old new (Some j) i k answer.Followed h = (h.0, inr refl, h.2, h.3, h.4, h.5, h.6)
anybody old new t i k _ h = h

pub by_anybody : (old new : Follower) (l : Said) (i k : ℕ) (a : Answer) → l.call ≡ Exit k → Answers old (record { thread = Some i; call = Exit k }) new a → Answers old l new a
by_anybody old new l i k a e h =
    let line : Call → Said = λ c. record { thread = l.thread; call = c } in
    subst (λ (x : Said). Answers old x new a) (ap line (sym e)) (anybody old new l.thread i k a h)

pub answers_same : (old old2 : Follower) (l l2 : Said) (new : Follower) (a : Answer) → old2 ≡ old → l2 ≡ l → Answers old2 l2 new a → Answers old l new a
answers_same old old2 l l2 new a e f h = subst (λ (x : Follower). Answers x l new a) e (subst (λ (x : Said). Answers old2 x new a) f h)

pub has_one : (w : Way) (ws : List Way) → ws ≡ w ∷ [] → 0 < length ws
has_one w ws e = subst (λ (xs : List Way). 0 < length xs) (sym e) (omega arith)

pub first_ways : (P : Program) (w : Way) (ws : List Way) → w ≡ start_way P → ws ≡ w ∷ [] → All (GoesOver P (start_noted P) (start_way P) []) ws
first_ways P w ws s e = All-same (GoesOver P (start_noted P) (start_way P) []) ws (w ∷ []) e (All-cons (GoesOver P (start_noted P) (start_way P) []) w [] ([], ap (λ (x : Way). x.world) (sym s), ap (λ (x : Way). x.made) s) (All-nil (GoesOver P (start_noted P) (start_way P) [])))

pub followed_of : (ls : List Said) (f : Follower) → Follows ls f → IsFollowed f.program ls
followed_of ls f h =
    let w : Way = get_or f.ways 0 (start_way f.program) in
    (w.world, goes_of f.program (start_noted f.program) (start_way f.program) w ls (All-get_or (GoesOver f.program (start_noted f.program) (start_way f.program) ls) f.ways 0 (start_way f.program) h.some h.ways))

pub ends_with : (f : Follower) (reached : List Bool) (ways : List Way) (end : ℕ) → end ≡ length f.reached → ways ≡ f.ways → reached ≡ reached_below end f.reached ways → record f { reached = reached } ≡ with_ways f
ends_with f reached ways end l e h =
    ap (λ (r : List Bool). record f { reached = r }) (h ∙ ap (λ (ws : List Way). reached_below end f.reached ws) e ∙ ap (λ (n : ℕ). reached_below n f.reached f.ways) l)

pub followed_is_run : FollowedIsRun
followed_is_run P safe ls w g =
    let run : (es : List Event) × IsWeakRun (start_world P) es w = goes_weak P (start_noted P) (start_world P) w ls g in
    (run.0, run.1, safe run.0 w run.1)
