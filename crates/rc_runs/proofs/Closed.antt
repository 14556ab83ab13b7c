-- Worlds from which nothing goes on.
use Rattle.std.proofs.Common.{◌≡◌, ℕ, zero, suc, ℤ, pos, ◌+◌, ◌<◌, ◌≤◌, ◌&&◌, ◌||◌, ◌⊎◌, inl, inr, Bool, true, false, List, [], ◌∷◌, ◌++◌, get_or, length, length-append, nat_lt, Option, Some, None, is_some, option_map, slice_get, refl, sym, ap, subst, ◌∙◌, arith, if◌then◌else◌}
use Rattle.std.proofs.lemmas.Bool.{ltb-false, ltb-true, or_cases}
use Rattle.std.proofs.lemmas.Bool.Decides.{Decides-int_eq}
use Rattle.std.proofs.lemmas.List.{nil_from_length}
use Rattle.std.proofs.lemmas.Option.{same_Some, slice_get-get_or, slice_get_cases, slice_get_past, slice_get_within}
use Rattle.std.specs.Ordering.{int_eq}
use Rattle.rc_lang.specs.declared.lines.Line.{Line}
use Rattle.rc_lang.specs.declared.lines.Stmt.{Stmt}
use Rattle.rc_lang.specs.declared.lines.Stmt.TheVariants.{If, Do, Lock}
use Rattle.rc_lang.specs.declared.lines.Test.TheVariants.{Any}
use Rattle.rc_world.specs.declared.controls.Holders.{Holders}
use Rattle.rc_world.specs.declared.event.Event.{Event}
use Rattle.rc_world.specs.declared.event.Item.{Item}
use Rattle.rc_world.specs.declared.event.Item.TheVariants.{Thread, Kernel}
use Rattle.rc_world.specs.Controls.{Standing, is_choice, next_at, next_line, are_free}
use Rattle.rc_world.specs.Items.{given_at, is_enabled, is_ready, item_step, next_by, next_of, ready_or_taken, takes}
use Rattle.rc_world.specs.declared.controls.Next.{Next}
use Rattle.rc_world.specs.declared.controls.Next.TheVariants.{Ready, TakenLock, Ended}
use Rattle.rc_world.specs.Faults.{fault_of}
use Rattle.rc_world.specs.Machine.{Pending, World, thread_step}
use Rattle.rc_lang.specs.Program.{Thread as ThreadPart, Program, Rows, line_at, rows_of}
use Rattle.rc_lang.specs.Kept.{IsProgram}
use Rattle.rc_world.specs.Trace.{all_ended_from, has_ended}
use Rattle.rc_runs.specs.Closing.{AllLike, AreAlike, AreLikeStandings, Follows, GoesOnly, HasWorld, IsCalm, IsGrown, IsLed, IsLedAt, IsLike, IsQuiet, IsQuietAt, IsThreadLed, Leads, Pairwise, StillOnward, is_asked, line_follows, still, with_threads, IfBoth}
use Rattle.rc_runs.specs.Stuck.{GoesBy, IsOnward, IsStill, counts, is_any, is_any_at, line_moves, moves}
use Rattle.rc_runs.proofs.Alike.{AreStepsAlike, fault_same, like_on, like_same, line_like, line_moves_like, steps_like}
use Rattle.rc_runs.proofs.Still.{still_after}
use Rattle.rc_lang.specs.Rows.{read_line, read_stmt}
use Rattle.rc_lang.specs.declared.lines.Locks.{Locks}

-- ---- each world that is reached is one of these, but for variables on which nothing depends

any_ready : (w : World) (take : Option ℤ) (n : Next) → is_ready w take n ≡ true → is_ready w None n ≡ true
any_ready w take (Ready l) h = refl
any_ready w take (TakenLock wanted) h = absurd (cc)
any_ready w take Ended h = absurd (cc)

none_pending : (w : World) (u : ℕ) (res : ℤ) (fill : ℕ) → w.pending ≡ [] → is_enabled w (Kernel u res fill) ≡ false
none_pending w u res fill none = ap (λ (ps : List Pending). is_enabled (record w { pending = ps }) (Kernel u res fill)) none

-- whether a thread has ended is read off its line alone, and not off its variables
lock_ends : (free : Bool) (x y : Line) (wanted : Locks) → has_ended (if free then Ready x else TakenLock wanted) ≡ has_ended (if free then Ready y else TakenLock wanted)
lock_ends true x y wanted = refl
lock_ends false x y wanted = refl

ends_read : (P : Program) (rows : Rows) (vars : List ℤ) (h : Holders) (s : Stmt) (x y : Line) → has_ended (ready_or_taken h x (read_stmt P rows vars s)) ≡ has_ended (ready_or_taken h y s)
ends_read P rows vars h (Do op) x y = refl
ends_read P rows vars h (Lock wanted) x y = lock_ends (are_free wanted h) x y wanted
ends_read P rows vars h _ x y = refl

ended_here : (P : Program) (i : ℕ) (h : Holders) (t : Standing) → has_ended (next_by h (next_at P i (Some t))) ≡ has_ended (next_by h (line_at P i t.place))
ended_here P i h t = go (line_at P i t.place)
  where
    go : (o : Option Line) → has_ended (next_by h (option_map (read_line P (rows_of P i) t.variables) o)) ≡ has_ended (next_by h o)
    go None = refl
    go (Some l) = ends_read P (rows_of P i) t.variables h l.stmt (read_line P (rows_of P i) t.variables l) l

ended_like : (kept : List Bool) (a b : World) (i : ℕ) → IsLike kept a b → has_ended (next_of a.program a.controls i) ≡ has_ended (next_of b.program b.controls i)
ended_like kept a b i like =
    ap (λ (x : World). has_ended (next_of x.program x.controls i)) like.rest
    ∙ go (slice_get a.controls.threads i) (slice_get b.controls.threads i) (like.threads i)
  where
    go : (o p : Option Standing) → IfBoth (AreLikeStandings kept i) o p → has_ended (next_by b.controls.holders (next_at b.program i o)) ≡ has_ended (next_by b.controls.holders (next_at b.program i p))
    go None None h = refl
    go None (Some u) h = absurd h
    go (Some t) None h = absurd h
    go (Some t) (Some u) h =
        ended_here b.program i b.controls.holders t
        ∙ ap (λ j. has_ended (next_by b.controls.holders (line_at b.program i j))) h.place
        ∙ sym (ended_here b.program i b.controls.holders u)

-- the step of the other
pub record StepsToo (kept : List Bool) (next : World) (o : Option (Event × World)) : Type 0 where
  pub event : Event
  pub world : World
  pub step : o ≡ Some (event, world)
  pub like : IsLike kept next world

steps_too : (kept : List Bool) (e : Event) (next : World) (s o : Option (Event × World)) → s ≡ Some (e, next) → AreStepsAlike kept s o → StepsToo kept next o
steps_too kept e next s o is alike = go o (subst (λ x. AreStepsAlike kept x o) is alike)
  where
    go : (o : Option (Event × World)) → AreStepsAlike kept (Some (e, next)) o → StepsToo kept next o
    go None h = absurd h
    go (Some (f, other)) h = record { event = f; world = other; step = refl; like = h }

module _ (kept : List Bool) (ws : List World) (w : World) (quiet : IsQuiet kept ws w) (ts : List Standing) (threads : Pairwise (AreLikeStandings kept) ts w.controls.threads) where
  goes_like : (item : Item) (next : World) → GoesBy (with_threads w ts) item next → (moves (with_threads w ts) item next ≡ false) × HasWorld kept ws next
  goes_like (Kernel u res fill) next goes =
      let none : is_enabled w (Kernel u res fill) ≡ false = none_pending w u res fill (nil_from_length w.pending quiet.nothing_pending) in
      let enabled : is_enabled w (Kernel u res fill) ≡ true = goes.enabled in
      absurd (cc)
  goes_like (Thread i take) next goes =
      let line : next_line w.program (record w.controls { threads = ts }) i ≡ next_line w.program w.controls i = line_like kept w ts threads quiet.made i in
      let counted : counts w (Thread i take) ≡ true = sym (counts_like take) ∙ goes.counts in
      let enabled : is_ready w take (next_of w.program w.controls i) ≡ true = sym (ap (λ (o : Option Line). is_ready w take (next_by w.controls.holders o)) line) ∙ goes.enabled in
      let asked : is_asked w (Thread i None) ≡ true = any_ready w take (next_of w.program w.controls i) enabled in
      let follows = quiet.follows i asked in
      let r : ℤ = given_at (with_threads w ts) take (next_line w.program (record w.controls { threads = ts }) i) in
      let given : r ≡ given_at w take (next_line w.program w.controls i) = ap (λ (o : Option Line). given_at w take o) line in
      let too = steps_too kept goes.step.0 next (thread_step (with_threads w ts) i r) (thread_step w i r) goes.step.1 (steps_like kept w ts threads quiet.made i r follows.0 follows.1) in
      let stepped : item_step w (Thread i take) ≡ Some (too.event, too.world) = sym (ap (λ (n : ℤ). thread_step w i n) given) ∙ too.step in
      let other : GoesBy w (Thread i take) too.world = record { no_fault = quiet.no_fault; counts = counted; enabled = enabled; step = (too.event, stepped) } in
      let led = quiet.leads (Thread i take) too.world other in
      let goes_on : has_ended (next_of too.world.program too.world.controls i) ≡ false = sym (ap (λ b. b || has_ended (next_of too.world.program too.world.controls i)) follows.0) ∙ led.0 in
      let still_line : line_moves (with_threads w ts) i (next_line w.program (record w.controls { threads = ts }) i) ≡ false = line_moves_like kept w ts threads quiet.made i (next_line w.program (record w.controls { threads = ts }) i) ∙ ap (line_moves w i) line ∙ follows.0 in
      let unmoved : moves (with_threads w ts) (Thread i take) next ≡ false = ap (λ b. b || has_ended (next_of next.program next.controls i)) still_line ∙ ended_like kept next too.world i too.like ∙ goes_on in
      (unmoved, (led.1.0, led.1.1, led.1.2, like_on kept next too.world led.1.1 too.like led.1.3))
    where
      counts_like : (take : Option ℤ) → counts (with_threads w ts) (Thread i take) ≡ counts w (Thread i take)
      counts_like None = refl
      counts_like (Some r) = ap is_any_at (line_like kept w ts threads quiet.made i)

module _ (kept : List Bool) (ws : List World) (quiet : (k : ℕ) (w : World) → slice_get ws k ≡ Some w → IsQuiet kept ws w) where
  goes_on_like : (u : World) → HasWorld kept ws u → (item : Item) (next : World) → GoesBy u item next → (moves u item next ≡ false) × HasWorld kept ws next
  goes_on_like u h item next =
      subst
      (λ (x : World). GoesBy x item next → (moves x item next ≡ false) × HasWorld kept ws next)
      (sym h.3.rest)
      (goes_like kept ws h.1 (quiet h.0 h.1 h.2) u.controls.threads h.3.threads item next)

  onward : (items : List Item) (w after : World) → HasWorld kept ws w → IsOnward w items after → HasWorld kept ws after
  onward [] w after h is = subst (HasWorld kept ws) is h
  onward (item ∷ items) w after h is = onward items is.0 after (goes_on_like w h item is.0 is.1).1 is.2

  still_there : (w : World) → HasWorld kept ws w → IsStill w
  still_there w h = record {
    no_fault = ap fault_of h.3.rest ∙ fault_same kept h.1 w.controls.threads h.3.threads (quiet h.0 h.1 h.2).made ∙ (quiet h.0 h.1 h.2).no_fault;
    moves_nothing = λ item next goes. (goes_on_like w h item next goes).0;
  }

  pub closed : (w : World) → HasWorld kept ws w → StillOnward w
  closed w h = λ items after is. still_there after (onward items w after h is)

-- ---- worlds that are added

pub grown_same : (ws : List World) → IsGrown ws ws
grown_same ws = record { longer = omega arith; kept = λ k w h. h; alike = λ h. h }

pub grown_on : (us vs ws : List World) → IsGrown us vs → IsGrown vs ws → IsGrown us ws
grown_on us vs ws f g = record { longer = omega (arith, f.longer, g.longer); kept = λ k w h. g.kept k w (f.kept k w h); alike = λ h. g.alike (f.alike h) }

pub has_on : (kept : List Bool) (us vs : List World) (w : World) → IsGrown us vs → HasWorld kept us w → HasWorld kept vs w
has_on kept us vs w g h = (h.0, h.1, g.kept h.0 h.1 h.2, h.3)

pub leads_on : (kept : List Bool) (us vs : List World) (w : World) (item : Item) → IsGrown us vs → Leads kept w us item → Leads kept w vs item
leads_on kept us vs w item g h = λ next goes. let led = h next goes in (led.0, has_on kept us vs next g led.1)

pub led_on : (kept : List Bool) (us vs : List World) (w : World) (i : ℕ) → IsGrown us vs → IsThreadLed kept w us i → IsThreadLed kept w vs i
led_on kept us vs w i g h = record { leads = λ take. leads_on kept us vs w (Thread i take) g (h.leads take); follows = h.follows }

quiet_on : (kept : List Bool) (us vs : List World) (w : World) → IsGrown us vs → IsQuiet kept us w → IsQuiet kept vs w
quiet_on kept us vs w g q = record { made = q.made; no_fault = q.no_fault; nothing_pending = q.nothing_pending; leads = λ item. leads_on kept us vs w item g (q.leads item); follows = q.follows }

-- one is added at the end
get_kept : (ws more : List World) (k : ℕ) (w : World) → slice_get ws k ≡ Some w → slice_get (ws ++ more) k ≡ Some w
get_kept [] more zero w h = absurd (cc)
get_kept [] more (suc k) w h = absurd (cc)
get_kept (v ∷ ws) more zero w h = h
get_kept (v ∷ ws) more (suc k) w h = get_kept ws more k w h

get_last : (ws : List World) (w : World) → slice_get (ws ++ w ∷ []) (length ws) ≡ Some w
get_last [] w = refl
get_last (v ∷ ws) w = get_last ws w

get_split : (ws : List World) (w v : World) (k : ℕ) → slice_get (ws ++ w ∷ []) k ≡ Some v → (slice_get ws k ≡ Some v) ⊎ (v ≡ w)
get_split [] w v zero h = inr (sym (same_Some w v h))
get_split [] w v (suc zero) h = absurd (cc)
get_split [] w v (suc (suc k)) h = absurd (cc)
get_split (u ∷ ws) w v zero h = inl h
get_split (u ∷ ws) w v (suc k) h = get_split ws w v k h

module _ (ws : List World) (w : World) (all : AllLike w ws) where
  all_new : (k : ℕ) (v : World) → slice_get (ws ++ w ∷ []) k ≡ Some v → still v ≡ still w
  all_new k v h = elim (get_split ws w v k h) [ inl old ↦ all k v old | inr same ↦ ap still same ]

  push_grown : IsGrown ws (ws ++ w ∷ [])
  push_grown = record { longer = omega (arith, length-append ws (w ∷ [])); kept = λ k v h. get_kept ws (w ∷ []) k v h; alike = λ h k u at j v there. all_new j v there ∙ sym (all_new k u at) }

  pub pushed_grown : (vs : List World) → vs ≡ ws ++ w ∷ [] → IsGrown ws vs
  pushed_grown vs is = subst (IsGrown ws) (sym is) push_grown

  pub pushed_there : (kept : List Bool) (vs : List World) → vs ≡ ws ++ w ∷ [] → HasWorld kept vs w
  pushed_there kept vs is = subst (λ (xs : List World). HasWorld kept xs w) (sym is) (length ws, w, get_last ws w, like_same kept w)

-- ---- what a step leads to

-- nothing is led to by an item that doesn't count or isn't enabled
pub not_asked : (kept : List Bool) (w : World) (ws : List World) (i : ℕ) (take : Option ℤ) → is_asked w (Thread i take) ≡ false → IsLed kept w ws i take
not_asked kept w ws i take unasked = record { leads = λ next goes. let asked = both_true next goes in absurd (cc); follows = λ asked. absurd (cc) }
  where
    both_true : (next : World) → GoesBy w (Thread i take) next → is_asked w (Thread i take) ≡ true
    both_true next goes = ap (λ b. b && is_enabled w (Thread i take)) goes.counts ∙ goes.enabled

module _ (kept : List Bool) (w next : World) (i : ℕ) (take : Option ℤ) (goes : GoesOnly w i take (Some next)) (q : line_moves w i (next_line w.program w.controls i) ≡ false) (p : line_follows kept i (next_line w.program w.controls i) ≡ true) where
  like_next : still next ≡ still w
  like_next = still_after kept w i (given_at w take (next_line w.program w.controls i)) goes.0.0 next q p goes.0.1

  pub all_like_next : (ws : List World) (k : ℕ) → AreAlike ws → slice_get ws k ≡ Some w → AllLike next ws
  all_like_next ws k alike here j v there = alike k w here j v there ∙ sym like_next

  pub led_there : (ws : List World) → HasWorld kept ws next → IsLed kept w ws i take
  led_there ws there = record { leads = leads; follows = λ asked. (q, p) }
    where
      leads : (other : World) → GoesBy w (Thread i take) other → (moves w (Thread i take) other ≡ false) × HasWorld kept ws other
      leads other by =
          let same : next ≡ other = ap (λ (s : Event × World). s.1) (same_Some _ _ (sym goes.0.1 ∙ by.step.1)) in
          let still_goes : has_ended (next_of other.program other.controls i) ≡ false = subst (λ (v : World). has_ended (next_of v.program v.controls i) ≡ false) same goes.1 in
          (ap (λ b. b || has_ended (next_of other.program other.controls i)) q ∙ still_goes, subst (HasWorld kept ws) same there)

-- the world that had this number
pub led_at : (kept : List Bool) (old ws : List World) (number : ℕ) (w : World) (i : ℕ) (take : Option ℤ) → slice_get old number ≡ Some w → IsLed kept w ws i take → IsLedAt kept old number ws i take
led_at kept old ws number w i take here led other at = subst (λ (v : World). IsLed kept v ws i take) (same_Some w other (sym here ∙ at)) led

-- ---- all steps of a thread

any_is : (s : Stmt) → is_any s ≡ true → s ≡ If Any
any_is (If Any) h = refl
any_is _ h = absurd (cc)

chosen : (w : World) (r : ℤ) (h : Holders) (o : Option Line) → is_any_at o ≡ true → is_ready w (Some r) (next_by h o) ≡ true → is_choice r ≡ true
chosen w r h None is ready = absurd (cc)
chosen w r h (Some l) is ready =
    let any : l.stmt ≡ If Any = any_is l.stmt is in
    let taken : takes w (Some r) l.stmt ≡ true = subst (λ (s : Stmt). is_ready w (Some r) (ready_or_taken h l s) ≡ true) any ready in
    subst (λ (s : Stmt). takes w (Some r) s ≡ true) any taken

choice_is : (r : ℤ) → is_choice r ≡ true → (r ≡ pos 0) ⊎ (r ≡ pos 1)
choice_is r h = elim (or_cases (int_eq r (pos 0)) (int_eq r (pos 1)) h) [ inl e ↦ inl ((Decides-int_eq r (pos 0)).0 e) | inr e ↦ inr ((Decides-int_eq r (pos 1)).0 e) ]

module _ (kept : List Bool) (w : World) (ws : List World) (i : ℕ) (usual : Leads kept w ws (Thread i None)) (second : Leads kept w ws (Thread i (Some (pos 0)))) (first : Leads kept w ws (Thread i (Some (pos 1)))) where
  pub three_takes : (take : Option ℤ) → Leads kept w ws (Thread i take)
  three_takes None next goes = usual next goes
  three_takes (Some r) next goes =
      elim (choice_is r (chosen w r w.controls.holders (next_line w.program w.controls i) goes.counts goes.enabled)) [
        | inl e ↦ subst (λ (x : ℤ). Leads kept w ws (Thread i (Some x))) (sym e) second next goes
        | inr e ↦ subst (λ (x : ℤ). Leads kept w ws (Thread i (Some x))) (sym e) first next goes
      ]

-- ---- all steps of a world

-- Of each thread below a number, and of the one with that number.
pub led_more : (kept : List Bool) (w : World) (ws vs : List World) (n : ℕ) → IsGrown ws vs → ((i : ℕ) → i < n → IsThreadLed kept w ws i) → IsThreadLed kept w vs n → (i : ℕ) → i < n + 1 → IsThreadLed kept w vs i
led_more kept w ws vs n g below at i within = go (nat_lt i n) refl
  where
    go : (b : Bool) → nat_lt i n ≡ b → IsThreadLed kept w vs i
    go true e = led_on kept ws vs w i g (below i (ltb-true i n e))
    go false e =
        let le : n ≤ i = ltb-false i n e in
        let is : n ≡ i = omega arith in
        subst (λ (k : ℕ). IsThreadLed kept w vs k) is at

no_thread : (w : World) (i : ℕ) (take : Option ℤ) → slice_get w.controls.threads i ≡ None → is_enabled w (Thread i take) ≡ false
no_thread w i take none = ap (λ (o : Option Standing). is_ready w take (next_by w.controls.holders (next_at w.program i o))) none

no_place : (o : Option Standing) → option_map (λ (t : Standing). t.place) o ≡ None → o ≡ None
no_place None h = refl
no_place (Some t) h = absurd (cc)

past : (ts : List Standing) (k : ℕ) → slice_get ts k ≡ None → length ts ≤ k
past ts k h = elim ((slice_get_cases ts k).1) [ inl within ↦ absurd (cc (h, within.2)) | inr after ↦ after.0 ]

module _ (kept : List Bool) (w : World) (ws : List World) (count : ℕ) (program_made : IsProgram w.program) (calm : IsCalm w) (few : option_map (λ (t : Standing). t.place) (slice_get w.controls.threads count) ≡ None) (led : (i : ℕ) → i < count → IsThreadLed kept w ws i) where
  none_past : (i : ℕ) (take : Option ℤ) → count ≤ i → is_enabled w (Thread i take) ≡ false
  none_past i take le =
      let many : length w.controls.threads ≤ count = past w.controls.threads count (no_place _ few) in
      no_thread w i take (slice_get_past w.controls.threads i (omega arith))

  follows : (i : ℕ) → Follows kept w i None
  follows i = go (nat_lt i count) refl
    where
      go : (b : Bool) → nat_lt i count ≡ b → Follows kept w i None
      go true e = (led i (ltb-true i count e)).follows
      go false e = λ asked. let none = none_past i None (ltb-false i count e) in absurd (cc)

  leads : (item : Item) → Leads kept w ws item
  leads (Thread i take) next goes = go (nat_lt i count) refl
    where
      go : (b : Bool) → nat_lt i count ≡ b → (moves w (Thread i take) next ≡ false) × HasWorld kept ws next
      go true e = (led i (ltb-true i count e)).leads take next goes
      go false e =
          let none = none_past i take (ltb-false i count e) in
          let enabled = goes.enabled in
          absurd (cc)
  leads (Kernel u res fill) next goes =
      let none : is_enabled w (Kernel u res fill) ≡ false = none_pending w u res fill (nil_from_length w.pending calm.nothing_pending) in
      let enabled = goes.enabled in
      absurd (cc)

  pub quiet_all : IsQuiet kept ws w
  quiet_all = record { made = program_made; no_fault = calm.no_fault; nothing_pending = calm.nothing_pending; leads = leads; follows = follows }

-- ---- all worlds

pub quiet_more : (kept : List Bool) (ws vs : List World) (n : ℕ) → IsGrown ws vs → n < length ws → ((k : ℕ) (w : World) → k < n → slice_get ws k ≡ Some w → IsQuiet kept ws w) → IsQuietAt kept ws n vs →
    (k : ℕ) (w : World) → k < n + 1 → slice_get vs k ≡ Some w → IsQuiet kept vs w
quiet_more kept ws vs n g within below at k w under there =
    let lt : k < length ws = omega arith in
    let found = slice_get-get_or ws k w lt in
    let same : get_or ws k w ≡ w = same_Some _ w (sym (g.kept k (get_or ws k w) found) ∙ there) in
    go (nat_lt k n) refl (found ∙ ap Some same)
  where
    go : (b : Bool) → nat_lt k n ≡ b → slice_get ws k ≡ Some w → IsQuiet kept vs w
    go true e here = quiet_on kept ws vs w g (below k w (ltb-true k n e) here)
    go false e here =
        let le : n ≤ k = ltb-false k n e in
        let is : k ≡ n = omega arith in
        at w (subst (λ (j : ℕ). slice_get ws j ≡ Some w) is here)

pub closed_below : (kept : List Bool) (ws : List World) (n : ℕ) (w : World) → length ws ≤ n → ((k : ℕ) (v : World) → k < n → slice_get ws k ≡ Some v → IsQuiet kept ws v) → HasWorld kept ws w → StillOnward w
closed_below kept ws n w all quiet there =
    closed kept ws (λ k v here. let within : k < length ws = slice_get_within ws k v here in quiet k v (omega arith) here) w there

pub none_is : (o : Option ℕ) → false ≡ is_some o → o ≡ None
none_is None h = refl
none_is (Some n) h = absurd (cc)

-- One that goes on hasn't ended.
pub one_goes_on : (w : World) (ts : List ThreadPart) (i k : ℕ) → k < length ts → has_ended (next_of w.program w.controls (i + k)) ≡ false → all_ended_from w i ts ≡ false
one_goes_on w [] i k within goes = absurd (omega arith)
one_goes_on w (t ∷ ts) i zero within goes =
    let here : has_ended (next_of w.program w.controls i) ≡ false = subst (λ (j : ℕ). has_ended (next_of w.program w.controls j) ≡ false) (omega arith) goes in
    ap (λ b. b && all_ended_from w (i + 1) ts) here
one_goes_on w (t ∷ ts) i (suc k) within goes =
    let later : has_ended (next_of w.program w.controls ((i + 1) + k)) ≡ false = subst (λ (j : ℕ). has_ended (next_of w.program w.controls j) ≡ false) (omega arith) goes in
    let rest : all_ended_from w (i + 1) ts ≡ false = one_goes_on w ts (i + 1) k (omega arith) later in
    ap (λ b. has_ended (next_of w.program w.controls i) && b) rest ∙ and_false (has_ended (next_of w.program w.controls i))
  where
    and_false : (b : Bool) → (b && false) ≡ false
    and_false true = refl
    and_false false = refl
