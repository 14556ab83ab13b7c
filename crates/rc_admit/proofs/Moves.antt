-- One thread's step, seen from all the others.
use Rattle.std.proofs.Common.{◌≡◌, ℕ, ◌+◌, ◌<◌, ◌≤◌, Bool, true, false, cond, List, length, Option, Some, None, refl, sym, ap, ◌∙◌, subst, inl, inr, arith}
use Rattle.std.specs.Prelude.{slice_get, slice_set, nat_eq, ℤ}
use Rattle.std.proofs.Math.ListN.{length-set}
use Rattle.std.proofs.lemmas.Bool.{eq-eqb}
use Rattle.std.proofs.lemmas.Option.{slice_get_within}
use Rattle.rc_world.proofs.Lists.{get_set}
use Rattle.rc_lang.specs.Program.{Program, lines_of}
use Rattle.rc_rules.specs.declared.mode.Mode.{Mode}
use Rattle.rc_rules.specs.declared.mode.Peeked.{Peeked}
use Rattle.rc_rules.specs.declared.mode.Peeked.TheVariants.{Unseen}
use Rattle.rc_rules.specs.declared.mode.Slot.TheVariants.{Closed}
use Rattle.rc_rules.specs.declared.mode.Submitting.{Submitting}
use Rattle.rc_rules.specs.Labels.{WeakerMode, WeakerPeeked, WeakerSubmitting}
use Rattle.rc_rules.proofs.Weaker.{sq_weaker}
use Rattle.rc_rules.specs.Labellings.{headers_bag}
use Rattle.rc_split.specs.Bags.{Part, begun}
use Rattle.rc_world.specs.declared.event.Completion.{Completion}
use Rattle.rc_world.specs.declared.world.Slot.{Slot as Entry}
use Rattle.rc_world.specs.declared.world.Slot.TheVariants as entries
use Rattle.rc_world.specs.declared.controls.Holders.{Holders}
use Rattle.rc_world.specs.declared.controls.Look.{Look}
use Rattle.rc_world.specs.declared.controls.Look.TheVariants as looks
use Rattle.rc_world.specs.Controls.{Standing, passes_arm, rest_at}
use Rattle.rc_world.specs.Faults.{is_holder}
use Rattle.rc_world.specs.Machine.{World, slot_len}
use Rattle.rc_admit.specs.Worlds.{unreaped}
use Rattle.rc_admit.proofs.Flight.{data_in, data_of, is_reaped}
use Rattle.rc_admit.proofs.RequestKinds.{HasKind}
use Rattle.rc_split.proofs.PoolBags.{same_or_not}
use Rattle.rc_admit.proofs.Lists.{sum_to, sum_to_changed, Each}
use Rattle.rc_admit.proofs.Owned.{Stand, Leads, HasEdge, slot_bag, mode_bag, unheld, SlotFits, FrontFits, QueueFits, SqFits, CqFits, held, place_bag, HasKindPending, Owned, WellOwned, IsUnseen, settle, front_weaker, held_made, held_parts, held_weaker, not_held, queue_weaker}

-- The world in which thread i went to this place, with these variables: it comes to rest, and at the end of an arm
-- nothing is peeked any more.
abbrev pub later : World → List Standing → Bool → World
later w ts e = record w { controls = record { threads = ts; holders = w.controls.holders; look = cond e looks.Unseen w.controls.look; pools = w.controls.pools } }

abbrev pub put : Program → World → ℕ → ℕ → List ℤ → World
put P w i k vars = later w (slice_set w.controls.threads i (record { place = rest_at P i k; variables = vars })) (passes_arm P i k)

-- the world with other holders, and with another word on what was done with the front completion
abbrev pub with_locks : World → Holders → Look → World
with_locks w holders look = record w { controls = record { threads = w.controls.threads; holders = holders; look = look; pools = w.controls.pools } }

abbrev pub upd : {A : Type 0} → (ℕ → A) → ℕ → A → ℕ → A
upd f i x j = cond (nat_eq i j) x (f j)

pub upd_at : {A : Type 0} (f : ℕ → A) (i : ℕ) (x : A) (k : ℕ) → k ≡ i → upd f i x k ≡ x
upd_at f i x k e = elim (same_or_not i k) [ inl h ↦ ap (λ b. cond b x (f k)) h.1 | inr h ↦ absurd (h.0 (sym e)) ]

pub upd_off : {A : Type 0} (f : ℕ → A) (i : ℕ) (x : A) (k : ℕ) → (k ≡ i → ⊥) → upd f i x k ≡ f k
upd_off f i x k e = elim (same_or_not i k) [ inl h ↦ absurd (e (sym h.0)) | inr h ↦ ap (λ b. cond b x (f k)) h.1 ]

pub holder_one : (o : Option ℕ) (i k : ℕ) → is_holder o i ≡ true → (k ≡ i → ⊥) → is_holder o k ≡ false
holder_one None i k e ne = refl
holder_one (Some j) i k e ne = elim (same_or_not j k) [
  | inr h ↦ h.1
  | inl h ↦ elim (same_or_not j i) [ inl g ↦ absurd (ne (sym h.0 ∙ g.0)) | inr g ↦ absurd (cc (g.1, e)) ]
]

pub mode_bag_same : (P : Program) (n m : Mode) (p : Part) → WeakerMode n m → mode_bag P n p ≡ mode_bag P m p
mode_bag_same P n m p x = ap (λ y. slot_bag P y p) (sq_weaker n m x).slot

fits_later : (look : Look) (cs : List Completion) (e h : Bool) (o : Option Peeked) → (e ≡ true → IsUnseen o) → CqFits look cs h o → CqFits (cond e looks.Unseen look) cs h o
fits_later look cs false h o u f = f
fits_later look cs true h None u f = absurd (u refl)
fits_later look cs true false (Some p) u f = absurd f
fits_later look cs true true (Some p) u f = subst (FrontFits looks.Unseen cs) (sym (u refl)) refl

-- Where a label says that nothing is peeked, the thread has the lock and the front isn't got.
unseen_holder : (look : Look) (cs : List Completion) (h : Bool) (o : Option Peeked) → IsUnseen o → CqFits look cs h o → (h ≡ true) × (is_reaped look ≡ false)
unseen_holder look cs h None u f = absurd u
unseen_holder look cs true (Some p) u f = (refl, subst (FrontFits look cs) u f)
unseen_holder look cs false (Some p) u f = absurd f

other_later : (look : Look) (cs : List Completion) (e h : Bool) (o : Option Peeked) → (e ≡ true → h ≡ false) → CqFits look cs h o → CqFits (cond e looks.Unseen look) cs h o
other_later look cs false h o u f = f
other_later look cs true false None u f = tt
other_later look cs true false (Some p) u f = f
other_later look cs true true o u f = absurd (let x : true ≡ false = u refl in cc)

-- What isn't got stays so, and what wasn't seen owns nothing.
pub idle_later : (e : Bool) (look : Look) → is_reaped look ≡ false → is_reaped (cond e looks.Unseen look) ≡ false
idle_later true look h = refl
idle_later false look h = h

pub place_later : (e : Bool) (look : Look) (p : Part) → place_bag (cond e looks.Unseen look) p ≤ place_bag look p
place_later true look p = omega arith
place_later false look p = omega arith

-- So the entries whose requests aren't reaped are the same where only what isn't got is forgotten.
pub unreaped_later : (e : Bool) (look : Look) (cs : List Completion) → (e ≡ true → is_reaped look ≡ false) → unreaped (cond e looks.Unseen look) cs ≡ unreaped look cs
unreaped_later false look cs h = refl
unreaped_later true looks.Unseen cs h = refl
unreaped_later true looks.Peeked cs h = refl
unreaped_later true looks.Got cs h = absurd (let x : true ≡ false = h refl in cc)

-- What all labels say of the submission side of a world with this holder, queue and slot, where thread i's says this.
pub record SqPart (P : Program) (holder : Option ℕ) (n : ℕ) (slot : Entry) (modes : ℕ → Mode) (i : ℕ) (o : Option Submitting) : Type 0 where
  pub free : holder ≡ None → (n ≤ P.left) × (slot ≡ entries.Closed)
  pub mine : SqFits n slot (is_holder holder i) o
  pub others : (k : ℕ) → (k ≡ i → ⊥) → SqFits n slot (is_holder holder k) (modes k).sq

-- and of the completion side
pub record CqPart (holder : Option ℕ) (look : Look) (cs : List Completion) (modes : ℕ → Mode) (i : ℕ) (o : Option Peeked) : Type 0 where
  pub idle : holder ≡ None → is_reaped look ≡ false
  pub mine : CqFits look cs (is_holder holder i) o
  pub others : (k : ℕ) → (k ≡ i → ⊥) → CqFits look cs (is_holder holder k) (modes k).cq

-- what is known of the submission side as its lock is taken
abbrev pub taken : Program → Submitting
taken P = record { queued = P.left; slot = Closed }

-- A thread's step to a label that fits the world: what it and the requests own together is no more.
pub record Moved (P : Program) (w w1 : World) (bags : ℕ → Part → ℕ) (modes : ℕ → Mode) (i : ℕ) (b : Part → ℕ) (m : Mode) : Type 0 where
  pub of : w1.program ≡ P
  pub room : length w1.queued + slot_len w1.slot ≤ P.entries
  pub same : w1.controls.threads ≡ w.controls.threads
  pub local : (p : Part) → held P b m p + unheld P w1 p ≤ held P (bags i) (modes i) p + unheld P w p
  pub submits : SqPart P w1.controls.holders.sq (length w1.queued) w1.slot modes i m.sq
  pub reaps : CqPart w1.controls.holders.cq w1.controls.look w1.completions modes i m.cq
  pub queued : Each (HasKind P) w1.queued
  pub pending : Each (HasKindPending P) w1.pending
  pub completed : Each (HasKind P) w1.completed
  pub agree : data_of w1.completed ≡ data_in (unreaped w1.controls.look w1.completions)

module _ (P : Program) (S : Stand) (edge : HasEdge P S) (w w1 : World) (bags : ℕ → Part → ℕ) (modes : ℕ → Mode) (i : ℕ) (th : Standing) (left : ℕ) (vars : List ℤ) (b : Part → ℕ) (m : Mode) where
  pub moves : Owned P S w bags modes → slice_get w.controls.threads i ≡ Some th → Moved P w w1 bags modes i b m → Leads S i b m vars left → WellOwned P S (put P w1 i left vars)
  moves o get v l =
      let z = settle P S edge i vars (length (lines_of P i)) left b m l in
      let s = z.leads in
      let new : Standing = record { place = rest_at P i left; variables = vars } in
      let ts : List Standing = slice_set w1.controls.threads i new in
      let e : Bool = passes_arm P i left in
      let bags' : ℕ → Part → ℕ = upd bags i s.bag in
      let modes' : ℕ → Mode = upd modes i s.mode in
      let h : ℕ → Bool = is_holder w1.controls.holders.sq in
      let g : ℕ → Bool = is_holder w1.controls.holders.cq in
      let n : ℕ = length w1.queued in
      let look : Look = w1.controls.look in
      let cs : List Completion = w1.completions in
      let sq : SqFits n w1.slot (h i) s.mode.sq = held_weaker (QueueFits n w1.slot) WeakerSubmitting (queue_weaker n w1.slot) (h i) m.sq s.mode.sq s.weaker.0 v.submits.mine in
      let cq : CqFits look cs (g i) s.mode.cq = held_weaker (FrontFits look cs) WeakerPeeked (front_weaker look cs) (g i) m.cq s.mode.cq s.weaker.1 v.reaps.mine in
      let lock : e ≡ true → (g i ≡ true) × (is_reaped look ≡ false) = λ x. unseen_holder look cs (g i) s.mode.cq (z.unseen x) cq in
      let len : length ts ≡ length w.controls.threads = length-set w1.controls.threads i new ∙ ap length v.same in (
        bags',
        modes',
        record {
          of = v.of;
          room = v.room;
          stands = λ k t g. elim (get_set w1.controls.threads i k new t g) [
            | inl h ↦
                subst (λ (x : Standing). S k (bags' k) (modes' k) x.variables x.place) h.1
                (subst (λ (x : Part → ℕ). S k x (modes' k) vars new.place) (sym (upd_at bags i s.bag k h.0))
                (subst (λ x. S k s.bag x vars new.place) (sym (upd_at modes i s.mode k h.0)) (subst (λ j. S j s.bag s.mode vars new.place) (sym h.0) s.stands)))
            | inr h ↦
                subst (λ (x : Part → ℕ). S k x (modes' k) t.variables t.place) (sym (upd_off bags i s.bag k h.0))
                (subst (λ x. S k (bags k) x t.variables t.place) (sym (upd_off modes i s.mode k h.0)) (o.stands k t (ap (λ xs. slice_get xs k) (sym v.same) ∙ h.1)))
          ];
          total = λ p.
              let f : ℕ → ℕ = λ j. held P (bags j) (modes j) p in
              let g : ℕ → ℕ = λ j. held P (bags' j) (modes' j) p in
              let within : i < length w.controls.threads = slice_get_within w.controls.threads i th get in
              let off : (j : ℕ) → (j ≡ i → ⊥) → g j ≡ f j = λ j ne. ap (λ (x : Part → ℕ). x p + mode_bag P (modes' j) p) (upd_off bags i s.bag j ne) ∙ ap (λ x. bags j p + mode_bag P x p) (upd_off modes i s.mode j ne) in
              let at : g i ≡ held P s.bag s.mode p = ap (λ (x : Part → ℕ). x p + mode_bag P (modes' i) p) (upd_at bags i s.bag i refl) ∙ ap (λ x. s.bag p + mode_bag P x p) (upd_at modes i s.mode i refl) in
              let changed : sum_to g (length w.controls.threads) + f i ≡ sum_to f (length w.controls.threads) + g i = sum_to_changed f g (length w.controls.threads) i within off in
              let less : s.bag p ≤ b p = s.less p in
              let stage : mode_bag P s.mode p ≡ mode_bag P m p = mode_bag_same P s.mode m p s.weaker in
              let local : held P b m p + unheld P w1 p ≤ f i + unheld P w p = v.local p in
              let before : sum_to f (length w.controls.threads) + unheld P w p ≤ headers_bag (begun P.stock P.threads) p = o.total p in
              let place : place_bag (cond e looks.Unseen look) p ≤ place_bag look p = place_later e look p in
              let same : sum_to g (length ts) ≡ sum_to g (length w.controls.threads) = ap (λ x. sum_to g x) len in
              omega (arith, local);
          within = o.within;
          free = v.submits.free;
          idle = λ x. idle_later e look (v.reaps.idle x);
          submits = λ k. elim (same_or_not k i) [
            | inl x ↦ subst (λ (y : Mode). SqFits n w1.slot (h k) y.sq) (sym (upd_at modes i s.mode k x.0)) (subst (λ j. SqFits n w1.slot (h j) s.mode.sq) (sym x.0) sq)
            | inr x ↦ subst (λ (y : Mode). SqFits n w1.slot (h k) y.sq) (sym (upd_off modes i s.mode k x.0)) (v.submits.others k x.0)
          ];
          reaps = λ k. elim (same_or_not k i) [
            | inl x ↦ subst (λ (y : Mode). CqFits (cond e looks.Unseen look) cs (g k) y.cq) (sym (upd_at modes i s.mode k x.0)) (subst (λ j. CqFits (cond e looks.Unseen look) cs (g j) s.mode.cq) (sym x.0) (fits_later look cs e (g i) s.mode.cq z.unseen cq))
            | inr x ↦ subst (λ (y : Mode). CqFits (cond e looks.Unseen look) cs (g k) y.cq) (sym (upd_off modes i s.mode k x.0)) (other_later look cs e (g k) (modes k).cq (λ y. holder_one w1.controls.holders.cq i k (lock y).0 x.0) (v.reaps.others k x.0))
          ];
          queued = v.queued;
          pending = v.pending;
          completed = v.completed;
          agree = v.agree ∙ ap data_in (sym (unreaped_later e look cs (λ x. (lock x).1)));
        },
      )

pub not_none : (o : Option ℕ) (i : ℕ) → is_holder o i ≡ true → o ≡ None → ⊥
not_none None i e n = cc
not_none (Some j) i e n = cc

module _ (P : Program) (S : Stand) (w : World) (bags : ℕ → Part → ℕ) (modes : ℕ → Mode) (i : ℕ) (o : Owned P S w bags modes) where
  abbrev submits : ℕ → Bool
  submits k = is_holder w.controls.holders.sq k

  abbrev reaps : ℕ → Bool
  reaps k = is_holder w.controls.holders.cq k

  -- ---- the submission side

  pub sq_still : SqPart P w.controls.holders.sq (length w.queued) w.slot modes i (modes i).sq
  sq_still = record { free = o.free; mine = o.submits i; others = λ k ne. o.submits k }

  -- what the world has, from the label
  pub sq_has : (s : Submitting) → (modes i).sq ≡ Some s → (submits i ≡ true) × (length w.queued + slot_len w.slot ≤ s.queued) × SlotFits w.slot s.slot
  sq_has s e = let f = held_parts (QueueFits (length w.queued) w.slot) (submits i) s (subst (λ x. SqFits (length w.queued) w.slot (submits i) x) e (o.submits i)) in (f.0, f.1.0, f.1.1)

  -- the holder goes on, with another queue and slot
  pub sq_step : (n : ℕ) (slot : Entry) (s t : Submitting) → (modes i).sq ≡ Some s → n + slot_len slot ≤ t.queued → SlotFits slot t.slot → SqPart P w.controls.holders.sq n slot modes i (Some t)
  sq_step n slot s t e bound fit =
      let h = sq_has s e in
      record {
        free = λ x. absurd (not_none w.controls.holders.sq i h.0 x);
        mine = held_made (QueueFits n slot) (submits i) t h.0 (bound, fit);
        others = λ k ne. not_held (QueueFits (length w.queued) w.slot) (QueueFits n slot) (submits k) (submits k) (modes k).sq (holder_one w.controls.holders.sq i k h.0 ne) (holder_one w.controls.holders.sq i k h.0 ne) (o.submits k);
      }

  pub sq_frees : (s : Submitting) → (modes i).sq ≡ Some s → s.queued ≤ P.left → w.slot ≡ entries.Closed → SqPart P None (length w.queued) w.slot modes i None
  sq_frees s e le closed =
      let h = sq_has s e in
      record {
        free = λ x. (omega (arith, h.1), closed);
        mine = tt;
        others = λ k ne. not_held (QueueFits (length w.queued) w.slot) (QueueFits (length w.queued) w.slot) (submits k) false (modes k).sq (holder_one w.controls.holders.sq i k h.0 ne) refl (o.submits k);
      }

  pub sq_takes : w.controls.holders.sq ≡ None → SqPart P (Some i) (length w.queued) w.slot modes i (Some (taken P))
  sq_takes e =
      let f = o.free e in
      let z : slot_len w.slot ≡ 0 = ap slot_len f.1 in
      let mine : is_holder (Some i) i ≡ true = eq-eqb i i refl in
      record {
        free = λ x. absurd (cc);
        mine = held_made (QueueFits (length w.queued) w.slot) (is_holder (Some i) i) (taken P) mine (omega (arith, f.0), subst (λ s. SlotFits s Closed) (sym f.1) tt);
        others = λ k ne. not_held (QueueFits (length w.queued) w.slot) (QueueFits (length w.queued) w.slot) (submits k) (is_holder (Some i) k) (modes k).sq (ap (λ (x : Option ℕ). is_holder x k) e) (holder_one (Some i) i k mine ne) (o.submits k);
      }

  -- ---- the completion side

  pub cq_still : CqPart w.controls.holders.cq w.controls.look w.completions modes i (modes i).cq
  cq_still = record { idle = o.idle; mine = o.reaps i; others = λ k ne. o.reaps k }

  pub cq_has : (p : Peeked) → (modes i).cq ≡ Some p → (reaps i ≡ true) × FrontFits w.controls.look w.completions p
  cq_has p e = held_parts (FrontFits w.controls.look w.completions) (reaps i) p (subst (λ x. CqFits w.controls.look w.completions (reaps i) x) e (o.reaps i))

  pub cq_step : (look : Look) (cs : List Completion) (p q : Peeked) → (modes i).cq ≡ Some p → FrontFits look cs q → CqPart w.controls.holders.cq look cs modes i (Some q)
  cq_step look cs p q e fit =
      let h = cq_has p e in
      record {
        idle = λ x. absurd (not_none w.controls.holders.cq i h.0 x);
        mine = held_made (FrontFits look cs) (reaps i) q h.0 fit;
        others = λ k ne. not_held (FrontFits w.controls.look w.completions) (FrontFits look cs) (reaps k) (reaps k) (modes k).cq (holder_one w.controls.holders.cq i k h.0 ne) (holder_one w.controls.holders.cq i k h.0 ne) (o.reaps k);
      }

  pub cq_frees : (look : Look) (p : Peeked) → (modes i).cq ≡ Some p → is_reaped look ≡ false → CqPart None look w.completions modes i None
  cq_frees look p e none =
      let h = cq_has p e in
      record {
        idle = λ x. none;
        mine = tt;
        others = λ k ne. not_held (FrontFits w.controls.look w.completions) (FrontFits look w.completions) (reaps k) false (modes k).cq (holder_one w.controls.holders.cq i k h.0 ne) refl (o.reaps k);
      }

  pub cq_takes : w.controls.holders.cq ≡ None → CqPart (Some i) w.controls.look w.completions modes i (Some Unseen)
  cq_takes e =
      let mine : is_holder (Some i) i ≡ true = eq-eqb i i refl in
      record {
        idle = λ x. o.idle e;
        mine = held_made (FrontFits w.controls.look w.completions) (is_holder (Some i) i) Unseen mine (o.idle e);
        others = λ k ne. not_held (FrontFits w.controls.look w.completions) (FrontFits w.controls.look w.completions) (reaps k) (is_holder (Some i) k) (modes k).cq (ap (λ (x : Option ℕ). is_holder x k) e) (holder_one (Some i) i k mine ne) (o.reaps k);
      }
