-- Statements without a block keep what is true of each world.
use Rattle.std.proofs.Common.{◌≡◌, ℕ, ◌+◌, ◌-◌, ◌≤◌, ◌<◌, Bool, true, false, cond, List, [], ◌∷◌, ◌++◌, length, take, drop, map, Option, Some, None, refl, sym, ap, ◌∙◌, subst, inl, inr, arith, length-append, length-drop}
use Rattle.std.proofs.lemmas.Bool.{leb-true}
use Rattle.std.specs.Prelude.{slice_get, slice_set, unwrap_or, min, nat_lt, ℤ, if◌then◌else◌}
use Rattle.std.proofs.lemmas.Option.{slice_get_within}
use Rattle.rc_lang.specs.declared.lines.Stmt.TheVariants.{Do}
use Rattle.rc_lang.specs.declared.lines.Op.{Op}
use Rattle.rc_lang.specs.declared.lines.Op.TheVariants.{Set, Load, Store, Fill, Print, GetSqe, PrepRead, PrepWrite, PrepFsync, PrepNop, PrepOther, SetData64, Submit, SubmitAndWait, CqeGetData64, CqeSeen}
use Rattle.rc_lang.specs.declared.program.TokenKind.{TokenKind}
use Rattle.rc_lang.specs.declared.program.TokenKind.TheVariants as tokens
use Rattle.rc_lang.specs.declared.request.Request.{Request}
use Rattle.rc_lang.specs.Program.{Program, shares_at}
use Rattle.rc_lang.specs.Kept.{IsProgram}
use Rattle.rc_rules.specs.declared.mode.Mode.{Mode}
use Rattle.rc_rules.specs.declared.mode.Peeked.{Peeked}
use Rattle.rc_rules.specs.declared.mode.Peeked.TheVariants.{Unseen, Sees, SeesOther, Got}
use Rattle.rc_rules.specs.declared.mode.Slot.{Slot}
use Rattle.rc_rules.specs.declared.mode.Slot.TheVariants.{Closed, Vacant, Prepared}
use Rattle.rc_rules.specs.declared.mode.Submitting.{Submitting}
use Rattle.rc_rules.specs.Kinds.{kind_bag, kinds_of}
use Rattle.rc_rules.specs.Needs.{line_premises}
use Rattle.rc_rules.specs.Room.{can_queue}
use Rattle.rc_rules.specs.Rules.{got_bag, is_seen, op_effect, reaped}
use Rattle.rc_rules.specs.Premises.{Meets}
use Rattle.rc_rules.proofs.Weaker.{same_slot_is}
use Rattle.rc_split.specs.Bags.{Part, ShareOf, TokenOf, Credit, shares_bag, token_bag, credits_bag, minus, plus}
use Rattle.rc_split.specs.Pools.{Pools, all_pooled}
use Rattle.rc_world.specs.declared.controls.Answer.{Answer}
use Rattle.rc_world.specs.declared.controls.Answer.TheVariants.{Byte}
use Rattle.rc_world.specs.declared.controls.Look.TheVariants as looks
use Rattle.rc_world.specs.declared.event.Action.{Action}
use Rattle.rc_world.specs.declared.event.Completion.{Completion}
use Rattle.rc_world.specs.declared.world.Slot.{Slot as Entry}
use Rattle.rc_world.specs.declared.world.Slot.TheVariants as entries
use Rattle.rc_world.specs.Controls.{Controls, Move, Standing, does, gets_data, goes_on, loads, low_byte, moved, reaps, variable}
use Rattle.rc_world.specs.Machine.{Pending, World, bytes_of, byte_of, count_in, fills, fits_buffer, front_of, gets_front, hands_over, is_take, op_answer, op_in_rings, opens_entry, prepares, queues, reaps_front, slot_len, stores, submits_by, with_bytes}
use Rattle.rc_admit.proofs.Flight.{begun, is_reaped, taken_sum}
use Rattle.rc_admit.proofs.Fronts.{freed_place, front, front_kind, given_back, nonempty_head, seen, starts_head, told, told_again}
use Rattle.rc_admit.proofs.RequestKinds.{FitsKind, HasKind, IsAmong, kind_for, kind_found, kinds_distinct, owns, prepared_as, taken_by}
use Rattle.rc_split.proofs.PoolBags.{same_or_not}
use Rattle.rc_admit.proofs.Lists.{sum_over, sum_over-append, Each, Each-append, Each-take, Each-drop, Each-map}
use Rattle.rc_admit.proofs.Moves.{Moved, SqPart, moves, put, cq_has, cq_still, sq_has, sq_step, sq_still}
use Rattle.rc_admit.proofs.Owned.{Stand, Leads, MayBecome, HasEdge, slot_bag, owns_pending, SlotFits, mode_bag, HasKindPending, Owned, WellOwned}
use Rattle.rc_admit.proofs.Rule.{AtLive, Claim, called, then_known}
use Rattle.rc_admit.proofs.Tokens.{entry_free}

pub credit_covered : (b : Part → ℕ) → 1 ≤ b Credit → (p : Part) → credits_bag 1 p ≤ b p
credit_covered b h (ShareOf c) = omega arith
credit_covered b h (TokenOf u) = omega arith
credit_covered b h Credit = h

pub token_covered : (b : Part → ℕ) (u : ℕ) → 1 ≤ b (TokenOf u) → (p : Part) → token_bag u p ≤ b p
token_covered b u h (ShareOf c) = omega arith
token_covered b u h (TokenOf v) = elim (same_or_not u v) [
  | inl e ↦ let x : b (TokenOf u) ≡ b (TokenOf v) = ap (λ k. b (TokenOf k)) e.0 in let y : token_bag u (TokenOf v) ≡ 1 = ap (λ t. cond t 1 0) e.1 in omega arith
  | inr e ↦ let y : token_bag u (TokenOf v) ≡ 0 = ap (λ t. cond t 1 0) e.1 in omega arith
]
token_covered b u h Credit = omega arith

pub shares_covered : (b : Part → ℕ) (c k : ℕ) → k ≤ b (ShareOf c) → (p : Part) → shares_bag c k p ≤ b p
shares_covered b c k h (ShareOf d) = elim (same_or_not c d) [
  | inl e ↦ let x : b (ShareOf c) ≡ b (ShareOf d) = ap (λ n. b (ShareOf n)) e.0 in let y : shares_bag c k (ShareOf d) ≡ k = ap (λ t. cond t k 0) e.1 in omega arith
  | inr e ↦ let y : shares_bag c k (ShareOf d) ≡ 0 = ap (λ t. cond t k 0) e.1 in omega arith
]
shares_covered b c k h (TokenOf u) = omega arith
shares_covered b c k h Credit = omega arith

pub slot_closed : (s : Entry) → SlotFits s Closed → s ≡ entries.Closed
slot_closed entries.Closed h = refl
slot_closed entries.Vacant h = absurd h
slot_closed (entries.Prepared r) h = absurd h

pub slot_vacant : (s : Entry) → SlotFits s Vacant → s ≡ entries.Vacant
slot_vacant entries.Closed h = absurd h
slot_vacant entries.Vacant h = refl
slot_vacant (entries.Prepared r) h = absurd h

pub slot_prepared : (s : Entry) (kind : TokenKind) → SlotFits s (Prepared kind) → (r : Request) × (s ≡ entries.Prepared r) × FitsKind r kind
slot_prepared entries.Closed kind h = absurd h
slot_prepared entries.Vacant kind h = absurd h
slot_prepared (entries.Prepared r) kind h = (r, refl, h)

-- ---- what changes

-- nothing but buffers
pub quiet : (P : Program) (S : Stand) (w : World) (bs : List (Option (List ℕ))) (bags : ℕ → Part → ℕ) (modes : ℕ → Mode) (i : ℕ) → Owned P S w bags modes → Moved P w (record w { buffers = bs }) bags modes i (bags i) (modes i)
quiet P S w bs bags modes i o = record {
  of = o.of;
  room = o.room;
  same = refl;
  local = λ p. omega arith;
  submits = sq_still P S w bags modes i o;
  reaps = cq_still P S w bags modes i o;
  queued = o.queued;
  pending = o.pending;
  completed = o.completed;
  agree = o.agree;
}

abbrev pub with_pools : World → Pools → World
with_pools w pools = record w { controls = record w.controls { pools = pools } }

-- nothing but the pools, and what the thread holds: together they have no more than before
pub pooling : (P : Program) (S : Stand) (w : World) (pools : Pools) (bags : ℕ → Part → ℕ) (modes : ℕ → Mode) (i : ℕ) (b : Part → ℕ) → Owned P S w bags modes → ((p : Part) → b p + all_pooled P pools p ≤ bags i p + all_pooled P w.controls.pools p) → Moved P w (with_pools w pools) bags modes i b (modes i)
pooling P S w pools bags modes i b o local = record {
  of = o.of;
  room = o.room;
  same = refl;
  local = λ p. let h : b p + all_pooled P pools p ≤ bags i p + all_pooled P w.controls.pools p = local p in omega arith;
  submits = sq_still P S w bags modes i o;
  reaps = cq_still P S w bags modes i o;
  queued = o.queued;
  pending = o.pending;
  completed = o.completed;
  agree = o.agree;
}

abbrev pub with_slot : World → Entry → World
with_slot w x = record w { slot = x }

module _ (P : Program) (S : Stand) (w : World) (bags : ℕ → Part → ℕ) (modes : ℕ → Mode) (i : ℕ) (o : Owned P S w bags modes) where
  -- ---- calls on the submission side

  module _ (s : Submitting) (e : (modes i).sq ≡ Some s) where
    -- with other knowledge of it
    abbrev knowing : Submitting → Mode
    knowing t = record (modes i) { sq = Some t }

    -- what the world has, from the label
    has : (length w.queued + slot_len w.slot ≤ s.queued) × SlotFits w.slot s.slot
    has = let h = sq_has P S w bags modes i o s e in (h.1, h.2)

    -- what the slot owns
    owned_by_slot : (p : Part) → mode_bag P (modes i) p ≡ slot_bag P s.slot p
    owned_by_slot p = ap (λ (x : Option Submitting). slot_bag P (unwrap_or x (record { queued = 0; slot = Closed })).slot p) e

    -- only the slot changes
    slots : (x : Entry) (b : Part → ℕ) (q : ℕ) (y : Slot) → ((p : Part) → b p + slot_bag P y p ≤ bags i p + slot_bag P s.slot p) → length w.queued + slot_len x ≤ q → length w.queued + slot_len x ≤ P.entries → SlotFits x y → Moved P w (with_slot w x) bags modes i b (knowing (record { queued = q; slot = y }))
    slots x b q y local bound room fit = record {
      of = o.of;
      room = room;
      same = refl;
      local = λ p. let h : b p + slot_bag P y p ≤ bags i p + slot_bag P s.slot p = local p in let g : mode_bag P (modes i) p ≡ slot_bag P s.slot p = owned_by_slot p in omega arith;
      submits = sq_step P S w bags modes i o (length w.queued) x s (record { queued = q; slot = y }) e bound fit;
      reaps = cq_still P S w bags modes i o;
      queued = o.queued;
      pending = o.pending;
      completed = o.completed;
      agree = o.agree;
    }

    pub get_sqe : 1 ≤ bags i Credit → length w.queued < P.entries → s.slot ≡ Closed → Moved P w (with_slot w entries.Vacant) bags modes i (minus (bags i) (credits_bag 1)) (knowing (record { queued = min (s.queued + 1) P.entries; slot = Vacant }))
    get_sqe c lt f =
        let h : length w.queued + slot_len w.slot ≤ s.queued = has.0 in
        slots entries.Vacant (minus (bags i) (credits_bag 1)) (min (s.queued + 1) P.entries) Vacant
        (λ p. let x : credits_bag 1 p ≤ bags i p = credit_covered (bags i) c p in let y : slot_bag P s.slot p ≡ 0 = ap (λ z. slot_bag P z p) f in omega arith)
        (omega arith) (omega arith) tt

    pub prep : (kind : TokenKind) (r : Request) → FitsKind r kind → ((p : Part) → kind_bag P kind p ≤ bags i p) → s.slot ≡ Vacant → Moved P w (with_slot w (entries.Prepared r)) bags modes i (minus (bags i) (kind_bag P kind)) (knowing (record s { slot = Prepared kind }))
    prep kind r fit c f =
        let x : w.slot ≡ entries.Vacant = slot_vacant w.slot (subst (λ y. SlotFits w.slot y) f has.1) in
        let z : slot_len w.slot ≡ 1 = ap slot_len x in
        let g : length w.queued + slot_len w.slot ≤ P.entries = o.room in
        let h : length w.queued + slot_len w.slot ≤ s.queued = has.0 in
        slots (entries.Prepared r) (minus (bags i) (kind_bag P kind)) s.queued (Prepared kind)
        (λ p. let x : kind_bag P kind p ≤ bags i p = c p in let y : slot_bag P s.slot p ≡ credits_bag 1 p = ap (λ z. slot_bag P z p) f in omega arith)
        (omega arith) (omega arith) fit

    pub set_data : (u : ℕ) (r : Request) (kind : TokenKind) → w.slot ≡ entries.Prepared r → kind_for P (record r { serial = w.made + 1; user_data = u }) ≡ Some kind → IsAmong kind (kinds_of P u) → FitsKind r kind → s.slot ≡ Prepared kind → 1 ≤ bags i (TokenOf u)
        → Moved P w (record w { slot = entries.Closed; queued = w.queued ++ record r { serial = w.made + 1; user_data = u } ∷ []; made = w.made + 1 }) bags modes i (minus (bags i) (token_bag u)) (knowing (record s { slot = Closed }))
    set_data u r kind x is among fit f c =
        let new : Request = record r { serial = w.made + 1; user_data = u } in
        let z : slot_len w.slot ≡ 1 = ap slot_len x in
        let g : length w.queued + slot_len w.slot ≤ P.entries = o.room in
        let h : length w.queued + slot_len w.slot ≤ s.queued = has.0 in
        let l : length (w.queued ++ new ∷ []) ≡ length w.queued + 1 = length-append w.queued (new ∷ []) in
        record {
          of = o.of;
          room = omega arith;
          same = refl;
          local = λ p.
              let x : token_bag u p ≤ bags i p = token_covered (bags i) u c p in
              let y : slot_bag P s.slot p ≡ kind_bag P kind p + credits_bag 1 p = ap (λ z. slot_bag P z p) f in
              let v : mode_bag P (modes i) p ≡ slot_bag P s.slot p = owned_by_slot p in
              let k : taken_by P (kind_for P new) p ≡ kind_bag P kind p = ap (λ z. taken_by P z p) is in
              let a : sum_over (owns P p) (w.queued ++ new ∷ []) ≡ sum_over (owns P p) w.queued + (owns P p new + 0) = sum_over-append (owns P p) w.queued (new ∷ []) in
              omega arith;
          submits = sq_step P S w bags modes i o (length (w.queued ++ new ∷ [])) entries.Closed s (record s { slot = Closed }) e (omega arith) tt;
          reaps = cq_still P S w bags modes i o;
          queued = Each-append (HasKind P) w.queued (new ∷ []) o.queued (record { kind = kind; is = is; fits = fit; among = among }, tt);
          pending = o.pending;
          completed = o.completed;
          agree = o.agree;
        }

    pub submit : (n : ℕ) (ps : List Pending) (bs : List (Option (List ℕ))) → map (λ (x : Pending). x.request) ps ≡ take n w.queued → Moved P w (record w { queued = drop n w.queued; pending = w.pending ++ ps; buffers = bs }) bags modes i (bags i) (modes i)
    submit n ps bs are =
        let h : length w.queued + slot_len w.slot ≤ s.queued = has.0 in
        let l : length (drop n w.queued) ≡ length w.queued - n = length-drop n w.queued in
        let g : length w.queued + slot_len w.slot ≤ P.entries = o.room in
        record {
          of = o.of;
          room = omega arith;
          same = refl;
          local = λ p.
              let a : sum_over (owns P p) (drop n w.queued) + sum_over (owns_pending P p) (w.pending ++ ps) ≡ sum_over (owns P p) w.queued + sum_over (owns_pending P p) w.pending = taken_sum (owns P p) n w.queued w.pending ps are in
              omega arith;
          submits = subst (λ x. SqPart P w.controls.holders.sq (length (drop n w.queued)) w.slot modes i x) (sym e) (sq_step P S w bags modes i o (length (drop n w.queued)) w.slot s s e (omega arith) has.1);
          reaps = cq_still P S w bags modes i o;
          queued = Each-drop (HasKind P) n w.queued o.queued;
          pending = Each-append (HasKindPending P) w.pending ps o.pending (Each-map (HasKind P) (λ (x : Pending). x.request) ps (subst (λ xs. Each (HasKind P) xs) (sym are) (Each-take (HasKind P) n w.queued o.queued)));
          completed = o.completed;
          agree = o.agree;
        }

-- Where a step can be made, the world after it is well owned.
abbrev pub Keeps : Program → Stand → Controls → ℕ → Option World → Option Move → Type 0
Keeps P S c i None m = Unit {0}
Keeps P S c i (Some v) None = Unit {0}
Keeps P S c i (Some v) (Some m) = WellOwned P S (record v { controls = moved P c i m })

module _ (P : Program) (made : IsProgram P) (S : Stand) (edge : HasEdge P S) (w : World) (bags : ℕ → Part → ℕ) (modes : ℕ → Mode) (i : ℕ) (t : Standing) (r : ℤ) (o : Owned P S w bags modes) (get : slice_get w.controls.threads i ≡ Some t) where
  goes : (w1 : World) (vars : List ℤ) (b : Part → ℕ) (m : Mode) → Moved P w w1 bags modes i b m → Leads S i b m vars (t.place + 1) → WellOwned P S (put P w1 i (t.place + 1) vars)
  goes w1 vars b m v l = moves P S edge w w1 bags modes i t (t.place + 1) vars b m o get v l

  same_bag : (b : Part → ℕ) (m : Mode) (vars : List ℤ) (a : Part → ℕ) → ((p : Part) → b p ≤ a p) → Leads S i b m vars (t.place + 1) → Leads S i a m vars (t.place + 1)
  same_bag b m vars a h l = record { bag = l.bag; mode = l.mode; less = λ p. omega (arith, l.less p, h p); weaker = l.weaker; stands = l.stands }

  -- only buffers and variables change
  quietly : (bs : List (Option (List ℕ))) (vars : List ℤ) → Leads S i (bags i) (modes i) vars (t.place + 1) → WellOwned P S (put P (record w { buffers = bs }) i (t.place + 1) vars)
  quietly bs vars l = goes _ vars (bags i) (modes i) (quiet P S w bs bags modes i o) l

  load_keeps : (x : ℕ) (a : Answer) → ((v : ℤ) → Leads S i (bags i) (modes i) (slice_set t.variables x v) (t.place + 1)) → Keeps P S w.controls i (Some w) (loads w.controls t x a)
  load_keeps x (Byte b) h = quietly w.buffers _ (h _)
  load_keeps x _ h = tt

  store_keeps : (b j byte : ℕ) (action : Action) (bytes : Option (List ℕ)) → Leads S i (bags i) (modes i) t.variables (t.place + 1) → Keeps P S w.controls i (stores w b j byte bytes) (Some (goes_on w.controls t action))
  store_keeps b j byte action None h = tt
  store_keeps b j byte action (Some bytes) h = go (nat_lt j (length bytes))
    where
      go : (y : Bool) → Keeps P S w.controls i (if y then Some (with_bytes w b (slice_set bytes j byte)) else None) (Some (goes_on w.controls t action))
      go true = quietly _ t.variables h
      go false = tt

  fill_keeps : (b byte : ℕ) (action : Action) (bytes : Option (List ℕ)) → Leads S i (bags i) (modes i) t.variables (t.place + 1) → Keeps P S w.controls i (fills w b byte bytes) (Some (goes_on w.controls t action))
  fill_keeps b byte action None h = tt
  fill_keeps b byte action (Some bytes) h = quietly _ t.variables h

  room : (s : Submitting) → (modes i).sq ≡ Some s → can_queue P (bags i) s.queued ≡ true → length w.queued < P.entries
  room s e c =
      let h : length w.queued + slot_len w.slot ≤ s.queued = (has P S w bags modes i o s e).0 in
      entry_free P S w bags modes i o (slice_get_within w.controls.threads i t get) s.queued (omega (arith, h)) c

  -- a slot that opens, and one that is filled
  open_keeps : (s : Submitting) (action : Action) (x : Entry) → (modes i).sq ≡ Some s → 1 ≤ bags i Credit → can_queue P (bags i) s.queued ≡ true → s.slot ≡ Closed → Leads S i (minus (bags i) (credits_bag 1)) (record (modes i) { sq = Some (record { queued = min (s.queued + 1) P.entries; slot = Vacant }) }) t.variables (t.place + 1) → Keeps P S w.controls i (opens_entry w x) (Some (goes_on w.controls t action))
  open_keeps s action entries.Vacant e c lt f l = tt
  open_keeps s action (entries.Prepared q) e c lt f l = tt
  open_keeps s action entries.Closed e c lt f l = go (nat_lt (length w.queued) w.program.entries)
    where
      go : (y : Bool) → Keeps P S w.controls i (if y then Some (record w { slot = entries.Vacant }) else None) (Some (goes_on w.controls t action))
      go true = goes _ t.variables _ _ (get_sqe P S w bags modes i o s e c (room s e lt) f) l
      go false = tt

  prep_keeps : (s : Submitting) (action : Action) (kind : TokenKind) (q : Request) (x : Entry) → (modes i).sq ≡ Some s → FitsKind q kind → ((p : Part) → kind_bag P kind p ≤ bags i p) → s.slot ≡ Vacant → Leads S i (minus (bags i) (kind_bag P kind)) (record (modes i) { sq = Some (record s { slot = Prepared kind }) }) t.variables (t.place + 1) → Keeps P S w.controls i (prepares w q x) (Some (goes_on w.controls t action))
  prep_keeps s action kind q entries.Closed e k c f l = tt
  prep_keeps s action kind q (entries.Prepared y) e k c f l = tt
  prep_keeps s action kind q entries.Vacant e k c f l = go (fits_buffer w.program q)
    where
      go : (y : Bool) → Keeps P S w.controls i (if y then Some (record w { slot = entries.Prepared q }) else None) (Some (goes_on w.controls t action))
      go true = goes _ t.variables _ _ (prep P S w bags modes i o s e kind q k c f) l
      go false = tt

  -- an entry that is queued
  queue_keeps : (s : Submitting) (action : Action) (u : ℕ) (kind : TokenKind) (x : Entry) → w.slot ≡ x → (modes i).sq ≡ Some s → IsAmong kind (kinds_of P u) → s.slot ≡ Prepared kind → 1 ≤ bags i (TokenOf u) → Leads S i (minus (bags i) (token_bag u)) (record (modes i) { sq = Some (record s { slot = Closed }) }) t.variables (t.place + 1) → Keeps P S w.controls i (queues w u x) (Some (goes_on w.controls t action))
  queue_keeps s action u kind entries.Closed q e k f c l = tt
  queue_keeps s action u kind entries.Vacant q e k f c l = tt
  queue_keeps s action u kind (entries.Prepared x) q e k f c l =
      let fit : SlotFits (entries.Prepared x) (Prepared kind) = subst (λ y. SlotFits y (Prepared kind)) q (subst (λ y. SlotFits w.slot y) f (sq_has P S w bags modes i o s e).2) in
      let is = kind_found (record x { serial = w.made + 1; user_data = u }) kind (kinds_of P u) fit k (kinds_distinct P made u) in
      goes _ t.variables _ _ (set_data P S w bags modes i o s e u x kind q is k fit f c) l

  -- entries that are submitted
  submit_keeps : (s : Submitting) (x : ℕ) (action : Action) → (modes i).sq ≡ Some s → Leads S i (bags i) (modes i) (slice_set t.variables x r) (t.place + 1) → Keeps P S w.controls i (submits_by w r) (Some (record { action = action; holders = w.controls.holders; look = w.controls.look; pools = w.controls.pools; place = t.place + 1; variables = slice_set t.variables x r }))
  submit_keeps s x action e l = go (is_take w r)
    where
      handed : WellOwned P S (record (hands_over w (count_in r)) { controls = moved P w.controls i (record { action = action; holders = w.controls.holders; look = w.controls.look; pools = w.controls.pools; place = t.place + 1; variables = slice_set t.variables x r }) })
      handed =
          let n = begun (record w { queued = drop (count_in r) w.queued }) (take (count_in r) w.queued) in
          subst (λ (v : World). WellOwned P S (record v { controls = moved P w.controls i (record { action = action; holders = w.controls.holders; look = w.controls.look; pools = w.controls.pools; place = t.place + 1; variables = slice_set t.variables x r }) })) (sym n.is)
          (goes _ (slice_set t.variables x r) (bags i) (modes i) (submit P S w bags modes i o s e (count_in r) n.pending n.buffers n.are) l)

      go : (y : Bool) → Keeps P S w.controls i (if y then Some (hands_over w (count_in r)) else None) (Some (record { action = action; holders = w.controls.holders; look = w.controls.look; pools = w.controls.pools; place = t.place + 1; variables = slice_set t.variables x r }))
      go true = handed
      go false = tt

  -- ---- the front completion

  -- It is seen: its request is reaped,
  seen_keeps : (k : Peeked) (b : Part → ℕ) (d : Completion) (ds : List Completion) → (modes i).cq ≡ Some k → w.controls.look ≡ looks.Peeked → w.completions ≡ d ∷ ds → ((x : Request) → HasKind P x → x.user_data ≡ d.user_data → (p : Part) → b p ≤ bags i p + owns P p x) → Leads S i b (record (modes i) { cq = Some Unseen }) t.variables (t.place + 1)
      → Keeps P S w.controls i (reaps_front w w.completions) (reaps w.controls t (front_of w.completions))
  seen_keeps k b d ds e n ec local l =
      let m : is_reaped w.controls.look ≡ false = ap is_reaped n in
      let f = front P S w bags modes i o k e d ds ec m in
      subst (λ cs. Keeps P S w.controls i (reaps_front w cs) (reaps w.controls t (front_of cs))) (sym ec)
      (goes _ t.variables b (record (modes i) { cq = Some Unseen }) (seen P S w bags modes i o k e d ds ec m b (local f.request (front_kind P S w bags modes i o k e d ds ec m) f.same)) l)

  -- unless it was before.
  reap_keeps : (k : Peeked) → (modes i).cq ≡ Some k → is_seen k ≡ true → Leads S i (plus (bags i) (reaped P k)) (record (modes i) { cq = Some Unseen }) t.variables (t.place + 1) → Keeps P S w.controls i (reaps_front w w.completions) (reaps w.controls t (front_of w.completions))
  reap_keeps Unseen e h l = absurd (cc)
  reap_keeps (Sees u) e h l =
      let f = (cq_has P S w bags modes i o (Sees u) e).1 in
      let a = starts_head u w.completions f.1 in
      seen_keeps (Sees u) (plus (bags i) (reaped P (Sees u))) a.0 a.1 e f.0 a.2 (λ x kind is p. omega (arith, given_back P x u p kind (is ∙ a.3))) l
  reap_keeps SeesOther e h l =
      let f = (cq_has P S w bags modes i o SeesOther e).1 in
      let a = nonempty_head w.completions f.1 in
      seen_keeps SeesOther (plus (bags i) (credits_bag 1)) a.0 a.1 e f.0 a.2 (λ x kind is p. omega arith) l
  reap_keeps Got e h l =
      let f = (cq_has P S w bags modes i o Got e).1 in
      let a = nonempty_head w.completions f.1 in
      subst (λ cs. Keeps P S w.controls i (reaps_front w cs) (reaps w.controls t (front_of cs))) (sym a.2)
      (goes _ t.variables _ _ (freed_place P S w bags modes i o Got e a.0 a.1 a.2 f.0) l)

  -- Its user data is got: so is its request, and the entry stays.
  told_keeps : (k : Peeked) (b : Part → ℕ) (d : Completion) (ds : List Completion) → (modes i).cq ≡ Some k → w.controls.look ≡ looks.Peeked → w.completions ≡ d ∷ ds → ((x : Request) → HasKind P x → x.user_data ≡ d.user_data → (p : Part) → b p + credits_bag 1 p ≤ bags i p + owns P p x) → Leads S i b (record (modes i) { cq = Some Got }) t.variables (t.place + 1)
      → Keeps P S w.controls i (gets_front w w.completions) (gets_data w.controls t (front_of w.completions))
  told_keeps k b d ds e n ec local l =
      let m : is_reaped w.controls.look ≡ false = ap is_reaped n in
      let f = front P S w bags modes i o k e d ds ec m in
      subst (λ cs. Keeps P S w.controls i (gets_front w cs) (gets_data w.controls t (front_of cs))) (sym ec)
      (goes _ t.variables b (record (modes i) { cq = Some Got }) (told P S w bags modes i o k e d ds ec m b (local f.request (front_kind P S w bags modes i o k e d ds ec m) f.same)) l)

  get_keeps : (k : Peeked) → (modes i).cq ≡ Some k → is_seen k ≡ true → Leads S i (plus (bags i) (got_bag P k)) (record (modes i) { cq = Some Got }) t.variables (t.place + 1) → Keeps P S w.controls i (gets_front w w.completions) (gets_data w.controls t (front_of w.completions))
  get_keeps Unseen e h l = absurd (cc)
  get_keeps (Sees u) e h l =
      let f = (cq_has P S w bags modes i o (Sees u) e).1 in
      let a = starts_head u w.completions f.1 in
      told_keeps (Sees u) (plus (bags i) (got_bag P (Sees u))) a.0 a.1 e f.0 a.2 (λ x kind is p. omega (arith, given_back P x u p kind (is ∙ a.3))) l
  get_keeps SeesOther e h l =
      let f = (cq_has P S w bags modes i o SeesOther e).1 in
      let a = nonempty_head w.completions f.1 in
      told_keeps SeesOther (plus (bags i) (got_bag P SeesOther)) a.0 a.1 e f.0 a.2 (λ x kind is p. omega arith) l
  get_keeps Got e h l =
      let f = (cq_has P S w bags modes i o Got e).1 in
      let a = nonempty_head w.completions f.1 in
      subst (λ cs. Keeps P S w.controls i (gets_front w cs) (gets_data w.controls t (front_of cs))) (sym a.2)
      (goes _ t.variables _ _ (told_again P S w bags modes i o Got e a.0 a.1 a.2 f.0) l)

  -- what the rule of a statement says after it
  abbrev Behind : Op → Claim
  Behind op b m = (new : List ℤ) → MayBecome op t.variables new → Leads S i b m new (t.place + 1)

  pub op_keeps : (op : Op) → Meets (line_premises P [] (bags i) (modes i) (Do op)) × AtLive (op_effect P (bags i) (modes i) op) (λ b m. (new : List ℤ) → MayBecome op t.variables new → Leads S i b m new (t.place + 1)) → Keeps P S w.controls i (op_in_rings w t r op) (does w.controls t op (op_answer w r op))
  op_keeps (Set x n) h = quietly w.buffers _ (h.1 _ refl)
  op_keeps (Load x b j) h = load_keeps x (byte_of j (bytes_of w b)) (λ v. h.1 _ (v, refl))
  op_keeps (Store b j x) h = store_keeps b j (low_byte (variable t x)) _ (bytes_of w b) (h.1 t.variables refl)
  op_keeps (Fill b x) h = fill_keeps b (low_byte (variable t x)) _ (bytes_of w b) (h.1 t.variables refl)
  op_keeps (Print x) h = quietly w.buffers t.variables (h.1 t.variables refl)
  op_keeps GetSqe h =
      let x = called (modes i).sq _ h.0 in
      open_keeps x.known _ w.slot x.is (leb-true 1 _ (x.asked 2)) (x.asked 3) (same_slot_is x.known.slot Closed (x.asked 4)) (then_known (modes i).sq _ (Behind GetSqe) x.known x.is h.1 t.variables refl)
  op_keeps (PrepRead fd b len off) h =
      let x = called (modes i).sq _ h.0 in
      prep_keeps x.known _ (tokens.Read b) _ w.slot x.is (refl, refl) (shares_covered (bags i) b (shares_at P.buffers b) (leb-true _ _ (x.asked 7))) (same_slot_is x.known.slot Vacant (x.asked 5)) (then_known (modes i).sq _ (Behind (PrepRead fd b len off)) x.known x.is h.1 t.variables refl)
  op_keeps (PrepWrite fd b len off k) h =
      let x = called (modes i).sq _ h.0 in
      prep_keeps x.known _ (tokens.Write b k) _ w.slot x.is (refl, refl) (shares_covered (bags i) b k (leb-true _ _ (x.asked 8))) (same_slot_is x.known.slot Vacant (x.asked 5)) (then_known (modes i).sq _ (Behind (PrepWrite fd b len off k)) x.known x.is h.1 t.variables refl)
  op_keeps (PrepFsync fd datasync) h =
      let x = called (modes i).sq _ h.0 in
      prep_keeps x.known _ tokens.Fsync _ w.slot x.is refl (λ p. omega arith) (same_slot_is x.known.slot Vacant (x.asked 5)) (same_bag (bags i) (record (modes i) { sq = Some (record x.known { slot = Prepared tokens.Fsync }) }) t.variables (minus (bags i) (kind_bag P tokens.Fsync)) (λ p. omega arith) (then_known (modes i).sq _ (Behind (PrepFsync fd datasync)) x.known x.is h.1 t.variables refl))
  op_keeps PrepNop h =
      let x = called (modes i).sq _ h.0 in
      prep_keeps x.known _ tokens.Nop _ w.slot x.is refl (λ p. omega arith) (same_slot_is x.known.slot Vacant (x.asked 5)) (same_bag (bags i) (record (modes i) { sq = Some (record x.known { slot = Prepared tokens.Nop }) }) t.variables (minus (bags i) (kind_bag P tokens.Nop)) (λ p. omega arith) (then_known (modes i).sq _ (Behind PrepNop) x.known x.is h.1 t.variables refl))
  op_keeps PrepOther h =
      let x = called (modes i).sq _ h.0 in
      prep_keeps x.known _ tokens.Other _ w.slot x.is refl (λ p. omega arith) (same_slot_is x.known.slot Vacant (x.asked 5)) (same_bag (bags i) (record (modes i) { sq = Some (record x.known { slot = Prepared tokens.Other }) }) t.variables (minus (bags i) (kind_bag P tokens.Other)) (λ p. omega arith) (then_known (modes i).sq _ (Behind PrepOther) x.known x.is h.1 t.variables refl))
  op_keeps (SetData64 u) h =
      let x = called (modes i).sq _ h.0 in
      let k = prepared_as (kinds_of P u) x.known.slot (x.asked 6) in
      queue_keeps x.known _ u k.0 w.slot refl x.is k.1 k.2 (leb-true 1 _ (x.asked 10)) (then_known (modes i).sq _ (Behind (SetData64 u)) x.known x.is h.1 t.variables refl)
  op_keeps (Submit x) h = let s = called (modes i).sq _ h.0 in submit_keeps s.known x _ s.is (h.1 _ (_, refl))
  op_keeps (SubmitAndWait x n) h = let s = called (modes i).sq _ h.0 in submit_keeps s.known x _ s.is (h.1 _ (_, refl))
  op_keeps CqeGetData64 h = let x = called (modes i).cq _ h.0 in get_keeps x.known x.is (x.asked 11) (then_known (modes i).cq _ (Behind CqeGetData64) x.known x.is h.1 t.variables refl)
  op_keeps CqeSeen h = let x = called (modes i).cq _ h.0 in reap_keeps x.known x.is (x.asked 11) (then_known (modes i).cq _ (Behind CqeSeen) x.known x.is h.1 t.variables refl)
  op_keeps _ h = quietly w.buffers _ (h.1 _ (_, refl))
