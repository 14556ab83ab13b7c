-- The rule of each line: what it asks of the state before it, and the state after it.
use Rattle.std.specs.Prelude.{ℕ, ◌+◌, ◌-◌, Bool, true, false, cond, min, List, [], ◌∷◌, ◌++◌, Option, Some, None, is_some, option_map, unwrap_or, nat_eq, nat_lt, nat_le, not, ◌&&◌}
use Rattle.std.specs.List.{list_all, list_any}
use Rattle.rc_lang.specs.declared.lines.Locks.{Locks}
use Rattle.rc_lang.specs.declared.lines.Op.{Op}
use Rattle.rc_lang.specs.declared.lines.Op.TheVariants as ops
use Rattle.rc_lang.specs.declared.lines.Stmt.{Stmt}
use Rattle.rc_lang.specs.declared.lines.Stmt.TheVariants as stmts
use Rattle.rc_lang.specs.declared.lines.Test.{Test}
use Rattle.rc_lang.specs.declared.lines.Test.TheVariants.{Compare, ReadyZero, SpaceAtLeast, Take, Any}
use Rattle.rc_lang.specs.declared.program.Share.{Share}
use Rattle.rc_lang.specs.declared.program.TokenKind.{TokenKind}
use Rattle.rc_lang.specs.declared.program.TokenKind.TheVariants.{Read, Write, Fsync, Nop, Other}
use Rattle.rc_lang.specs.Program.{Program, Items, bytes_at, items_at, shares_at}
use Rattle.rc_rules.specs.declared.needs.Asks.{Asks}
use Rattle.rc_rules.specs.declared.needs.Asks.TheVariants as needs
use Rattle.rc_rules.specs.declared.cause.Cause.{Cause}
use Rattle.rc_rules.specs.declared.cause.Cause.TheVariants as causes
use Rattle.rc_rules.specs.declared.mode.Mode.{Mode}
use Rattle.rc_rules.specs.declared.mode.Peeked.{Peeked}
use Rattle.rc_rules.specs.declared.mode.Peeked.TheVariants.{Unseen, Sees, SeesOther, Got}
use Rattle.rc_rules.specs.declared.mode.Slot.{Slot}
use Rattle.rc_rules.specs.declared.mode.Slot.TheVariants.{Closed, Vacant, Prepared}
use Rattle.rc_rules.specs.declared.mode.Submitting.{Submitting}
use Rattle.rc_split.specs.Bags.{Part, ShareOf, TokenOf, Credit, token_bag, credits_bag, bag_of, bag_on, plus, minus}
use Rattle.rc_split.specs.declared.part.Part.TheVariants as parts
use Rattle.rc_split.specs.Holdings.{covers_part}
use Rattle.rc_rules.specs.Causes.{premise_number}
use Rattle.rc_rules.specs.Kinds.{kind_bag, kinds_of, line_bag, same_kind}
use Rattle.rc_rules.specs.Labels.{Label, Dead, Live}
use Rattle.rc_rules.specs.Premises.{Premise, Is, Covers}
use Rattle.rc_rules.specs.Room.{can_queue}

-- ---- what a program says

-- how many of a part there are in all
abbrev pub limit : Program → Part → ℕ
limit P (ShareOf b) = shares_at P.buffers b
limit P (TokenOf u) = 1
limit P Credit = P.completion_entries

-- ---- words of premises

abbrev pub same_slot : Slot → Slot → Bool
same_slot Closed Closed = true
same_slot Vacant Vacant = true
same_slot (Prepared k) (Prepared l) = same_kind k l
same_slot _ _ = false

abbrev pub has_kind : Slot → Bool
has_kind Closed = false
has_kind Vacant = false
has_kind (Prepared kind) = true

-- the slot is prepared as one of the kinds
abbrev pub is_prepared_as : List TokenKind → Slot → Bool
is_prepared_as kinds slot = list_any (λ kind. same_slot slot (Prepared kind)) kinds

abbrev pub is_seen : Peeked → Bool
is_seen Unseen = false
is_seen (Sees u) = true
is_seen SeesOther = true
is_seen Got = true

-- its request was reaped
abbrev pub is_got : Peeked → Bool
is_got Got = true
is_got _ = false

abbrev pub is_whole : Program → (Part → ℕ) → ℕ → Bool
is_whole P bag b = nat_le (shares_at P.buffers b) (bag (ShareOf b))

-- how many entries may be queued at the top of a loop, where its items say it and where they don't
abbrev pub queue_or : Option ℕ → ℕ → ℕ
queue_or None n = n
queue_or (Some k) n = k

abbrev pub queue_on : Program → Items → ℕ
queue_on P items = queue_or items.queue P.entries

-- what is known of the submission side: without its lock no slot is open, and nothing is queued
abbrev pub sq_of : Mode → Submitting
sq_of m = unwrap_or m.sq (record { queued = 0; slot = Closed })

-- and of the front completion: without the lock of its side it isn't peeked
abbrev pub peeked_of : Mode → Peeked
peeked_of m = unwrap_or m.cq Unseen

-- no slot is open, and no more entries are queued than this
abbrev pub keeps_queue : ℕ → Mode → Bool
keeps_queue n m = same_slot (sq_of m).slot Closed && nat_le (sq_of m).queued n

-- ---- needs

-- Without a lock the premise of this number fails, and nothing else is asked.
abbrev pub with_lock : {A : Type 0} → ℕ → Option A → (A → List (ℕ × Premise)) → List (ℕ × Premise)
with_lock v None F = (v, Is false) ∷ []
with_lock v (Some s) F = F s

-- the premise of a need, in a thread with these lists of items, on a side of the flag, where so much is held and so much
-- is known of the ring
abbrev pub meant : Program → List Items → Bool → (Part → ℕ) → Mode → Asks → Premise
meant P lists z bag m needs.SqLock = Is (is_some m.sq)
meant P lists z bag m needs.CqLock = Is (is_some m.cq)
meant P lists z bag m (needs.Part part) = Is (covers_part bag part)
meant P lists z bag m (needs.Whole b) = Is (is_whole P bag b)
meant P lists z bag m (needs.Items k) = Covers bag (bag_of (items_at lists k))
meant P lists z bag m (needs.Loop k) = Covers bag (bag_on z (items_at lists k))
meant P lists z bag m needs.Room = Is (can_queue P bag (sq_of m).queued)
meant P lists z bag m needs.Closed = Is (same_slot (sq_of m).slot Closed)
meant P lists z bag m needs.Vacant = Is (same_slot (sq_of m).slot Vacant)
meant P lists z bag m needs.Prepared = Is (has_kind (sq_of m).slot)
meant P lists z bag m (needs.Line u) = Is (is_prepared_as (kinds_of P u) (sq_of m).slot)
meant P lists z bag m (needs.Place b i) = Is (nat_lt i (bytes_at P.buffers b))
meant P lists z bag m (needs.Length b n) = Is (nat_le n (bytes_at P.buffers b))
meant P lists z bag m needs.Peeked = Is (is_seen (peeked_of m))
meant P lists z bag m needs.Left = Is (nat_le (sq_of m).queued P.left)
meant P lists z bag m needs.Agreeing = Is true
meant P lists z bag m needs.Seen = Is (not (is_got (peeked_of m)))

-- A loop has a second premise under the same number.
abbrev pub meant_besides : Program → List Items → Mode → Asks → Premise
meant_besides P lists m (needs.Loop k) = Is (keeps_queue (queue_on P (items_at lists k)) m)
meant_besides P lists m _ = Is true

-- the premises of a need, with its number, and those after it
abbrev pub then_asked : Program → List Items → Bool → (Part → ℕ) → Mode → ℕ → Asks → (Mode → List (ℕ × Premise)) → List (ℕ × Premise)
then_asked P lists z bag m v needs.SqLock rest = with_lock v m.sq (λ s. rest (record m { sq = Some s }))
then_asked P lists z bag m v needs.CqLock rest = with_lock v m.cq (λ p. rest (record m { cq = Some p }))
then_asked P lists z bag m v (needs.Loop k) rest = (v, meant_besides P lists m (needs.Loop k)) ∷ (v, meant P lists z bag m (needs.Loop k)) ∷ rest m
then_asked P lists z bag m v asks rest = (v, meant P lists z bag m asks) ∷ rest m

abbrev pub premises_of : Program → List Items → Bool → (Part → ℕ) → Mode → List (Cause × Asks) → List (ℕ × Premise)
premises_of P lists z bag m [] = []
premises_of P lists z bag m (need ∷ rest) = then_asked P lists z bag m (premise_number need.0) need.1 (λ n. premises_of P lists z bag n rest)

-- ---- what each line needs, in the order of the numbers of the causes

-- Calls on the submission side need its lock, those on the completion side its.
abbrev pub sq_lock : Cause × Asks
sq_lock = (causes.Unlocked, needs.SqLock)

abbrev pub cq_lock : Cause × Asks
cq_lock = (causes.Unlocked, needs.CqLock)

-- A completion whose request was reaped has still to be seen.
abbrev pub seen : Cause × Asks
seen = (causes.NotSeen, needs.Seen)

-- The pool without a name is reached under both, one with a name under any or none.
abbrev pub pool_needs : Option ℕ → List (Cause × Asks)
pool_needs None = sq_lock ∷ cq_lock ∷ []
pool_needs (Some n) = []

-- statements without a block; the others need nothing
abbrev pub op_needs : Op → List (Cause × Asks)
op_needs (ops.Load x b i) = (causes.NoShare, needs.Part (parts.Shares b 1)) ∷ (causes.OutOfBuffer, needs.Place b i) ∷ []
op_needs (ops.Store b i x) = (causes.NotWhole, needs.Whole b) ∷ (causes.OutOfBuffer, needs.Place b i) ∷ []
op_needs (ops.Fill b x) = (causes.NotWhole, needs.Whole b) ∷ []
op_needs ops.GetSqe = sq_lock ∷ (causes.NoCredit, needs.Part (parts.Credits 1)) ∷ (causes.QueueFull, needs.Room) ∷ (causes.SlotOpen, needs.Closed) ∷ []
op_needs (ops.PrepRead fd b len off) = sq_lock ∷ (causes.NoSlot, needs.Vacant) ∷ (causes.NotWhole, needs.Whole b) ∷ (causes.OutOfBuffer, needs.Length b len) ∷ []
op_needs (ops.PrepWrite fd b len off k) = sq_lock ∷ (causes.NoSlot, needs.Vacant) ∷ (causes.NoShare, needs.Part (parts.Shares b k)) ∷ (causes.OutOfBuffer, needs.Length b len) ∷ []
op_needs (ops.PrepFsync fd datasync) = sq_lock ∷ (causes.NoSlot, needs.Vacant) ∷ []
op_needs ops.PrepNop = sq_lock ∷ (causes.NoSlot, needs.Vacant) ∷ []
op_needs ops.PrepOther = sq_lock ∷ (causes.NoSlot, needs.Vacant) ∷ []
op_needs (ops.SetData64 u) = sq_lock ∷ (causes.NoSlot, needs.Prepared) ∷ (causes.WrongKind, needs.Line u) ∷ (causes.NoToken, needs.Part (parts.Token u)) ∷ []
op_needs (ops.Submit x) = sq_lock ∷ (causes.SlotOpen, needs.Closed) ∷ []
op_needs (ops.SubmitAndWait x n) = sq_lock ∷ (causes.SlotOpen, needs.Closed) ∷ []
op_needs ops.CqeGetData64 = cq_lock ∷ (causes.NoEntry, needs.Peeked) ∷ []
op_needs ops.CqeSeen = cq_lock ∷ (causes.NoEntry, needs.Peeked) ∷ []
op_needs _ = []

abbrev pub test_needs : Test → List (Cause × Asks)
test_needs (Compare x c n) = []
test_needs ReadyZero = sq_lock ∷ []
test_needs (SpaceAtLeast n) = sq_lock ∷ []
test_needs (Take pool k) = pool_needs pool
test_needs Any = []

-- where a loop is left, by whether the lock of the submission side is released there
abbrev pub leave_needs : Bool → List (Cause × Asks)
leave_needs true = (causes.SlotOpen, needs.Closed) ∷ (causes.QueueLeft, needs.Left) ∷ seen ∷ []
leave_needs false = (causes.SlotOpen, needs.Closed) ∷ seen ∷ []

-- at the closing brace of a lock, by whether it releases that of the submission side, and that of the completion side
abbrev pub release_needs : (sq cq : Bool) → List (Cause × Asks)
release_needs true true = (causes.SlotOpen, needs.Closed) ∷ (causes.QueueLeft, needs.Left) ∷ seen ∷ []
release_needs true false = (causes.SlotOpen, needs.Closed) ∷ (causes.QueueLeft, needs.Left) ∷ []
release_needs false true = seen ∷ []
release_needs false false = []

abbrev pub stmt_needs : Stmt → List (Cause × Asks)
stmt_needs (stmts.Do op) = op_needs op
stmt_needs (stmts.Put pool k) = pool_needs pool ++ (causes.NotHeld, needs.Items k) ∷ []
stmt_needs (stmts.EndLock o l) = release_needs l.sq l.cq
stmt_needs (stmts.If test) = test_needs test
stmt_needs (stmts.EndIf o) = (causes.JoinMismatch, needs.Agreeing) ∷ []
stmt_needs (stmts.Peek x) = cq_lock ∷ seen ∷ []
stmt_needs (stmts.EndArm o) = seen ∷ []
stmt_needs (stmts.EndPeek o) = (causes.JoinMismatch, needs.Agreeing) ∷ []
stmt_needs (stmts.Loop k) = (causes.LoopEntry, needs.Loop k) ∷ seen ∷ []
stmt_needs (stmts.EndLoop o k) = (causes.LoopBody, needs.Loop k) ∷ seen ∷ []
stmt_needs (stmts.Break o releases leaves) = leave_needs releases.sq
stmt_needs _ = []

-- ---- the state after a statement without a block; most leave it

-- no premise of a call on the ring is met without its lock
abbrev pub if_locked : {A : Type 0} → Option A → (A → Label) → Label
if_locked None F = Dead
if_locked (Some s) F = F s

-- an open entry more counts as queued, and no more are ever queued than the ring has entries
abbrev pub opened : Program → Submitting → Mode → Mode
opened P s m = record m { sq = Some (record { queued = min (s.queued + 1) P.entries; slot = Vacant }) }

abbrev pub with_slot : Slot → Submitting → Mode → Mode
with_slot slot s m = record m { sq = Some (record s { slot = slot }) }

-- What a reaped request owned comes back, as far as it is known which one it was: the shares that each kind of its token
-- owns, and the token.
abbrev pub got_bag : Program → Peeked → Part → ℕ
got_bag P Unseen p = 0
got_bag P (Sees u) p = line_bag P (kinds_of P u) p + token_bag u p
got_bag P SeesOther p = 0
got_bag P Got p = 0

-- A completion that is seen leaves its place in the ring, a credit; its request is reaped, unless it was before.
abbrev pub reaped : Program → Peeked → Part → ℕ
reaped P Unseen p = 0
reaped P (Sees u) p = got_bag P (Sees u) p + credits_bag 1 p
reaped P SeesOther p = credits_bag 1 p
reaped P Got p = credits_bag 1 p

abbrev pub op_effect : Program → (Part → ℕ) → Mode → Op → Label
op_effect P bag m ops.GetSqe = if_locked m.sq (λ s. Live (minus bag (credits_bag 1)) (opened P s m))
op_effect P bag m (ops.PrepRead fd b len off) = if_locked m.sq (λ s. Live (minus bag (kind_bag P (Read b))) (with_slot (Prepared (Read b)) s m))
op_effect P bag m (ops.PrepWrite fd b len off k) = if_locked m.sq (λ s. Live (minus bag (kind_bag P (Write b k))) (with_slot (Prepared (Write b k)) s m))
op_effect P bag m (ops.PrepFsync fd datasync) = if_locked m.sq (λ s. Live bag (with_slot (Prepared Fsync) s m))
op_effect P bag m ops.PrepNop = if_locked m.sq (λ s. Live bag (with_slot (Prepared Nop) s m))
op_effect P bag m ops.PrepOther = if_locked m.sq (λ s. Live bag (with_slot (Prepared Other) s m))
op_effect P bag m (ops.SetData64 u) = if_locked m.sq (λ s. Live (minus bag (token_bag u)) (with_slot Closed s m))
op_effect P bag m ops.CqeGetData64 = if_locked m.cq (λ p. Live (plus bag (got_bag P p)) (record m { cq = Some Got }))
op_effect P bag m ops.CqeSeen = if_locked m.cq (λ p. Live (plus bag (reaped P p)) (record m { cq = Some Unseen }))
op_effect P bag m _ = Live bag m

-- ---- states

-- A dead state is asked nothing, and stays dead.
abbrev pub asks : Label → ((Part → ℕ) → Mode → List (ℕ × Premise)) → List (ℕ × Premise)
asks Dead F = []
asks (Live bag m) F = F bag m

-- what both sides of a point are asked
abbrev pub asks_both : (Bool → Label) → (Bool → (Part → ℕ) → Mode → List (ℕ × Premise)) → List (ℕ × Premise)
asks_both labels F = asks (labels true) (F true) ++ asks (labels false) (F false)

-- what a line is asked there, in a thread with these lists of items
abbrev pub asked : Program → List Items → (Bool → Label) → Stmt → List (ℕ × Premise)
asked P lists labels stmt = asks_both labels (λ z bag m. premises_of P lists z bag m (stmt_needs stmt))

abbrev pub goes : Label → ((Part → ℕ) → Mode → Label) → Label
goes Dead F = Dead
goes (Live bag m) F = F bag m

-- ---- locks

-- which of the two are held
abbrev pub locks_of : Mode → Locks
locks_of m = record { sq = is_some m.sq; cq = is_some m.cq }

abbrev pub unlocked : Mode
unlocked = record { sq = None; cq = None }

-- what is known where some are taken: as many entries may be queued as may be left, and nothing is peeked
abbrev pub locked : Program → Locks → Mode → Mode
locked P l m = record { sq = cond l.sq (Some (record { queued = P.left; slot = Closed })) m.sq; cq = cond l.cq (Some Unseen) m.cq }

-- and where some are released
abbrev pub freed : Locks → Mode → Mode
freed l m = record { sq = cond l.sq None m.sq; cq = cond l.cq None m.cq }

abbrev pub entered : Program → Locks → Label → Label
entered P l s = goes s (λ bag m. Live bag (locked P l m))

abbrev pub released : Locks → Label → Label
released l s = goes s (λ bag m. Live bag (freed l m))

-- ---- pools

-- What is put isn't held any more.
abbrev pub put_effect : (Part → ℕ) → Mode → Items → Label
put_effect bag m items = Live (minus bag (bag_of items)) m

-- With the items no more of the part is held than there is.
abbrev pub is_within_limit : Program → (Part → ℕ) → Items → Part → Bool
is_within_limit P bag items p = nat_le (bag p + bag_of items p) (limit P p)

-- So it is of each buffer and each token that they name, and of credits.
abbrev pub has_room : Program → (Part → ℕ) → Items → Bool
has_room P bag items =
    list_all (λ (s : Share). is_within_limit P bag items (ShareOf s.buffer)) items.shares && list_all (λ u. is_within_limit P bag items (TokenOf u)) items.tokens && is_within_limit P bag items Credit

-- The request whose completion is peeked owns its token, until it is reaped.
abbrev pub names_peeked : List ℕ → Peeked → Bool
names_peeked tokens Unseen = false
names_peeked tokens (Sees u) = list_any (λ v. nat_eq v u) tokens
names_peeked tokens SeesOther = false
names_peeked tokens Got = false

-- A pool may have the items: neither the thread nor the request that is peeked has them, as far as they are known to.
abbrev pub can_take : Program → (Part → ℕ) → Mode → Items → Bool
can_take P bag m items = has_room P bag items && not (names_peeked items.tokens (peeked_of m))

-- Where no pool can have them, nothing reaches the branch that takes them.
abbrev pub take_effect : Program → (Part → ℕ) → Mode → Items → Label
take_effect P bag m items = cond (can_take P bag m items) (Live (plus bag (bag_of items)) m) Dead

-- ---- tests

-- where at most so many entries are queued
abbrev pub at_most : ℕ → Mode → Mode
at_most n m = record m { sq = option_map (λ (s : Submitting). record s { queued = min s.queued n }) m.sq }

-- what is known in the first branch
abbrev pub test_mode : Program → Test → Mode → Mode
test_mode P (Compare x c n) m = m
test_mode P ReadyZero m = at_most 0 m
test_mode P (SpaceAtLeast n) m = at_most (P.entries - n) m
test_mode P (Take pool k) m = m
test_mode P Any m = m

-- the first branch, in a thread with these lists of items
abbrev pub test_effect : Program → List Items → (Part → ℕ) → Mode → Test → Label
test_effect P lists bag m (Take pool k) = take_effect P bag m (items_at lists k)
test_effect P lists bag m test = Live bag (test_mode P test m)

-- ---- peeks

abbrev pub with_peeked : Peeked → Mode → Mode
with_peeked peeked m = record m { cq = option_map (λ _. peeked) m.cq }

abbrev pub peek_at : Peeked → Label → Label
peek_at peeked s = goes s (λ bag m. Live bag (with_peeked peeked m))

-- Where the token is held no request under it is in flight, so its completion can't come.
abbrev pub case_at : ℕ → Label → Label
case_at u s = goes s (λ bag m. cond (nat_lt 0 (bag (TokenOf u))) Dead (Live bag (with_peeked (Sees u) m)))

-- Ends that are alive have their slots at one stage, and the front completion is got at all of them or at none.
abbrev pub agree_sq : Option Submitting → Option Submitting → Bool
agree_sq (Some s) (Some t) = same_slot s.slot t.slot
agree_sq _ _ = true

abbrev pub same_got : Peeked → Peeked → Bool
same_got p q = cond (is_got p) (is_got q) (not (is_got q))

abbrev pub agree_cq : Option Peeked → Option Peeked → Bool
agree_cq (Some p) (Some q) = same_got p q
agree_cq _ _ = true

abbrev pub agree_modes : Mode → Mode → Bool
agree_modes m n = agree_sq m.sq n.sq && agree_cq m.cq n.cq

abbrev pub agree : Label → Label → Bool
agree (Live a m) (Live b n) = agree_modes m n
agree _ _ = true

abbrev pub agree_each : Label → List Label → Bool
agree_each s [] = true
agree_each s (t ∷ ts) = agree s t && agree_each s ts

abbrev pub agree_all : List Label → Bool
agree_all [] = true
agree_all (s ∷ ss) = agree_each s ss && agree_all ss

-- all ends of both sides that join agree
abbrev pub joins_both : (Bool → List Label) → List (ℕ × Premise)
joins_both ends = (premise_number causes.JoinMismatch, Is (agree_all (ends true ++ ends false))) ∷ []

-- ---- loops

-- After the top exactly the items are held, and the same locks.
abbrev pub top_sq : Program → Items → Submitting
top_sq P items = record { queued = queue_on P items; slot = Closed }

abbrev pub top_mode : Program → Items → Mode → Mode
top_mode P items m = record { sq = option_map (λ _. top_sq P items) m.sq; cq = option_map (λ _. Unseen) m.cq }

abbrev pub top : Program → Items → Bool → Label → Label
top P items z s = goes s (λ bag m. Live (bag_on z items) (top_mode P items m))

-- what a break takes to the end of its loop
abbrev pub broken : Locks → Label → Label
broken l s = goes s (λ bag m. Live bag (freed l (with_peeked Unseen m)))
