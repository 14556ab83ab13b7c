-- What a step leaves as it was: the program, and the number of requests made, but for one more.
use Rattle.std.proofs.Common.{◌≡◌, ℕ, ◌+◌, ◌≤◌, Bool, true, false, if◌then◌else◌, List, [], ◌∷◌, drop, take, Option, Some, None, ℤ, refl, subst, ◌∙◌, arith}
use Rattle.std.specs.Prelude.{slice_get}
use Rattle.rc_lang.specs.declared.lines.Line.{Line}
use Rattle.rc_lang.specs.declared.lines.Op.{Op}
use Rattle.rc_lang.specs.declared.lines.Op.TheVariants.{Set, Assign, Add, Subtract, Load, Store, Fill, Print, GetSqe, PrepRead, PrepWrite, PrepFsync, PrepNop, PrepOther, SetData64, Submit, SubmitAndWait, CqeGetData64, CqeSeen}
use Rattle.rc_lang.specs.declared.lines.Stmt.{Stmt}
use Rattle.rc_lang.specs.declared.lines.Stmt.TheVariants.{Do, Put, Lock, EndLock, If, Else, EndIf, Peek, Case, Other, Nothing, EndArm, EndPeek, Loop, EndLoop, Break}
use Rattle.rc_lang.specs.declared.request.Request.{Request}
use Rattle.rc_world.specs.declared.event.Completion.{Completion}
use Rattle.rc_world.specs.declared.event.Event.{Event}
use Rattle.rc_world.specs.declared.event.Item.{Item}
use Rattle.rc_world.specs.declared.event.Item.TheVariants.{Thread, Kernel}
use Rattle.rc_world.specs.declared.world.Slot.{Slot}
use Rattle.rc_world.specs.declared.world.Slot.TheVariants.{Closed, Vacant, Prepared}
use Rattle.rc_world.specs.Controls.{Controls, Standing, controls_step, next_line}
use Rattle.rc_world.specs.Items.{given_at, item_bytes, item_step, kernel_item, pending_place}
use Rattle.rc_world.specs.Machine.{Pending, World, all_begin, begins, count_in, fills, gets_front, given_back, hands_over, in_rings, kernel_event, kernel_step_of, op_in_rings, opens_entry, prepares, queues, reaps_front, stmt_answer, stores, submits_by, thread_step_at, with_controls}

pub record Grows (w next : World) : Type 0 where
  pub program : next.program ≡ w.program
  pub made : next.made ≤ w.made + 1

abbrev IfWorld : World → Option World → Type 0
IfWorld w None = Unit {0}
IfWorld w (Some next) = Grows w next

abbrev IfStep : World → Option (Event × World) → Type 0
IfStep w None = Unit {0}
IfStep w (Some (e, next)) = Grows w next

stays : (w : World) → Grows w w
stays w = record { program = refl; made = omega arith }

same : (w next : World) → next.program ≡ w.program → next.made ≡ w.made → Grows w next
same w next p m = record { program = p; made = omega (arith, m) }

where_true : (w next : World) (b : Bool) → Grows w next → IfWorld w (if b then Some next else None)
where_true w next true g = g
where_true w next false g = tt

stores_grow : (w : World) (b i byte : ℕ) (bytes : Option (List ℕ)) → IfWorld w (stores w b i byte bytes)
stores_grow w b i byte None = tt
stores_grow w b i byte (Some bytes) = where_true w _ _ (same w _ refl refl)

fills_grow : (w : World) (b byte : ℕ) (bytes : Option (List ℕ)) → IfWorld w (fills w b byte bytes)
fills_grow w b byte None = tt
fills_grow w b byte (Some bytes) = same w _ refl refl

opens_grow : (w : World) (slot : Slot) → IfWorld w (opens_entry w slot)
opens_grow w Closed = where_true w _ _ (same w _ refl refl)
opens_grow w Vacant = tt
opens_grow w (Prepared r) = tt

prepares_grow : (w : World) (r : Request) (slot : Slot) → IfWorld w (prepares w r slot)
prepares_grow w r Closed = tt
prepares_grow w r Vacant = where_true w _ _ (same w _ refl refl)
prepares_grow w r (Prepared s) = tt

queues_grow : (w : World) (u : ℕ) (slot : Slot) → IfWorld w (queues w u slot)
queues_grow w u Closed = tt
queues_grow w u Vacant = tt
queues_grow w u (Prepared r) = record { program = refl; made = omega arith }

begins_same : (w : World) (r : Request) → ((begins w r).program ≡ w.program) × ((begins w r).made ≡ w.made)
begins_same w r = (refl, refl)

all_begin_same : (w : World) (rs : List Request) → ((all_begin w rs).program ≡ w.program) × ((all_begin w rs).made ≡ w.made)
all_begin_same w [] = (refl, refl)
all_begin_same w (r ∷ rs) =
    let rest = all_begin_same (begins w r) rs in
    let first = begins_same w r in
    (rest.0 ∙ first.0, rest.1 ∙ first.1)

submits_grow : (w : World) (r : ℤ) → IfWorld w (submits_by w r)
submits_grow w r =
    let both = all_begin_same (record w { queued = drop (count_in r) w.queued }) (take (count_in r) w.queued) in
    where_true w _ _ (same w (hands_over w (count_in r)) both.0 both.1)

gets_grow : (w : World) (cs : List Completion) → IfWorld w (gets_front w cs)
gets_grow w [] = tt
gets_grow w (c ∷ cs) = same w _ refl refl

reaps_grow : (w : World) (cs : List Completion) → IfWorld w (reaps_front w cs)
reaps_grow w [] = tt
reaps_grow w (c ∷ cs) = same w _ refl refl

op_grows : (w : World) (t : Standing) (r : ℤ) (op : Op) → IfWorld w (op_in_rings w t r op)
op_grows w t r (Set x n) = stays w
op_grows w t r (Assign x y) = stays w
op_grows w t r (Add x y z) = stays w
op_grows w t r (Subtract x y z) = stays w
op_grows w t r (Load x b i) = stays w
op_grows w t r (Store b i x) = stores_grow w b i _ _
op_grows w t r (Fill b x) = fills_grow w b _ _
op_grows w t r (Print x) = stays w
op_grows w t r GetSqe = opens_grow w w.slot
op_grows w t r (PrepRead fd b len off) = prepares_grow w _ w.slot
op_grows w t r (PrepWrite fd b len off k) = prepares_grow w _ w.slot
op_grows w t r (PrepFsync fd datasync) = prepares_grow w _ w.slot
op_grows w t r PrepNop = prepares_grow w _ w.slot
op_grows w t r PrepOther = prepares_grow w _ w.slot
op_grows w t r (SetData64 u) = queues_grow w u w.slot
op_grows w t r (Submit x) = submits_grow w r
op_grows w t r (SubmitAndWait x n) = submits_grow w r
op_grows w t r CqeGetData64 = gets_grow w w.completions
op_grows w t r CqeSeen = reaps_grow w w.completions

rings_grow : (w : World) (t : Standing) (r : ℤ) (s : Stmt) → IfWorld w (in_rings w t r s)
rings_grow w t r (Do op) = op_grows w t r op
rings_grow w t r (Put pool k) = stays w
rings_grow w t r (Lock l) = stays w
rings_grow w t r (EndLock o l) = stays w
rings_grow w t r (If test) = stays w
rings_grow w t r (Else o) = stays w
rings_grow w t r (EndIf o) = stays w
rings_grow w t r (Peek x) = stays w
rings_grow w t r (Case o u) = stays w
rings_grow w t r (Other o) = stays w
rings_grow w t r (Nothing o) = stays w
rings_grow w t r (EndArm o) = stays w
rings_grow w t r (EndPeek o) = stays w
rings_grow w t r (Loop k) = stays w
rings_grow w t r (EndLoop o k) = stays w
rings_grow w t r (Break o releases leaves) = stays w

controls_grow : (w : World) (rings : Option World) (s : Option (Event × Controls)) → IfWorld w rings → IfStep w (with_controls rings s)
controls_grow w None s g = tt
controls_grow w (Some next) None g = tt
controls_grow w (Some next) (Some (e, c)) g = record { program = g.program; made = g.made }

thread_grows : (w : World) (i : ℕ) (r : ℤ) (t : Option Standing) (l : Option Line) → IfStep w (thread_step_at w i r t l)
thread_grows w i r None l = tt
thread_grows w i r (Some t) None = tt
thread_grows w i r (Some t) (Some l) =
    controls_grow w (in_rings w t r l.stmt) (controls_step w.program w.controls i (stmt_answer w r l.stmt)) (rings_grow w t r l.stmt)

event_grows : (w : World) (k : ℕ) (res : ℤ) (r : Request) (buffers : Option (List (Option (List ℕ)))) → IfStep w (kernel_event w k res r buffers)
event_grows w k res r None = tt
event_grows w k res r (Some buffers) = same w _ refl refl

step_where : (w : World) (b : Bool) (s : Option (Event × World)) → IfStep w s → IfStep w (if b then s else None)
step_where w true s g = g
step_where w false s g = tt

kernel_grows : (w : World) (k : ℕ) (res : ℤ) (bytes : List ℕ) (p : Option Pending) → IfStep w (kernel_step_of w k res bytes p)
kernel_grows w k res bytes None = tt
kernel_grows w k res bytes (Some p) = step_where w _ _ (event_grows w k res p.request (given_back w p.request bytes p.bytes))

kernel_item_grows : (w : World) (res : ℤ) (fill : ℕ) (k : Option ℕ) → IfStep w (kernel_item w res fill k)
kernel_item_grows w res fill None = tt
kernel_item_grows w res fill (Some k) = kernel_grows w k res (item_bytes res fill (slice_get w.pending k)) (slice_get w.pending k)

item_grows : (w : World) (item : Item) → IfStep w (item_step w item)
item_grows w (Thread i take) = thread_grows w i (given_at w take (next_line w.program w.controls i)) (slice_get w.controls.threads i) (next_line w.program w.controls i)
item_grows w (Kernel u res fill) = kernel_item_grows w res fill (pending_place w u)

pub step_grows : (w : World) (item : Item) (e : Event) (next : World) → item_step w item ≡ Some (e, next) → Grows w next
step_grows w item e next q = subst (λ s. IfStep w s) q (item_grows w item)
