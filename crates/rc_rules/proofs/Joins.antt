-- Where two states join, the premise of the sides of both: what is known of the ring on one side of each tells.
use Rattle.std.proofs.Common.{◌≡◌, Bool, true, false, cond, not, ◌&&◌, [], ◌∷◌, Option, Some, None, refl, sym, ap, ◌∙◌}
use Rattle.rc_split.specs.Holdings.{Holding}
use Rattle.rc_rules.specs.declared.mode.Mode.{Mode}
use Rattle.rc_rules.specs.declared.mode.Peeked.{Peeked}
use Rattle.rc_rules.specs.declared.mode.Submitting.{Submitting}
use Rattle.rc_rules.specs.Labels.{Label, Dead, Live, UnderLock}
use Rattle.rc_rules.specs.Rules.{same_slot, is_got, agree_cq, agree_modes, agree_sq, agree, agree_all}
use Rattle.rc_rules.specs.States.{State, label_of, label_in, mode_in, mode_or, mode_of, IsState}
use Rattle.rc_rules.proofs.Alike.{Alike, AlikeModes, SameGot, SameStage, alike, modes_agree, slot_sym}

sq_left : (o p q : Option Submitting) → UnderLock SameStage o p → agree_sq o q ≡ agree_sq p q
sq_left None None q l = refl
sq_left None (Some t) q l = absurd l
sq_left (Some s) None q l = absurd l
sq_left (Some s) (Some t) None l = refl
sq_left (Some s) (Some t) (Some u) l = ap (λ x. same_slot x u.slot) l

cq_left : (o p q : Option Peeked) → UnderLock SameGot o p → agree_cq o q ≡ agree_cq p q
cq_left None None q l = refl
cq_left None (Some t) q l = absurd l
cq_left (Some s) None q l = absurd l
cq_left (Some s) (Some t) None l = refl
cq_left (Some s) (Some t) (Some u) l = ap (λ b. cond b (is_got u) (not (is_got u))) l

sq_swap : (o p : Option Submitting) → agree_sq o p ≡ agree_sq p o
sq_swap None None = refl
sq_swap None (Some t) = refl
sq_swap (Some s) None = refl
sq_swap (Some s) (Some t) = slot_sym s.slot t.slot

bool_swap : (a b : Bool) → cond a b (not b) ≡ cond b a (not a)
bool_swap true true = refl
bool_swap true false = refl
bool_swap false true = refl
bool_swap false false = refl

cq_swap : (o p : Option Peeked) → agree_cq o p ≡ agree_cq p o
cq_swap None None = refl
cq_swap None (Some t) = refl
cq_swap (Some s) None = refl
cq_swap (Some s) (Some t) = bool_swap (is_got s) (is_got t)

agree_left : (m n k : Mode) → AlikeModes m n → agree_modes m k ≡ agree_modes n k
agree_left m n k l = ap (λ b. b && agree_cq m.cq k.cq) (sq_left m.sq n.sq k.sq l.0) ∙ ap (λ b. agree_sq n.sq k.sq && b) (cq_left m.cq n.cq k.cq l.1)

modes_swap : (m n : Mode) → agree_modes m n ≡ agree_modes n m
modes_swap m n = ap (λ b. b && agree_cq m.cq n.cq) (sq_swap m.sq n.sq) ∙ ap (λ b. agree_sq n.sq m.sq && b) (cq_swap m.cq n.cq)

agree_right : (m n k : Mode) → AlikeModes m n → agree_modes k m ≡ agree_modes k n
agree_right m n k l = modes_swap k m ∙ agree_left m n k l ∙ modes_swap n k

pub agree_swap : (s t : Label) → agree s t ≡ true → agree t s ≡ true
agree_swap Dead Dead e = refl
agree_swap Dead (Live b n) e = refl
agree_swap (Live a m) Dead e = refl
agree_swap (Live a m) (Live b n) e = modes_swap n m ∙ e

abbrev pub mode_on : Label → Option Mode
mode_on Dead = None
mode_on (Live a m) = Some m

abbrev pub agree_some : Option Mode → Option Mode → Bool
agree_some (Some m) (Some n) = agree_modes m n
agree_some (Some m) None = true
agree_some None n = true

one : (x : Bool) → (x && true) && true ≡ x
one true = refl
one false = refl

two : (x : Bool) → (x && (true && true)) && ((x && true) && true) ≡ x
two true = refl
two false = refl

three : (x : Bool) → (x && (x && true)) && true ≡ x
three true = refl
three false = refl

thrice : (x : Bool) → (true && (x && true)) && ((x && true) && true) ≡ x
thrice true = refl
thrice false = refl

four : (x : Bool) → (x && (true && (x && true))) && ((x && (true && true)) && ((x && true) && true)) ≡ x
four true = refl
four false = refl

pub all_agree : (a b c d : Label) → Alike a b → Alike c d → agree_all (a ∷ c ∷ b ∷ d ∷ []) ≡ agree_some (mode_or (mode_on a) (mode_on b)) (mode_or (mode_on c) (mode_on d))
all_agree Dead Dead Dead Dead l k = refl
all_agree Dead Dead (Live c o) Dead l k = refl
all_agree Dead Dead Dead (Live d p) l k = refl
all_agree Dead Dead (Live c o) (Live d p) l k = rw (modes_agree o p k) refl
all_agree (Live a m) Dead Dead Dead l k = refl
all_agree Dead (Live b n) Dead Dead l k = refl
all_agree (Live a m) (Live b n) Dead Dead l k = rw (modes_agree m n l) refl
all_agree (Live a m) Dead (Live c o) Dead l k = one (agree_modes m o)
all_agree (Live a m) Dead Dead (Live d p) l k = one (agree_modes m p)
all_agree Dead (Live b n) (Live c o) Dead l k = rw (modes_swap o n) (one (agree_modes n o))
all_agree Dead (Live b n) Dead (Live d p) l k = one (agree_modes n p)
all_agree (Live a m) Dead (Live c o) (Live d p) l k = rw (modes_agree o p k, ← agree_right o p m k) (three (agree_modes m o))
all_agree Dead (Live b n) (Live c o) (Live d p) l k = rw (modes_agree o p k, ← agree_right o p n k, modes_swap o n) (two (agree_modes n o))
all_agree (Live a m) (Live b n) (Live c o) Dead l k = rw (modes_agree m n l, modes_swap o n, ← agree_left m n o l) (two (agree_modes m o))
all_agree (Live a m) (Live b n) Dead (Live d p) l k = rw (modes_agree m n l, ← agree_left m n p l) (thrice (agree_modes m p))
all_agree (Live a m) (Live b n) (Live c o) (Live d p) l k = rw (modes_agree m n l, modes_agree o p k, modes_swap o n, ← agree_left m n o l, ← agree_left m n p l, ← agree_right o p m k) (four (agree_modes m o))

mode_same : (o : Option (Holding × Mode)) → mode_on (label_in o) ≡ mode_in o
mode_same None = refl
mode_same (Some s) = refl

abbrev pub Joined : State → State → Bool
Joined x y = agree_all (label_of x true ∷ label_of y true ∷ label_of x false ∷ label_of y false ∷ [])

all_join : (x y : State) → IsState x → IsState y → Joined x y ≡ agree_some (mode_of x) (mode_of y)
all_join x y h g =
    let e = all_agree (label_of x true) (label_of x false) (label_of y true) (label_of y false) (alike _ _ h.lock h.slot) (alike _ _ g.lock g.slot) in
    let a = mode_same x.zero.live in
    let b = mode_same x.other.live in
    let c = mode_same y.zero.live in
    let d = mode_same y.other.live in
    rw (← a, ← b, ← c, ← d) e

pub some_join : (x y : State) (o p : Option Mode) (m n : Mode) → IsState x → IsState y → o ≡ mode_of x → p ≡ mode_of y → o ≡ Some m → p ≡ Some n → Joined x y ≡ agree_modes m n
some_join x y o p m n h g e f i j = all_join x y h g ∙ ap (λ q. agree_some q (mode_of y)) (sym e ∙ i) ∙ ap (agree_some (Some m)) (sym f ∙ j)

pub left_join : (x y : State) (o : Option Mode) → IsState x → IsState y → o ≡ mode_of x → o ≡ None → Joined x y ≡ true
left_join x y o h g e i = all_join x y h g ∙ ap (λ q. agree_some q (mode_of y)) (sym e ∙ i)

right_none : (o : Option Mode) → agree_some o None ≡ true
right_none None = refl
right_none (Some m) = refl

pub right_join : (x y : State) (o : Option Mode) → IsState x → IsState y → o ≡ mode_of y → o ≡ None → Joined x y ≡ true
right_join x y o h g e i = all_join x y h g ∙ ap (agree_some (mode_of x)) (sym e ∙ i) ∙ right_none (mode_of x)
