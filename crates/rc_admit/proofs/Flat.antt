-- A labelling that obeys the rules gives the edge law: a claim of how each thread of an accepted program may stand.
use Rattle.std.proofs.Common.{◌≡◌, ℕ, ◌+◌, ◌<◌, ◌≤◌, Bool, true, false, cond, List, ◌∷◌, ◌++◌, take, Option, Some, refl, sym, ap, ◌∙◌, subst, ◌⊎◌, inl, inr, arith, []}
use Rattle.std.specs.Prelude.{nat_lt, not, slice_get, slice_set, ℤ}
use Rattle.std.proofs.lemmas.Bool.{ltb-true, or_left, or_right}
use Rattle.std.proofs.lemmas.List.{get_or-take}
use Rattle.rc_lang.specs.declared.lines.Block.{Block}
use Rattle.rc_lang.specs.declared.lines.Block.TheVariants.{InLock, InIf, InElse, InPeek, InArm, InLoop}
use Rattle.rc_lang.specs.declared.lines.Line.{Line}
use Rattle.rc_lang.specs.declared.lines.Locks.{Locks}
use Rattle.rc_lang.specs.declared.lines.Op.{Op}
use Rattle.rc_lang.specs.declared.lines.Stmt.{Stmt}
use Rattle.rc_lang.specs.declared.lines.Stmt.TheVariants.{Do, Put, Lock, EndLock, If, Else, EndIf, Peek, Case, Other, Nothing, EndArm, EndPeek, Loop, EndLoop, Break}
use Rattle.rc_lang.specs.declared.lines.Test.{Test}
use Rattle.rc_lang.specs.Locks.{no_lock, with_locks, without_locks}
use Rattle.rc_lang.specs.Nesting.{blocks_at, in_peek, locks_in}
use Rattle.rc_lang.specs.Program.{Items, Program, Thread, end_at, ends_in, items_at, lines_of, lists_of, stmt_at, stmt_of}
use Rattle.rc_lang.specs.Kept.{IsProgram}
use Rattle.rc_lang.specs.Resolved.{HasArms}
use Rattle.rc_lang.proofs.Along.{locks_next, locks_pushed, same_locks}
use Rattle.rc_lang.proofs.Closing.{AreAmong, closes_arm, closes_if, closes_lock, closes_loop, leaves_loop, turns as turns_here}
use Rattle.rc_lang.proofs.Fitting.{peek_found, placed_at}
use Rattle.rc_lang.proofs.Jumps.{IsLaid, arm_leads, back_leads, break_leads, case_lands, else_leads, false_leads, nothing_lands, other_lands}
use Rattle.rc_lang.proofs.Lookups.{blocks_next, line_with, locks_more, with_none}
use Rattle.rc_lang.proofs.Rests.{laid_in}
use Rattle.rc_lang.proofs.Spans.{case_between, nothing_between, other_between}
use Rattle.rc_lang.proofs.Views.{is_view}
use Rattle.rc_rules.specs.declared.mode.Mode.{Mode}
use Rattle.rc_rules.specs.declared.mode.Peeked.{Peeked}
use Rattle.rc_rules.specs.declared.mode.Peeked.TheVariants.{Unseen, Sees, SeesOther}
use Rattle.rc_rules.specs.Labels.{Label, Dead, Live, Weaker, WeakerThanEach}
use Rattle.rc_rules.specs.Labellings.{IsGood, IsGoodAt, here, label_at, skipped}
use Rattle.rc_rules.specs.declared.flag.Write.TheVariants.{Anything}
use Rattle.rc_rules.specs.Sides.{Sides, brings, forgets, may_skip, on, test_goes, turns, unreached, write_of, write_to}
use Rattle.rc_rules.specs.Premises.{Is, Meets, Premise}
use Rattle.rc_rules.specs.Needs.{line_premises}
use Rattle.rc_rules.specs.Rules.{asks, asks_both, broken, case_at, freed, goes, is_got, locked, locks_of, op_effect, peek_at, premises_of, put_effect, stmt_needs, test_effect, top_mode, with_lock, with_peeked}
use Rattle.rc_rules.proofs.Rising.{leave_same, op_same, put_asked, release_asked, test_same}
use Rattle.rc_rules.proofs.Weaker.{freed_locks, locked_locks, locks_same, peeked_grows, peeked_locks, weaker_trans}
use Rattle.rc_split.specs.Bags.{Part, TokenOf, bag_of, bag_on, minus}
use Rattle.rc_world.specs.Controls.{arm_for, none_arm}
use Rattle.rc_admit.proofs.FlatLooks.{arm_in, arm_is, break_in, get_take, len_take, none_is_at}
use Rattle.rc_admit.proofs.FlatRules.{IsBelow, behind_op, behind_test, below, covered, for_each, top_same, where_known}
use Rattle.rc_admit.proofs.Lists.{Each, Each-append}
use Rattle.rc_admit.proofs.Owned.{EdgeAt, HasEdge, Leads, MayBecome, MayPass}
use Rattle.rc_admit.proofs.Rule.{AtLive, asks_lock}
use Rattle.rc_admit.proofs.Sides.{IsStored, any_turns, brought, loop_turns, meets_side, op_turns, side_of, stored_set, test_may, ungate}
use Rattle.rc_admit.proofs.FlatPlaces.{At, Entered, Enters, Labelled}

-- ---- lists

Each-left : {A : Type 0} (P : A → Type 0) (xs ys : List A) → Each P (xs ++ ys) → Each P xs
Each-left P [] ys h = tt
Each-left P (x ∷ xs) ys h = (h.0, Each-left P xs ys h.1)

Each-right : {A : Type 0} (P : A → Type 0) (xs ys : List A) → Each P (xs ++ ys) → Each P ys
Each-right P [] ys h = h
Each-right P (x ∷ xs) ys h = Each-right P xs ys h.1

-- ---- locks

-- blocks that take none
locks_past : (bs cs : List Block) → locks_in cs ≡ no_lock → locks_in (bs ++ cs) ≡ locks_in bs
locks_past bs cs e = locks_more bs cs ∙ ap (with_locks (locks_in bs)) e ∙ with_none (locks_in bs)

cq_inside : (bs cs : List Block) → (locks_in bs).cq ≡ true → (locks_in (bs ++ cs)).cq ≡ true
cq_inside bs cs e = ap (λ (l : Locks). l.cq) (locks_more bs cs) ∙ or_left (locks_in bs).cq (locks_in cs).cq e

among_pushed : (l m : Locks) → AreAmong m (with_locks l m)
among_pushed l m = record { sq = λ e. or_right l.sq m.sq e; cq = λ e. or_right l.cq m.cq e }

-- ---- the edges

module _ (P : Program) (wf : IsProgram P) (i : ℕ) (thread : Thread) (labels : List Sides) (lists_are : lists_of P i ≡ thread.lists) (good : IsGood P thread (lines_of P i) labels) where
  abbrev flag : Option ℕ
  flag = thread.flag

  abbrev lines : List Line
  lines = lines_of P i

  abbrev ends : List ℕ
  ends = ends_in (slice_get P.threads i)

  abbrev In : Block → Type 0
  In o = Enters flag lines labels o

  laid : IsLaid lines ends
  laid = laid_in P wf i

  good_at : (j : ℕ) (s : Stmt) → stmt_at lines j ≡ Some s → IsGoodAt P thread lines labels j s
  good_at j s e = let l = line_with lines j s e in subst (λ x. IsGoodAt P thread lines labels j x) l.2 (good.each j l.0 l.1)

  -- the label of a place before a line, as the rule of that line sees it
  known_is : (k j : ℕ) (z : Bool) → k ≤ j → label_at (take (j + 1) labels) k z ≡ label_at labels k z
  known_is k j z le = ap (on z) (get_or-take (j + 1) labels k unreached (omega arith))

  here_is : (k : ℕ) (z : Bool) (s : Stmt) → stmt_at lines k ≡ Some s → here (take k lines) (take (k + 1) labels) z ≡ label_at labels k z
  here_is k z s e = let l = line_with lines k s e in ap (λ n. label_at (take (k + 1) labels) n z) (len_take k lines l.0 l.1) ∙ known_is k k z (omega arith)

  -- what the rule of a later line sees on this one
  stmt_is : (k j : ℕ) (s : Stmt) → k < j → stmt_at lines k ≡ Some s → stmt_at (take j lines) k ≡ Some s
  stmt_is k j s lt e = let l = line_with lines k s e in ap stmt_of (get_take j k lines l.0 lt l.1) ∙ ap Some l.2

  -- the end of a branch that is read at the line at k, as a later line sees it
  skipped_is : (k j : ℕ) (z : Bool) (s : Stmt) (t : Label) → k < j → stmt_at lines k ≡ Some s → may_skip flag z (Some s) ≡ true → Weaker t (skipped thread (take j lines) (take (j + 1) labels) k z) → Weaker t (label_at (take (j + 1) labels) k z)
  skipped_is k j z s t lt e may w = ungate (may_skip flag z (stmt_at (take j lines) k)) t _ (ap (may_skip flag z) (stmt_is k j s lt e) ∙ may) w

  -- to a place where these blocks are open
  pub lead : (b : Part → ℕ) (m : Mode) (new : List ℤ) (k : ℕ) (bs : List Block) → blocks_at lines k ≡ bs → locks_of m ≡ locks_in bs → IsStored flag new → Each (Enters flag lines labels) bs → Weaker (label_at labels k (side_of flag new)) (Live b m) → Leads (Labelled P) i b m new k
  lead b m new k bs n l h os w =
      let s = below (label_at labels k (side_of flag new)) b m w in
      record {
        bag = s.bag;
        mode = s.mode;
        less = s.less;
        weaker = s.weaker;
        stands = (
          thread,
          labels,
          lists_are,
          good,
          record {
            label = s.is;
            stored = h;
            locked = locks_same s.mode m s.weaker ∙ l ∙ ap locks_in (sym n);
            openers = subst (λ x. Each In x) (sym n) os;
          },
        );
      }

  module _ (b : Part → ℕ) (m : Mode) (vars : List ℤ) (k : ℕ) (a : At thread.flag lines labels b m vars k) where
    -- the side on which the thread is
    abbrev side : Bool
    side = side_of flag vars

    -- its side after a peek into x that brings v
    abbrev turned : ℕ → ℤ → Bool
    turned x v = side_of flag (slice_set vars x v)

    entered : Entered flag lines labels k
    entered = record { variables = vars; bag = b; mode = m; label = a.label; locked = a.locked }

    -- to a place that is in the same blocks
    same : (c : Part → ℕ) (n : Mode) (new : List ℤ) (j : ℕ) → blocks_at lines j ≡ blocks_at lines k → locks_of n ≡ locks_of m → IsStored flag new → Weaker (label_at labels j (side_of flag new)) (Live c n) → Leads (Labelled P) i c n new j
    same c n new j e l h w = lead c n new j (blocks_at lines k) e (l ∙ a.locked) h a.openers w

    -- into blocks that are opened here, none of them a lock
    into : (c : Part → ℕ) (n : Mode) (new : List ℤ) (j : ℕ) (bs : List Block) → blocks_at lines j ≡ blocks_at lines k ++ bs → locks_in bs ≡ no_lock → IsStored flag new → Each (Enters flag lines labels) bs → locks_of n ≡ locks_of m → Weaker (label_at labels j (side_of flag new)) (Live c n) → Leads (Labelled P) i c n new j
    into c n new j bs e f h os l w = lead c n new j (blocks_at lines k ++ bs) e (l ∙ a.locked ∙ sym (locks_past (blocks_at lines k) bs f)) h (Each-append In (blocks_at lines k) bs a.openers os) w

    -- out of blocks, with the same variables
    out : (c : Part → ℕ) (n : Mode) (j : ℕ) (bs cs : List Block) → blocks_at lines k ≡ bs ++ cs → blocks_at lines j ≡ bs → locks_of n ≡ locks_in bs → Weaker (label_at labels j (side_of flag vars)) (Live c n) → Leads (Labelled P) i c n vars j
    out c n j bs cs d e l w = lead c n vars j bs e l a.stored (Each-left In bs cs (subst (λ x. Each In x) d a.openers)) w

    -- of which none is a lock
    out_same : (c : Part → ℕ) (n : Mode) (j : ℕ) (bs cs : List Block) → blocks_at lines k ≡ bs ++ cs → blocks_at lines j ≡ bs → locks_in cs ≡ no_lock → locks_of n ≡ locks_of m → Weaker (label_at labels j (side_of flag vars)) (Live c n) → Leads (Labelled P) i c n vars j
    out_same c n j bs cs d e f l w = out c n j bs cs d e (l ∙ a.locked ∙ ap locks_in d ∙ locks_past bs cs f) w

    -- the opener of a block that is open here was entered
    opener : (outer : List Block) (o : Block) (inner : List Block) → blocks_at lines k ≡ outer ++ o ∷ inner → Enters flag lines labels o
    opener outer o inner e = (Each-right In outer (o ∷ inner) (subst (λ x. Each In x) e a.openers)).0

    here_at : (s : Stmt) → stmt_at lines k ≡ Some s → here (take k lines) (take (k + 1) labels) side ≡ Live b m
    here_at s e = here_is k side s e ∙ a.label

    known_at : (j : ℕ) → k ≤ j → label_at (take (j + 1) labels) k side ≡ Live b m
    known_at j le = known_is k j side le ∙ a.label

    -- what the rule of the line asks of the state here
    asked : (s : Stmt) (F : Bool → (Part → ℕ) → Mode → List (ℕ × Premise)) → stmt_at lines k ≡ Some s → Meets (asks_both (here (take k lines) (take (k + 1) labels)) F) → Meets (F side b m)
    asked s F e h = subst (λ t. Meets (asks t (F side))) (here_at s e) (meets_side (λ z. asks (here (take k lines) (take (k + 1) labels) z) (F z)) side h)

    -- what the label after the line is weaker than
    comes : (s : Stmt) (F : (Part → ℕ) → Mode → Label) (t : Label) → stmt_at lines k ≡ Some s → Weaker t (goes (here (take k lines) (take (k + 1) labels) side) F) → Weaker t (F b m)
    comes s F t e w = subst (λ x. Weaker t (goes x F)) (here_at s e) w

    -- where it comes from both sides
    comes_by : (s : Stmt) (may : Bool → Bool) (F : (Part → ℕ) → Mode → Label) (t : Label) → stmt_at lines k ≡ Some s → may side ≡ true → WeakerThanEach t (brings may (λ l. goes l F) (here (take k lines) (take (k + 1) labels))) → Weaker t (F b m)
    comes_by s may F t e y h = comes s F t e (brought may (λ l. goes l F) (here (take k lines) (take (k + 1) labels)) t side y h)

    do_edge : (op : Op) → stmt_at lines k ≡ Some (Do op) → EdgeAt P (Labelled P) i b m vars k (Some (Do op))
    do_edge op e = (subst Meets (op_same P thread.lists side b m op) (asked (Do op) (λ z bag m. premises_of P thread.lists z bag m (stmt_needs (Do op))) e g.meets), for_each (op_effect P b m op) (λ new may c n. Leads (Labelled P) i c n new (k + 1)) to)
      where
        g : IsGoodAt P thread lines labels k (Do op)
        g = good_at k (Do op) e

        to : (new : List ℤ) → MayBecome op vars new → AtLive (op_effect P b m op) (λ c n. Leads (Labelled P) i c n new (k + 1))
        to new may =
            let h = op_turns flag op vars new a.stored may in
            let w = comes_by (Do op) (λ y. turns (write_of flag op) y (side_of flag new)) (λ bag m. op_effect P bag m op) (label_at labels (k + 1) (side_of flag new)) e h.turns_to (g.after (side_of flag new)) in
            behind_op P (is_view P i wf) b m op (λ c n. Leads (Labelled P) i c n new (k + 1)) (label_at labels (k + 1) (side_of flag new)) w (λ c n l w. same c n new (k + 1) (blocks_next lines k (Do op) e) l h.stored w)

    -- what is put is not held after the line
    put_edge : (pool : Option ℕ) (n : ℕ) → stmt_at lines k ≡ Some (Put pool n) → EdgeAt P (Labelled P) i b m vars k (Some (Put pool n))
    put_edge pool n e =
        let g = good_at k (Put pool n) e in
        let items : Items = items_at thread.lists n in
        subst (λ lists. Meets (line_premises P (items_at lists n ∷ []) b m (Put pool 0)) × Leads (Labelled P) i (minus b (bag_of (items_at lists n))) m vars (k + 1)) (sym lists_are) (
          asked (Put pool n) (λ z bag m. line_premises P (items ∷ []) bag m (Put pool 0)) e (subst Meets (put_asked P thread.lists (here (take k lines) (take (k + 1) labels)) pool n) g.meets),
          same (minus b (bag_of items)) m vars (k + 1) (blocks_next lines k (Put pool n) e) refl a.stored (comes (Put pool n) (λ bag m. put_effect bag m items) (label_at labels (k + 1) side) e (g.after side).0),
        )

    lock_edge : (l : Locks) → stmt_at lines k ≡ Some (Lock l) → EdgeAt P (Labelled P) i b m vars k (Some (Lock l))
    lock_edge l e =
        let bs : List Block = blocks_at lines k in
        let n : locks_of (locked P l m) ≡ locks_in (bs ++ InLock k l ∷ []) = locked_locks P l m ∙ ap (λ x. with_locks x l) a.locked ∙ sym (locks_pushed bs k l) in
        lead b (locked P l m) vars (k + 1) (bs ++ InLock k l ∷ []) (blocks_next lines k (Lock l) e) n a.stored (Each-append In bs (InLock k l ∷ []) a.openers (tt, tt)) (comes (Lock l) (λ bag m. Live bag (locked P l m)) (label_at labels (k + 1) side) e ((good_at k (Lock l) e).after side).0)

    unlock_edge : (o : ℕ) (l : Locks) → stmt_at lines k ≡ Some (EndLock o l) → EdgeAt P (Labelled P) i b m vars k (Some (EndLock o l))
    unlock_edge o l e =
        let g = good_at k (EndLock o l) e in
        let c = closes_lock lines laid.each k o l e in
        let held : AreAmong l (locks_of m) = subst (AreAmong l) (sym (a.locked ∙ ap locks_in c.within ∙ locks_pushed (blocks_at lines o) o l)) (among_pushed (locks_in (blocks_at lines o)) l) in
        let n : locks_of (freed l m) ≡ locks_in (blocks_at lines o) = freed_locks l m ∙ ap (λ x. without_locks x l) a.locked ∙ sym (locks_next lines laid.each k (EndLock o l) e) ∙ ap locks_in c.behind in (
          held,
          asked (EndLock o l) (λ z bag m. line_premises P [] bag m (EndLock 0 l)) e (subst Meets (release_asked P thread.lists (here (take k lines) (take (k + 1) labels)) o l) g.meets),
          out b (freed l m) (k + 1) (blocks_at lines o) (InLock o l ∷ []) c.within c.behind n (comes (EndLock o l) (λ bag m. Live bag (freed l m)) (label_at labels (k + 1) side) e (g.after side).0),
        )

    -- a false if
    false_edge : (test : Test) → stmt_at lines k ≡ Some (If test) → MayPass test vars false → Leads (Labelled P) i b m vars (end_at P i k + 1)
    false_edge test e may = elim (false_leads lines ends laid k test e) [
      | inl h ↦
          into b m vars (end_at P i k + 1) (InElse (end_at P i k) ∷ []) h.lands.blocks refl a.stored (tt, tt) refl (weaker (Else k) h.stands (((good_at (end_at P i k) (Else k) h.stands).after side).0))
      | inr h ↦
          same b m vars (end_at P i k + 1) h.lands.blocks refl a.stored (weaker (EndIf k) h.stands (((good_at (end_at P i k) (EndIf k) h.stands).after side).1.0))
    ]
      where
        weaker : (s : Stmt) → stmt_at lines (end_at P i k) ≡ Some s → Weaker (label_at labels (end_at P i k + 1) side) (skipped thread (take (end_at P i k) lines) (take (end_at P i k + 1) labels) k side) → Weaker (label_at labels (end_at P i k + 1) side) (Live b m)
        weaker s d w = let lt : k < end_at P i k = later in subst (λ x. Weaker (label_at labels (end_at P i k + 1) side) x) (known_at (end_at P i k) (omega arith)) (skipped_is k (end_at P i k) side (If test) (label_at labels (end_at P i k + 1) side) later e (test_may flag test vars false may) w)
          where
            later : k < end_at P i k
            later = elim (laid.linked k (If test) e) [ inl h ↦ h.behind | inr h ↦ h.behind ]

    if_edge : (test : Test) → stmt_at lines k ≡ Some (If test) → EdgeAt P (Labelled P) i b m vars k (Some (If test))
    if_edge test e =
        let g = good_at k (If test) e in (
          subst Meets (test_same P thread.lists side b m test) (asked (If test) (λ z bag n. premises_of P thread.lists z bag n (stmt_needs (If test))) e g.meets),
          where_known (test_effect P (lists_of P i) b m test) (MayPass test vars true) (λ c n. Leads (Labelled P) i c n vars (k + 1)) (λ may.
              let w = comes (If test) (λ bag n. test_effect P thread.lists bag n test) (label_at labels (k + 1) side) e (ungate (test_goes flag test side true) (label_at labels (k + 1) side) _ (test_may flag test vars true may) (g.after side).0) in
              behind_test P (lists_of P i) b m test (λ c n. Leads (Labelled P) i c n vars (k + 1)) (label_at labels (k + 1) side) (subst (λ lists. Weaker (label_at labels (k + 1) side) (test_effect P lists b m test)) (sym lists_are) w)
              (λ c n l v. into c n vars (k + 1) (InIf k ∷ []) (blocks_next lines k (If test) e) refl a.stored (tt, tt) l v)),
          λ may. false_edge test e may,
        )

    -- an else that is reached from above
    else_edge : (o : ℕ) → stmt_at lines k ≡ Some (Else o) → EdgeAt P (Labelled P) i b m vars k (Some (Else o))
    else_edge o e =
        let h = else_leads lines ends laid k o e in
        let lt : k < end_at P i k + 1 = h.lands.ahead in
        out_same b m (end_at P i k + 1) (blocks_at lines o) (InIf o ∷ []) (turns_here lines laid.each k o e).within h.lands.blocks refl refl (subst (λ x. Weaker (label_at labels (end_at P i k + 1) side) x) (known_at (end_at P i k) (omega arith)) (skipped_is k (end_at P i k) side (Else o) (label_at labels (end_at P i k + 1) side) later e refl (((good_at (end_at P i k) (EndIf k) h.stands).after side).1.0)))
      where
        later : k < end_at P i k
        later = (laid.linked k (Else o) e).behind

    end_if_edge : (o : ℕ) → stmt_at lines k ≡ Some (EndIf o) → EdgeAt P (Labelled P) i b m vars k (Some (EndIf o))
    end_if_edge o e =
        let w : Weaker (label_at labels (k + 1) side) (Live b m) = subst (λ x. Weaker (label_at labels (k + 1) side) x) (here_at (EndIf o) e) (((good_at k (EndIf o) e).after side).0) in
        elim (closes_if lines laid.each k o e) [
          | inl c ↦ out_same b m (k + 1) (blocks_at lines o) (InIf o ∷ []) c.1.within c.1.behind refl refl w
          | inr c ↦ out_same b m (k + 1) (blocks_at lines c.opener) (InElse o ∷ []) c.within c.behind refl refl w
        ]

    -- into an arm of the peek that is here
    peek_edge : (x : ℕ) → stmt_at lines k ≡ Some (Peek x) → EdgeAt P (Labelled P) i b m vars k (Some (Peek x))
    peek_edge x e = (asked (Peek x) (λ z bag n. line_premises P [] bag n (Peek 0)) e g.meets, λ u v. to_arm u v, λ v. to_none v)
      where
        g : IsGoodAt P thread lines labels k (Peek x)
        g = good_at k (Peek x) e

        arms : HasArms lines ends k
        arms = laid.linked k (Peek x) e

        behind : (v : ℤ) → IsBelow (label_at labels (k + 1) (turned x v)) b m
        behind v = below (label_at labels (k + 1) (turned x v)) b m (subst (λ t. Weaker (label_at labels (k + 1) (turned x v)) t) (here_at (Peek x) e) (brought (λ y. turns (write_to flag x Anything) y (turned x v)) (λ l. l) (here (take k lines) (take (k + 1) labels)) (label_at labels (k + 1) (turned x v)) side (any_turns flag vars x v a.stored) (g.after (turned x v))))

        behind_is : (v : ℤ) (c : ℕ) → k < c → label_at (take (c + 1) labels) (k + 1) (turned x v) ≡ Live (behind v).bag (behind v).mode
        behind_is v c lt = known_is (k + 1) c (turned x v) (omega arith) ∙ (behind v).is

        -- what leads into an arm is no stronger than what is here
        lands : (v : ℤ) (c : ℕ) (f : Peeked) → blocks_at lines (c + 1) ≡ blocks_at lines k ++ InPeek k ∷ InArm k ∷ [] → Weaker (label_at labels (c + 1) (turned x v)) (Live (behind v).bag (with_peeked f (behind v).mode)) → Leads (Labelled P) i b (with_peeked f m) (slice_set vars x v) (c + 1)
        lands v c f n w =
            into b (with_peeked f m) (slice_set vars x v) (c + 1) (InPeek k ∷ InArm k ∷ []) n refl (stored_set flag vars x v a.stored) (entered, (tt, tt)) (peeked_locks f m) (weaker_trans (label_at labels (c + 1) (turned x v)) (Live (behind v).bag (with_peeked f (behind v).mode)) (Live b (with_peeked f m)) w ((behind v).less, peeked_grows f (behind v).mode m (behind v).weaker))

        to_case : (u : ℕ) (v : ℤ) (c : ℕ) → stmt_at lines c ≡ Some (Case k u) → (1 ≤ b (TokenOf u)) ⊎ Leads (Labelled P) i b (with_peeked (Sees u) m) (slice_set vars x v) (c + 1)
        to_case u v c d =
            let w : Weaker (label_at labels (c + 1) (turned x v)) (cond (nat_lt 0 ((behind v).bag (TokenOf u))) Dead (Live (behind v).bag (with_peeked (Sees u) (behind v).mode))) = subst (λ t. Weaker (label_at labels (c + 1) (turned x v)) (case_at u t)) (behind_is v c (case_between lines ends laid k c u d).0) (((good_at c (Case k u) d).after (turned x v)).0) in
            held (nat_lt 0 ((behind v).bag (TokenOf u))) refl w
          where
            held : (h : Bool) → nat_lt 0 ((behind v).bag (TokenOf u)) ≡ h → Weaker (label_at labels (c + 1) (turned x v)) (cond h Dead (Live (behind v).bag (with_peeked (Sees u) (behind v).mode))) → (1 ≤ b (TokenOf u)) ⊎ Leads (Labelled P) i b (with_peeked (Sees u) m) (slice_set vars x v) (c + 1)
            held true h w = let lt : 0 < (behind v).bag (TokenOf u) = ltb-true 0 ((behind v).bag (TokenOf u)) h in inl (omega (arith, (behind v).less (TokenOf u)))
            held false h w = inr (lands v c (Sees u) (case_lands lines ends laid k c u d).blocks w)

        to_other : (v : ℤ) (c : ℕ) → stmt_at lines c ≡ Some (Other k) → Leads (Labelled P) i b (with_peeked SeesOther m) (slice_set vars x v) (c + 1)
        to_other v c d = lands v c SeesOther (other_lands lines ends laid k c d).blocks (subst (λ t. Weaker (label_at labels (c + 1) (turned x v)) (peek_at SeesOther t)) (behind_is v c (other_between lines ends laid k c d).0) (((good_at c (Other k) d).after (turned x v)).0))

        to_none : (v : ℤ) → Leads (Labelled P) i b (with_peeked Unseen m) (slice_set vars x v) (none_arm P i k + 1)
        to_none v =
            let d = none_is_at P i k arms.none.place (record { stands = arms.none.stands; behind = arms.none.behind; before = (nothing_between lines ends laid k arms.none.place arms.none.stands).1 }) in
            lands v (none_arm P i k) Unseen (nothing_lands lines ends laid k (none_arm P i k) d).blocks (subst (λ t. Weaker (label_at labels (none_arm P i k + 1) (turned x v)) (peek_at Unseen t)) (behind_is v (none_arm P i k) (nothing_between lines ends laid k (none_arm P i k) d).0) (((good_at (none_arm P i k) (Nothing k) d).after (turned x v)).0))

        to_arm : (u : ℕ) (v : ℤ) → (1 ≤ b (TokenOf u)) ⊎ (Leads (Labelled P) i b (with_peeked (Sees u) m) (slice_set vars x v) (arm_for P i k u + 1) ⊎ Leads (Labelled P) i b (with_peeked SeesOther m) (slice_set vars x v) (arm_for P i k u + 1))
        to_arm u v = elim (arm_is P i k u arms.other.place (record { stands = arms.other.stands; behind = arms.other.behind; before = (other_between lines ends laid k arms.other.place arms.other.stands).1 })) [
          | inl d ↦ elim (to_case u v (arm_for P i k u) d) [ inl h ↦ inl h | inr h ↦ inr (inl h) ]
          | inr d ↦ inr (inr (to_other v (arm_for P i k u) d))
        ]

    -- a peek that was entered was entered in the lock of its side
    peek_inside : (o x : ℕ) → stmt_at lines o ≡ Some (Peek x) → Entered flag lines labels o → (locks_in (blocks_at lines o)).cq ≡ true
    peek_inside o x e h =
        let z : Bool = side_of flag h.variables in
        sym (ap (λ (l : Locks). l.cq) h.locked) ∙ asks_lock h.mode.cq _ (subst (λ s. Meets (asks s asked_there)) (here_is o z (Peek x) e ∙ h.label) (meets_side (λ y. asks (here (take o lines) (take (o + 1) labels) y) asked_there) z (good_at o (Peek x) e).meets))
      where
        asked_there : (Part → ℕ) → Mode → List (ℕ × Premise)
        asked_there bag n = with_lock 1 n.cq (λ p. (20, Is (not (is_got p))) ∷ [])

    arm_edge : (o : ℕ) → stmt_at lines k ≡ Some (EndArm o) → EdgeAt P (Labelled P) i b m vars k (Some (EndArm o))
    arm_edge o e =
        let c = closes_arm lines laid.each k o e in
        let h = arm_leads lines ends laid k o e in
        let lt : k < end_at P i o = laid.linked k (EndArm o) e in
        let l = line_with lines k (EndArm o) e in
        let inside : (locks_in (blocks_at lines o)).cq ≡ true = peek_inside o c.variable c.stands (opener (blocks_at lines o) (InPeek o) (InArm o ∷ []) c.within) in
        let here_inside : (locks_in (blocks_at lines k)).cq ≡ true = ap (λ x. (locks_in x).cq) c.within ∙ cq_inside (blocks_at lines o) (InPeek o ∷ InArm o ∷ []) inside in
        let w = arm_in side (take (end_at P i o) lines) (take (end_at P i o + 1) labels) (label_at labels (end_at P i o + 1) side) k o l.0 (get_take (end_at P i o) k lines l.0 lt l.1) l.2 ((good_at (end_at P i o) (EndPeek o) h.stands).after side) in
        (ap (λ (l : Locks). l.cq) a.locked ∙ here_inside, asked (EndArm o) (λ z bag n. premises_of P thread.lists z bag n (stmt_needs (EndArm o))) e (good_at k (EndArm o) e).meets, out_same b (with_peeked Unseen m) (end_at P i o + 1) (blocks_at lines o) (InPeek o ∷ InArm o ∷ []) c.within h.lands.blocks refl (peeked_locks Unseen m) (subst (λ s. Weaker (label_at labels (end_at P i o + 1) side) (peek_at Unseen s)) (known_at (end_at P i o) (omega arith)) w))

    loop_edge : (n : ℕ) → stmt_at lines k ≡ Some (Loop n) → EdgeAt P (Labelled P) i b m vars k (Some (Loop n))
    loop_edge n e =
        let g = good_at k (Loop n) e in
        let items = items_at thread.lists n in
        let w = comes_by (Loop n) (λ y. turns (forgets flag) y side) (λ bag o. Live (bag_on side items) (top_mode P items o)) (label_at labels (k + 1) side) e (loop_turns flag vars vars) (g.after side) in
        into b m vars (k + 1) (InLoop k n ∷ []) (blocks_next lines k (Loop n) e) refl a.stored (entered, tt) refl (weaker_trans (label_at labels (k + 1) side) (Live (bag_on side items) (top_mode P items m)) (Live b m) w (covered P 13 items side b m (asked (Loop n) (λ z bag o. premises_of P thread.lists z bag o (stmt_needs (Loop n))) e g.meets)))

    -- back to the line after the top of a loop: its opener was entered, so the label there is of exactly the items
    again_edge : (o n : ℕ) → stmt_at lines k ≡ Some (EndLoop o n) → EdgeAt P (Labelled P) i b m vars k (Some (EndLoop o n))
    again_edge o n e =
        let c = closes_loop lines laid.each k o n e in
        let h : Entered flag lines labels o = opener (blocks_at lines o) (InLoop o n) [] c.within in
        let items = items_at thread.lists n in
        let top_of : Label → Label = λ l. goes l (λ bag q. Live (bag_on side items) (top_mode P items q)) in
        let y = brought (λ y. turns (forgets flag) y side) top_of (here (take o lines) (take (o + 1) labels)) (label_at labels (o + 1) side) (side_of flag h.variables) (loop_turns flag h.variables vars) ((good_at o (Loop n) c.stands).after side) in
        let w = subst (λ s. Weaker (label_at labels (o + 1) side) (top_of s)) (here_is o (side_of flag h.variables) (Loop n) c.stands ∙ h.label) y in
        let s : locks_of h.mode ≡ locks_of m = h.locked ∙ sym (a.locked ∙ ap locks_in c.within ∙ same_locks (blocks_at lines o) (InLoop o n) refl) in
        let v = subst (λ l. Weaker (label_at labels (o + 1) side) (Live (bag_on side items) l)) (top_same P items h.mode m s) w in
        same b m vars (o + 1) (back_leads lines ends laid k o n e).1 refl a.stored (weaker_trans (label_at labels (o + 1) side) (Live (bag_on side items) (top_mode P items m)) (Live b m) v (covered P 14 items side b m (asked (EndLoop o n) (λ z bag l. premises_of P thread.lists z bag l (stmt_needs (EndLoop o n))) e (good_at k (EndLoop o n) e).meets)))

    break_edge : (o : ℕ) (releases : Locks) (leaves : Bool) → stmt_at lines k ≡ Some (Break o releases leaves) → EdgeAt P (Labelled P) i b m vars k (Some (Break o releases leaves))
    break_edge o releases leaves e =
        let c = leaves_loop lines laid.each k o releases leaves e in
        let h = break_leads lines ends laid k o releases leaves e in
        let lt : k < end_at P i o = laid.linked k (Break o releases leaves) e in
        let l = line_with lines k (Break o releases leaves) e in
        let w = break_in side (take (end_at P i o) lines) (take (end_at P i o + 1) labels) (label_at labels (end_at P i o + 1) side) k o releases leaves l.0 (get_take (end_at P i o) k lines l.0 lt l.1) l.2 ((good_at (end_at P i o) (EndLoop o h.0) h.1.stands).after side) in (
          subst (AreAmong releases) (sym a.locked) c.locked,
          λ t. ap (λ (x : Locks). x.cq) a.locked ∙ in_peek_locked (c.peeked ∙ t),
          subst Meets (leave_same P thread.lists side b m o releases leaves) (asked (Break o releases leaves) (λ z bag n. premises_of P thread.lists z bag n (stmt_needs (Break o releases leaves))) e (good_at k (Break o releases leaves) e).meets),
          out b (freed releases (with_peeked Unseen m)) (end_at P i o + 1) (blocks_at lines o) (InLoop o c.number ∷ c.inner) c.within h.1.lands.blocks
              (freed_locks releases (with_peeked Unseen m) ∙ ap (λ x. without_locks x releases) (peeked_locks Unseen m ∙ a.locked) ∙ sym c.locks_outside)
              (subst (λ s. Weaker (label_at labels (end_at P i o + 1) side) (broken releases s)) (known_at (end_at P i o) (omega arith)) w),
        )
      where
        -- in a peek the lock of its side is held
        in_peek_locked : in_peek (blocks_at lines k) ≡ true → (locks_in (blocks_at lines k)).cq ≡ true
        in_peek_locked t =
            let f = peek_found (blocks_at lines k) t in
            let p = placed_at lines laid.each k f.0 (InPeek f.1) f.2 f.3 in
            let inside : (locks_in f.0).cq ≡ true = ap (λ x. (locks_in x).cq) (sym p.1.blocks) ∙ peek_inside f.1 p.0 p.1.stands (opener f.0 (InPeek f.1) f.2 f.3) in
            ap (λ x. (locks_in x).cq) f.3 ∙ cq_inside f.0 (InPeek f.1 ∷ f.2) inside

    pub edge_at : (x : Option Stmt) → stmt_at lines k ≡ x → EdgeAt P (Labelled P) i b m vars k x
    edge_at (Some (Do op)) e = do_edge op e
    edge_at (Some (Put pool n)) e = put_edge pool n e
    edge_at (Some (Lock l)) e = lock_edge l e
    edge_at (Some (EndLock o l)) e = unlock_edge o l e
    edge_at (Some (If test)) e = if_edge test e
    edge_at (Some (Else o)) e = else_edge o e
    edge_at (Some (EndIf o)) e = end_if_edge o e
    edge_at (Some (Peek x)) e = peek_edge x e
    edge_at (Some (EndArm o)) e = arm_edge o e
    edge_at (Some (Loop n)) e = loop_edge n e
    edge_at (Some (EndLoop o n)) e = again_edge o n e
    edge_at (Some (Break o releases leaves)) e = break_edge o releases leaves e
    edge_at _ e = tt

-- The labels of a labelling that obeys the rules have the edge law.
pub labelled_edge : (P : Program) → IsProgram P → HasEdge P (Labelled P)
labelled_edge P wf i b m vars k h = edge_at P wf i h.0 h.1 h.2 h.3 b m vars k h.4 (stmt_at (lines_of P i) k) refl
