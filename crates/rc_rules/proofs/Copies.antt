-- A labelling of a copy is one of the next: no rule looks at a thread's name or number.
use Rattle.std.proofs.Common.{◌≡◌, ℕ, ◌+◌, Bool, List, Option, refl, sym, subst, take}
use Rattle.rc_lang.specs.declared.lines.Line.{Line}
use Rattle.rc_lang.specs.declared.lines.Stmt.{Stmt}
use Rattle.rc_lang.specs.declared.lines.Stmt.TheVariants.{Do, Put, Lock, EndLock, If, Else, EndIf, Peek, Case, Other, Nothing, EndArm, EndPeek, Loop, EndLoop, Break}
use Rattle.rc_lang.specs.Program.{Program, Thread}
use Rattle.rc_rules.specs.Labels.{Label, WeakerThanEach}
use Rattle.rc_rules.specs.Labellings.{HasLabels, IsGood, befores, label_at, premises}
use Rattle.rc_rules.specs.Premises.{Meets, Premise}
use Rattle.rc_rules.specs.Sides.{Sides}

-- the same thread with another name and number
abbrev called : Thread → List ℕ → Option ℕ → Thread
called s name copy = record s { name = name; copy = copy }

module _ (P : Program) (s : Thread) (name : List ℕ) (copy : Option ℕ) (lines : List Line) (known : List Sides) where
  befores_same : (z : Bool) (stmt : Stmt) → befores P s lines known stmt z ≡ befores P (called s name copy) lines known stmt z
  befores_same z (Do op) = refl
  befores_same z (Put pool k) = refl
  befores_same z (Lock l) = refl
  befores_same z (EndLock o l) = refl
  befores_same z (If test) = refl
  befores_same z (Else o) = refl
  befores_same z (EndIf o) = refl
  befores_same z (Peek x) = refl
  befores_same z (Case o u) = refl
  befores_same z (Other o) = refl
  befores_same z (Nothing o) = refl
  befores_same z (EndArm o) = refl
  befores_same z (EndPeek o) = refl
  befores_same z (Loop k) = refl
  befores_same z (EndLoop o k) = refl
  befores_same z (Break o releases leaves) = refl

  premises_same : (stmt : Stmt) → premises P s lines known stmt ≡ premises P (called s name copy) lines known stmt
  premises_same (Do op) = refl
  premises_same (Put pool k) = refl
  premises_same (Lock l) = refl
  premises_same (EndLock o l) = refl
  premises_same (If test) = refl
  premises_same (Else o) = refl
  premises_same (EndIf o) = refl
  premises_same (Peek x) = refl
  premises_same (Case o u) = refl
  premises_same (Other o) = refl
  premises_same (Nothing o) = refl
  premises_same (EndArm o) = refl
  premises_same (EndPeek o) = refl
  premises_same (Loop k) = refl
  premises_same (EndLoop o k) = refl
  premises_same (Break o releases leaves) = refl

good_called : (P : Program) (s : Thread) (name : List ℕ) (copy : Option ℕ) (lines : List Line) (labels : List Sides) → IsGood P s lines labels → IsGood P (called s name copy) lines labels
good_called P s name copy lines labels g = record {
  begins = g.begins;
  each = λ j l e.
      let a = g.each j l e in
      record {
        meets = subst (λ (ps : List (ℕ × Premise)). Meets ps) (premises_same P s name copy (take j lines) (take (j + 1) labels) l.stmt) a.meets;
        after = λ z. subst (λ (ls : List Label). WeakerThanEach (label_at labels (j + 1) z) ls) (befores_same P s name copy (take j lines) (take (j + 1) labels) z l.stmt) (a.after z);
      };
}

pub labels_of_copy : (P : Program) (s t : Thread) → t ≡ record s { name = t.name; copy = t.copy } → HasLabels P s s.lines → HasLabels P t t.lines
labels_of_copy P s t e h = subst (λ (x : Thread). HasLabels P x x.lines) (sym e) (h.0, good_called P s t.name t.copy s.lines h.0 h.1)
