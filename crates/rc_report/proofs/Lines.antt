-- The lines of events.
use Rattle.std.proofs.Common.{◌≡◌, ℕ, ◌+◌, ◌<◌, ◌≤◌, drop, take, List, [], ◌∷◌, ◌++◌, length, refl, sym, ap, ◌∙◌, append_assoc, add-zero, codes, get_or, arith}
use Rattle.std.proofs.lemmas.List.{drop_more, take-append-drop, length-take-le, take_more}
use Rattle.rc_lang.specs.Program.{Program}
use Rattle.rc_world.specs.declared.event.Event.{Event}
use Rattle.rc_report.specs.Printed.{event_line, event_lines, joined, named_line, place_line, thread_line}
use Rattle.rc_report.specs.Verdicts.{cause_line, finding_line}
use Rattle.rc_report.proofs.Pieces.{append-[]}

pub event_lines-append : (program : Program) (n : ℕ) (es gs : List Event) → event_lines program n (es ++ gs) ≡ event_lines program n es ++ event_lines program (n + length es) gs
event_lines-append program n [] gs = rw add-zero refl
event_lines-append program n (e ∷ es) gs =
    let k : n + length (e ∷ es) ≡ n + 1 + length es = omega arith in
    ap (λ t. event_line program n e ++ t) (event_lines-append program (n + 1) es gs)
    ∙ sym (append_assoc (event_line program n e) (event_lines program (n + 1) es) (event_lines program (n + 1 + length es) gs))
    ∙ ap (λ m. (event_line program n e ++ event_lines program (n + 1) es) ++ event_lines program m gs) (sym k)

-- the lines so far, the next one, and the others
pub event_lines-cut : (program : Program) (es : List Event) (i : ℕ) (d : Event) → i < length es →
    event_lines program 1 es ≡ event_lines program 1 (take i es) ++ (event_line program (i + 1) (get_or es i d) ++ event_lines program (i + 1 + 1) (drop (i + 1) es))
event_lines-cut program es i d h =
    let below : i ≤ length es = omega arith in
    let long : 1 + length (take i es) ≡ i + 1 = omega (arith, length-take-le i es below) in
    let e : drop i es ≡ get_or es i d ∷ drop (i + 1) es = drop_more es i d h in
    ap (λ t. event_lines program 1 t) (sym (take-append-drop i es)) ∙ event_lines-append program 1 (take i es) (drop i es)
    ∙ ap (λ m. event_lines program 1 (take i es) ++ event_lines program m (drop i es)) long
    ∙ ap (λ t. event_lines program 1 (take i es) ++ event_lines program (i + 1) t) e

-- one line more
pub event_lines-more : (program : Program) (es : List Event) (i : ℕ) (d : Event) → i < length es →
    event_lines program 1 (take (i + 1) es) ≡ event_lines program 1 (take i es) ++ event_line program (i + 1) (get_or es i d)
event_lines-more program es i d h =
    let below : i ≤ length es = omega arith in
    let long : 1 + length (take i es) ≡ i + 1 = omega (arith, length-take-le i es below) in
    ap (λ t. event_lines program 1 t) (take_more es i d h) ∙ event_lines-append program 1 (take i es) (get_or es i d ∷ [])
    ∙ ap (λ t. event_lines program 1 (take i es) ++ t) (append-[] (event_line program (1 + length (take i es)) (get_or es i d)))
    ∙ ap (λ m. event_lines program 1 (take i es) ++ event_line program m (get_or es i d)) long

-- ---- lines in pieces

pub thread_line_cut : (number name line word first between second : List ℕ) →
    joined (number ∷ codes " " ∷ name ∷ codes " " ∷ line ∷ word ∷ first ∷ between ∷ second ∷ codes "\n" ∷ []) ≡ thread_line number name line (joined (word ∷ first ∷ between ∷ second ∷ []))
thread_line_cut number name line word first between second = simp append_assoc

pub placed_line_cut : (number name thread line : List ℕ) →
    joined (codes "fault F" ∷ number ∷ codes " " ∷ name ∷ codes " " ∷ thread ∷ codes " line " ∷ line ∷ codes "\n" ∷ []) ≡ named_line number name (place_line thread line)
placed_line_cut number name thread line = simp append_assoc

pub finding_line_cut : (word line letter number name : List ℕ) →
    joined (word ∷ codes " line " ∷ line ∷ codes " " ∷ letter ∷ number ∷ codes " " ∷ name ∷ codes "\n" ∷ []) ≡ finding_line word line (cause_line letter number name)
finding_line_cut word line letter number name = simp append_assoc
