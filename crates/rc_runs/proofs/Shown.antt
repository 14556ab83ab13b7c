-- What a run that was found shows.
use Rattle.std.proofs.Common.{◌≡◌, ◌∙◌, ◌++◌, ℕ, List, [], Ok, ap, subst, sym}
use Rattle.rc_lang.specs.Program.{Program}
use Rattle.rc_world.specs.declared.event.Item.{Item}
use Rattle.rc_world.specs.declared.fault.Fault.{Fault}
use Rattle.rc_world.specs.Machine.{World, start_world}
use Rattle.rc_world.specs.Trace.{AllEnded, AtFault, AtItem, Ending, Stopped, trace_from, trace_of}
use Rattle.rc_runs.specs.declared.moves.Move.{Move}
use Rattle.rc_runs.specs.Moved.{moved_items, spelled_or}
use Rattle.rc_runs.specs.Moves.{moves_of}
use Rattle.rc_runs.specs.Spelling.{schedule_of}
use Rattle.rc_report.specs.declared.trace.End.{End}
use Rattle.rc_report.specs.declared.trace.End.TheVariants as ends
use Rattle.rc_report.specs.Engine.{end_of, text_of_trace}

-- What the moves of a model spell is a schedule of it.
pub spelled : (program : Program) (text : List ℕ) (moves : List Move) (items : List Item) → moves_of program text ≡ Ok moves → items ≡ schedule_of program moves → moved_items program text ≡ Ok items
spelled program text moves items m s = ap (spelled_or program) m ∙ ap (λ x. Ok x) (sym s)

-- A trace that is said to end with a fault ends at it.
abbrev fault_or : Fault → End → Fault
fault_or g (ends.Fault f) = f
fault_or g end = g

ends_at_fault : (ending : Ending) (f : Fault) → end_of ending ≡ ends.Fault f → ending ≡ AtFault f
ends_at_fault (AtFault g) f e = ap (λ end. AtFault (fault_or g end)) e
ends_at_fault (AtItem i) f e = cc
ends_at_fault AllEnded f e = cc
ends_at_fault Stopped f e = cc

-- What was written of a run from the start world that ends with a fault is its trace.
pub harmful : (program : Program) (w : World) (items : List Item) (end : End) (f : Fault) (old new : List ℕ) → w ≡ start_world program → old ≡ [] → end ≡ end_of (trace_from w 1 items).ending → end ≡ ends.Fault f →
    new ≡ old ++ text_of_trace w.program (trace_from w 1 items) → ((trace_of program items).ending ≡ AtFault f) × (new ≡ text_of_trace program (trace_of program items))
harmful program w items end f old new start empty is fault written =
    subst (λ (v : World). ((trace_from v 1 items).ending ≡ AtFault f) × (new ≡ text_of_trace v.program (trace_from v 1 items))) start
    (ends_at_fault (trace_from w 1 items).ending f (sym is ∙ fault), written ∙ ap (λ o. o ++ text_of_trace w.program (trace_from w 1 items)) empty)
