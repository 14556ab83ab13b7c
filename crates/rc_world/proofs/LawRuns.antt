-- What each world of a run keeps: its threads rest, its requests fit, and its buffers have their bytes.
use Rattle.std.proofs.Common.{◌≡◌, ℕ, zero, suc, false, List, [], ◌∷◌, length, map, replicate, Some, refl, sym, ap, ◌∙◌, subst, slice_get, slice_set, inl, inr, ℤ, pos}
use Rattle.std.proofs.lemmas.List.{length-map, length-set}
use Rattle.std.proofs.lemmas.Option.{same_Some}
use Rattle.rc_lang.specs.Program.{Program, Thread, lines_of}
use Rattle.rc_lang.specs.Kept.{IsProgram}
use Rattle.rc_lang.proofs.Rests.{IsRest}
use Rattle.rc_world.specs.declared.event.Event.{Event}
use Rattle.rc_world.specs.Controls.{Standing, rest_at, acts}
use Rattle.rc_world.specs.Faults.{clashes}
use Rattle.rc_world.specs.Kept.{IsKept}
use Rattle.rc_world.specs.Machine.{World, start_world, stmt_answer}
use Rattle.rc_world.specs.Runs.{IsRun, IsStep}
use Rattle.rc_world.proofs.Keeping.{memory_given}
use Rattle.rc_world.proofs.LawFaultless.{calm_in}
use Rattle.rc_world.proofs.Lists.{get_set}
use Rattle.rc_world.proofs.RingSteps.{rings_same, small_read}
use Rattle.rc_world.proofs.Starting.{kept_start}
use Rattle.rc_world.proofs.LawPlaces.{acts_open, rests_at_start, rests_from}
use Rattle.rc_world.proofs.LawSteps.{Completed, Stepped, completed, stepped, stands_written}
use Rattle.rc_lang.specs.declared.lines.Stmt.{Stmt}

-- Each thread rests.
pub record AllRest (program : Program) (threads : List Standing) : Type 0 where
  pub as_many : length threads ≡ length program.threads
  pub each : (i : ℕ) (t : Standing) → slice_get threads i ≡ Some t → IsRest (lines_of program i) t.place

pub record IsSound (program : Program) (w : World) : Type 0 where
  pub same : w.program ≡ program
  pub rest : AllRest w.program w.controls.threads
  pub kept : IsKept w

-- ---- the step of a thread

one_rests : (program : Program) (threads : List Standing) (i : ℕ) (t : Standing) → AllRest program threads → IsRest (lines_of program i) t.place → AllRest program (slice_set threads i t)
one_rests program threads i t h r = record {
  as_many = length-set threads i t ∙ h.as_many;
  each = λ k u e. elim (get_set threads i k t u e) [
    | inl d ↦ subst (λ (x : Standing). IsRest (lines_of program k) x.place) d.1 (subst (λ n. IsRest (lines_of program n) t.place) (sym d.0) r)
    | inr d ↦ h.each k u d.1
  ];
}

after_thread : (program : Program) (w after : World) (i : ℕ) (r : ℤ) → IsSound program w → Stepped w i r after → IsSound program after
after_thread program w after i r h s =
    let a = stmt_answer w r s.line.stmt in
    let v = stands_written w i s.standing s.line s.stands in
    let k = rings_same w h.kept s.standing r s.line.stmt (small_read w.program h.kept.made i s.standing.variables s.standing.place s.line s.stands.line) s.rings s.in_the_rings in
    let acted = subst (λ (x : Stmt). acts w.program w.controls i s.standing x a ≡ Some s.move) v.read s.acted in
    let o = acts_open w.program h.kept.made i w.controls s.standing a s.move v.written.stmt v.says acted in
    let t : Standing = record { place = rest_at w.program i s.move.place; variables = s.move.variables } in
    let rest = one_rests w.program w.controls.threads i t h.rest (rests_from w.program h.kept.made i s.move.place o) in
    subst (λ x. IsSound program x) s.same (record {
      same = k.program ∙ h.same;
      rest = subst (λ x. AllRest x (slice_set w.controls.threads i t)) (sym k.program) rest;
      kept = record { made = k.kept.made; room = k.kept.room; slot = k.kept.slot; queued = k.kept.queued; memory = k.kept.memory };
    })

-- ---- the step of the kernel

module _ (program : Program) (w : World) (h : IsSound program w) (safe : clashes w.pending ≡ false) (k : ℕ) (res : ℤ) (bytes : List ℕ) (after : World) (c : Completed w k res bytes after) where
  after_kernel : IsSound program after
  after_kernel = subst (λ x. IsSound program x) c.same (record {
    same = h.same;
    rest = h.rest;
    kept = record { made = h.kept.made; room = h.kept.room; slot = h.kept.slot; queued = h.kept.queued; memory = memory_given w h.kept safe k c.pending c.here bytes c.many c.buffers c.given };
  })

-- ---- runs

abbrev at_start : Thread → Standing
at_start t = record { place = 0; variables = replicate 64 (pos 0) }

pub start_of : (threads : List Thread) (i : ℕ) (t : Standing) → slice_get (map at_start threads) i ≡ Some t → t.place ≡ 0
start_of [] i t e = absurd (cc)
start_of (x ∷ threads) zero t e = ap (λ (y : Standing). y.place) (sym (same_Some _ _ e))
start_of (x ∷ threads) (suc i) t e = start_of threads i t e

pub sound_at_start : (program : Program) → IsProgram program → IsSound program (start_world program)
sound_at_start program made = record {
  same = refl;
  rest = record { as_many = length-map program.threads at_start; each = λ i t e. subst (λ n. IsRest (lines_of program i) n) (sym (start_of program.threads i t e)) (rests_at_start program made i) };
  kept = kept_start program made;
}

pub after_step : (program : Program) (w after : World) (e : Event) → IsSound program w → IsStep w e after → IsSound program after
after_step program w after e h s = elim s.step [
  | inl q ↦ after_thread program w after q.0 q.1 h (stepped w q.0 q.1 e after q.2)
  | inr q ↦ after_kernel program w h (calm_in w s.no_fault) q.0 q.1 q.2 after (completed w q.0 q.1 q.2 e after (slice_get w.pending q.0) refl q.3)
]

pub run_sound : (program : Program) (events : List Event) (w after : World) → IsSound program w → IsRun w events after → IsSound program after
run_sound program [] w after h r = subst (λ x. IsSound program x) r h
run_sound program (e ∷ events) w after h r = run_sound program events r.0 after (after_step program w r.0 e h r.1) r.2
