-- A thread whose next statement does no harm has no fault of any kind.
use Rattle.std.proofs.Common.{◌≡◌, ℕ, ◌+◌, ◌<◌, ◌≤◌, Bool, true, false, ◌&&◌, ◌||◌, not, if◌then◌else◌, drop, length, Option, Some, None, option_map, refl, sym, ◌∙◌, subst, inl, inr, slice_get, ap, arith}
use Rattle.std.proofs.lemmas.Bool.{or_parts, and_left, and_right, cases_lt}
use Rattle.std.proofs.lemmas.Option.{same_Some, slice_get_within}
use Rattle.rc_lang.specs.declared.lines.Line.{Line}
use Rattle.rc_lang.specs.declared.lines.Stmt.{Stmt}
use Rattle.rc_lang.specs.Program.{Thread, lines_in, lines_of, rows_of}
use Rattle.rc_lang.specs.Kept.{IsProgram}
use Rattle.rc_lang.specs.Rows.{read_line}
use Rattle.rc_lang.proofs.Reading.{line_alone}
use Rattle.rc_world.specs.declared.event.Item.{Item}
use Rattle.rc_world.specs.declared.event.Item.TheVariants.{Thread as OfThread, Kernel}
use Rattle.rc_world.specs.declared.fault.FaultKind.{FaultKind}
use Rattle.rc_world.specs.declared.fault.FaultKind.TheVariants.{WriteOfPending, ReadOfFilling, KernelClash, ThreadRace, RingFull, Overflow, AmbiguousData, UnknownReap, NoLock, RawEntry, OutOfBuffer, DoublePut}
use Rattle.rc_world.specs.Controls.{Standing, next_at, next_line}
use Rattle.rc_world.specs.Faults.{Access, access_of, has_cq, has_fault, has_sq, is_ambiguous_at, is_cq_call, is_double_at, is_full_at, is_out_at, is_raw_at, is_sq_call, is_unknown_at, races, reads_filling, writes_pending}
use Rattle.rc_world.specs.Harm.{DoesNoHarm, IsHarmless, does_harm, harms_at, harms_buffer, harms_cq, harms_sq, is_harmful, line_of}
use Rattle.rc_world.specs.Machine.{World}
use Rattle.rc_world.proofs.Heads.{no_races}

-- ---- one thread

-- on the submission side
record QuietSq (h p q s c : Bool) : Type 0 where
  full : (h && p) ≡ false
  ambiguous : (h && q) ≡ false
  raw : (h && s) ≡ false
  call : (c && not h) ≡ false

quiet_sq : (h p q s c : Bool) → (if h then p || q || s else c) ≡ false → QuietSq h p q s c
quiet_sq true p q s c e =
    let a = or_parts (p || q) s e in
    let b = or_parts p q a.0 in
    record { full = b.0; ambiguous = b.1; raw = a.1; call = and_right c false refl }
quiet_sq false p q s c e = record { full = refl; ambiguous = refl; raw = refl; call = and_left c true e }

-- and on the completion side
record QuietCq (h r c : Bool) : Type 0 where
  unknown : (h && r) ≡ false
  call : (c && not h) ≡ false

quiet_cq : (h r c : Bool) → (if h then r else c) ≡ false → QuietCq h r c
quiet_cq true r c e = record { unknown = e; call = and_right c false refl }
quiet_cq false r c e = record { unknown = refl; call = and_left c true e }

record Untouched (w : World) (i : ℕ) (a : Option Access) : Type 0 where
  writes : writes_pending w.pending a ≡ false
  reads : reads_filling w.pending a ≡ false
  race : races w i a ≡ false

untouched : (w : World) (i : ℕ) (a : Option Access) → harms_buffer w i a ≡ false → Untouched w i a
untouched w i None e = record { writes = refl; reads = refl; race = no_races w (i + 1) (drop (i + 1) w.controls.threads) }
untouched w i (Some a) e =
    let b = or_parts (writes_pending w.pending (Some a) || reads_filling w.pending (Some a)) (races w i (Some a)) e in
    let c = or_parts (writes_pending w.pending (Some a)) (reads_filling w.pending (Some a)) b.0 in
    record { writes = c.0; reads = c.1; race = b.1 }

module _ (w : World) (i : ℕ) (s : Stmt) (e : is_harmful w i s ≡ false) where
  pool : ((harms_buffer w i (access_of s) || is_out_at w.program s || harms_sq w i s || harms_cq w i s) ≡ false) × (is_double_at w i s ≡ false)
  pool = or_parts (harms_buffer w i (access_of s) || is_out_at w.program s || harms_sq w i s || harms_cq w i s) (is_double_at w i s) e

  last : ((harms_buffer w i (access_of s) || is_out_at w.program s || harms_sq w i s) ≡ false) × (harms_cq w i s ≡ false)
  last = or_parts (harms_buffer w i (access_of s) || is_out_at w.program s || harms_sq w i s) (harms_cq w i s) pool.0

  first : ((harms_buffer w i (access_of s) || is_out_at w.program s) ≡ false) × (harms_sq w i s ≡ false)
  first = or_parts (harms_buffer w i (access_of s) || is_out_at w.program s) (harms_sq w i s) last.0

  submits : QuietSq (has_sq w i) (is_full_at w s) (is_ambiguous_at w s) (is_raw_at w.slot s) (is_sq_call s)
  submits = quiet_sq (has_sq w i) (is_full_at w s) (is_ambiguous_at w s) (is_raw_at w.slot s) (is_sq_call s) first.1

  reaps : QuietCq (has_cq w i) (is_unknown_at w s) (is_cq_call s)
  reaps = quiet_cq (has_cq w i) (is_unknown_at w s) (is_cq_call s) last.1

  places : (harms_buffer w i (access_of s) ≡ false) × (is_out_at w.program s ≡ false)
  places = or_parts (harms_buffer w i (access_of s)) (is_out_at w.program s) first.0

  buffer : Untouched w i (access_of s)
  buffer = untouched w i (access_of s) places.0

  harmless : (kind : FaultKind) → has_fault w kind i s ≡ false
  harmless WriteOfPending = buffer.writes
  harmless ReadOfFilling = buffer.reads
  harmless KernelClash = refl
  harmless ThreadRace = buffer.race
  harmless RingFull = submits.full
  harmless Overflow = refl
  harmless AmbiguousData = submits.ambiguous
  harmless UnknownReap = reaps.unknown
  harmless NoLock = ap (λ b. b || (is_cq_call s && not (has_cq w i))) submits.call ∙ reaps.call
  harmless RawEntry = submits.raw
  harmless OutOfBuffer = places.1
  harmless DoublePut = pool.1

-- ---- the pass

pub harmless_next : (w : World) (i : ℕ) (line : Line) → Some line ≡ next_line w.program w.controls i → is_harmful w i line.stmt ≡ false → IsHarmless w i
harmless_next w i line n e kind l m = subst (λ (x : Line). has_fault w kind i x.stmt ≡ false) (same_Some line l (n ∙ m)) (harmless w i line.stmt e kind)

-- the line at the place of the thread
place_at : (w : World) → IsProgram w.program → (i p : ℕ) (t : Option Standing) → Some p ≡ option_map (λ (s : Standing). s.place) t → slice_get (lines_of w.program i) p ≡ next_at w.program i t
place_at w made i p None e = absurd (cc)
place_at w made i p (Some t) e = ap (slice_get (lines_of w.program i)) (same_Some p t.place e) ∙ sym (line_alone w.program made i t.variables t.place)

pub line_at_place : (w : World) → IsProgram w.program → (i p : ℕ) → Some p ≡ option_map (λ (s : Standing). s.place) (slice_get w.controls.threads i) → slice_get (lines_of w.program i) p ≡ line_of w i
line_at_place w made i p = place_at w made i p (slice_get w.controls.threads i)

pub harmless_past : (w : World) (i : ℕ) → line_of w i ≡ None → IsHarmless w i
harmless_past w i n kind l e = let none : Some l ≡ None = sym e ∙ n in absurd (cc)

pub harmless_at : (w : World) (i : ℕ) (l : Option Line) → line_of w i ≡ l → harms_at w i l ≡ false → IsHarmless w i
harmless_at w i None n e = harmless_past w i n
harmless_at w i (Some l) n e = harmless_next w i l (sym n) e

-- a step that does no harm by one question does none
pub does_no_harm : (w : World) (item : Item) → does_harm w item ≡ false → DoesNoHarm w item
does_no_harm w (OfThread i take) e = harmless_at w i (line_of w i) refl e
does_no_harm w (Kernel user_data res fill) e = e

pub harmless_more : (w : World) (n : ℕ) → ((i : ℕ) → i < n → IsHarmless w i) → IsHarmless w n → (i : ℕ) → i < n + 1 → IsHarmless w i
harmless_more w n h here i lt = elim (cases_lt i n) [
  | inl before ↦ h i before
  | inr not_before ↦ let q : n ≡ i = omega arith in subst (IsHarmless w) q here
]

no_line : (w : World) (i : ℕ) (t : Option Standing) → slice_get w.program.threads i ≡ None → next_at w.program i t ≡ None
no_line w i None e = refl
no_line w i (Some t) e = ap (λ thread. option_map (read_line w.program (rows_of w.program i) t.variables) (slice_get (lines_in thread) t.place)) e

declared_within : (w : World) (i : ℕ) (l : Line) → line_of w i ≡ Some l → i < length w.program.threads
declared_within w i l e = go (slice_get w.program.threads i) refl
  where
    go : (t : Option Thread) → slice_get w.program.threads i ≡ t → i < length w.program.threads
    go None g = let d : next_line w.program w.controls i ≡ None = no_line w i (slice_get w.controls.threads i) g in absurd (cc)
    go (Some t) g = slice_get_within w.program.threads i t g

pub harmless_all : (w : World) (n : ℕ) → length w.program.threads ≤ n → ((i : ℕ) → i < n → IsHarmless w i) → (i : ℕ) → IsHarmless w i
harmless_all w n le h i kind l e = let lt : i < length w.program.threads = declared_within w i l e in h i (omega arith) kind l e
