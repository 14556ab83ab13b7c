-- What a statement does to rings and buffers leaves the program and the controls, and what a world keeps.
use Rattle.std.proofs.Common.{◌≡◌, ℕ, ℤ, ◌+◌, ◌<◌, ◌≤◌, true, false, List, length, get_or, Some, refl, sym, ap, subst, ◌∙◌, arith}
use Rattle.std.proofs.lemmas.List.{get_or-map, length-map}
use Rattle.std.proofs.lemmas.Option.{same_Some}
use Rattle.rc_lang.specs.declared.lines.Line.{Line}
use Rattle.rc_lang.specs.declared.lines.Op.{Op}
use Rattle.rc_lang.specs.declared.lines.Op.TheVariants.{Set, Assign, Add, Subtract, Load, Store, Fill, Print, PrepRead, PrepWrite, PrepFsync, PrepNop, PrepOther, Submit, SubmitAndWait}
use Rattle.rc_lang.specs.declared.lines.Operand.{Operand}
use Rattle.rc_lang.specs.declared.lines.Operand.TheVariants.{Variable, Number}
use Rattle.rc_lang.specs.declared.lines.Stmt.{Stmt}
use Rattle.rc_lang.specs.declared.lines.Stmt.TheVariants.{Do}
use Rattle.rc_lang.specs.declared.program.File.{File}
use Rattle.rc_lang.specs.declared.request.Request.{Request}
use Rattle.rc_lang.specs.Program.{Program, lines_of, stmt_at}
use Rattle.rc_lang.specs.Kept.{IsProgram}
use Rattle.rc_lang.specs.Resolved.{DeclaresFile, IsMove, IsOperand, IsResolvedOp}
use Rattle.rc_lang.specs.Rows.{line_read_at}
use Rattle.rc_lang.proofs.Reading.{stmt_alone}
use Rattle.rc_world.specs.Changes.{CallIsSmall, StmtIsSmall}
use Rattle.rc_world.specs.Controls.{Standing}
use Rattle.rc_world.specs.Faults.{has_buffer}
use Rattle.rc_world.specs.Kept.{IsKept}
use Rattle.rc_world.specs.Machine.{World, in_rings, slot_len}
use Rattle.rc_world.proofs.Cases.{OnSome, in_rings_by, prepared_by}
use Rattle.rc_world.proofs.Keeping.{handed_is, kept_buffers, kept_handed, kept_queued}
use Rattle.rc_world.proofs.Laid.{resolved_in}
use Rattle.rc_world.proofs.Memory.{memory_written}

-- ---- the numbers of a made program's line

small_file : (program : Program) → IsProgram program → (fd : ℕ) → DeclaresFile program fd → fd ≤ 1023
small_file program made fd h =
    let none : File = record { number = fd; len = 0 } in
    let lt : h.0 < length program.files = subst (λ n. h.0 < n) (length-map program.files (λ (f : File). f.number)) h.1 in
    let e : (get_or program.files h.0 none).number ≡ fd = sym (get_or-map (λ (f : File). f.number) program.files h.0 none fd lt) ∙ h.2 in
    subst (λ n. n ≤ 1023) e (made.files h.0 none lt).number

small_move : (program : Program) → IsProgram program → (fd b len off : ℕ) → IsMove program fd b len off → (fd ≤ 1023) × (b < 64) × (b < length program.buffers)
small_move program made fd b len off h =
    let few : length program.buffers ≤ 64 = made.few_buffers in
    let lt : b < length program.buffers = h.buffer in
    (small_file program made fd h.file, omega arith, lt)

small_operand : (n : ℕ) (a : Operand) → n ≤ 64 → IsOperand n a → IsOperand 64 a
small_operand n (Variable x) le h = let lt : x < n = h in omega arith
small_operand n (Number v) le h = tt

small_call : (program : Program) → IsProgram program → (n : ℕ) → n ≤ 64 → (op : Op) → IsResolvedOp program n op → CallIsSmall program op
small_call program made n le (Set x v) h = let lt : x < n = h in omega arith
small_call program made n le (Assign x y) h = let a : x < n = h.0 in let b : y < n = h.1 in (omega arith, omega arith)
small_call program made n le (Add x y z) h = let a : x < n = h.0 in (omega arith, small_operand n y le h.1, small_operand n z le h.2)
small_call program made n le (Subtract x y z) h = let a : x < n = h.0 in (omega arith, small_operand n y le h.1, small_operand n z le h.2)
small_call program made n le (Load x b i) h = let a : x < n = h.0 in omega arith
small_call program made n le (Store b i x) h = let lt : x < n = h.2 in omega arith
small_call program made n le (Fill b x) h = let lt : x < n = h.1 in omega arith
small_call program made n le (Print x) h = let a : x < n = h in omega arith
small_call program made n le (PrepRead fd b len off) h = small_move program made fd b len off h
small_call program made n le (PrepWrite fd b len off k) h = small_move program made fd b len off h.0
small_call program made n le (PrepFsync fd datasync) h = small_file program made fd h
small_call program made n le (Submit x) h = let a : x < n = h in omega arith
small_call program made n le (SubmitAndWait x m) h = let a : x < n = h.0 in omega arith
small_call program made n le _ h = tt

pub small_stmt : (program : Program) → IsProgram program → (i j : ℕ) (s : Stmt) → stmt_at (lines_of program i) j ≡ Some s → StmtIsSmall program s
small_stmt program made i j (Do op) e = let r = resolved_in program made i j (Do op) e in small_call program made r.0 r.2 op r.3
small_stmt program made i j _ e = tt

-- so where the line is read
pub small_read : (program : Program) → IsProgram program → (i : ℕ) (vars : List ℤ) (j : ℕ) (l : Line) → line_read_at program i vars j ≡ Some l → StmtIsSmall program l.stmt
small_read program made i vars j l e = small_stmt program made i j l.stmt (stmt_alone program made i vars j l e)

-- ---- what stays

-- the buffer that a prep names is there
in_buffers : (program : Program) (s : Stmt) → StmtIsSmall program s → (r : Request) → prepared_by s ≡ Some r → has_buffer r.kind ≡ true → r.buffer < length program.buffers
in_buffers program (Do (PrepRead fd b len off)) h r e k = subst (λ (q : Request). q.buffer < length program.buffers) (same_Some _ r e) h.2
in_buffers program (Do (PrepWrite fd b len off n)) h r e k = subst (λ (q : Request). q.buffer < length program.buffers) (same_Some _ r e) h.2
in_buffers program (Do (PrepFsync fd datasync)) h r e k = let n : has_buffer r.kind ≡ false = ap (λ (q : Request). has_buffer q.kind) (sym (same_Some _ r e)) in absurd (cc)
in_buffers program (Do PrepNop) h r e k = let n : has_buffer r.kind ≡ false = ap (λ (q : Request). has_buffer q.kind) (sym (same_Some _ r e)) in absurd (cc)
in_buffers program (Do PrepOther) h r e k = let n : has_buffer r.kind ≡ false = ap (λ (q : Request). has_buffer q.kind) (sym (same_Some _ r e)) in absurd (cc)
in_buffers program _ h r e k = absurd (cc)

pub record IsSameBut (w after : World) : Type 0 where
  pub program : after.program ≡ w.program
  pub controls : after.controls ≡ w.controls
  pub kept : IsKept after

-- A statement leaves the program and the controls, and what a world keeps.
pub rings_same : (w : World) → IsKept w → (t : Standing) (r : ℤ) (s : Stmt) → StmtIsSmall w.program s → (after : World) → in_rings w t r s ≡ Some after → IsSameBut w after
rings_same w k t r s small after e = subst (OnSome (IsSameBut w)) e (in_rings_by (IsSameBut w) w t r s (record {
  nothing = record { program = refl; controls = refl; kept = k };
  bytes = λ b old new h n. record { program = refl; controls = refl; kept = kept_buffers w k _ (memory_written w.program w.pending w.buffers k.memory b old new h n) };
  opens = λ h lt. record { program = refl; controls = refl; kept = record { made = k.made; room = omega arith; slot = tt; queued = k.queued; memory = k.memory } };
  prepares = λ q p h room.
      let full : length w.queued + slot_len w.slot ≤ w.program.entries = k.room in
      let one : slot_len w.slot ≡ 1 = ap slot_len h in
      record { program = refl; controls = refl; kept = record { made = k.made; room = omega arith; slot = record { exists = in_buffers w.program s small q p; room = room }; queued = k.queued; memory = k.memory } };
  queues = λ u q i h. record { program = refl; controls = refl; kept = kept_queued w k q (w.made + 1) u (w.made + 1) h };
  submits = λ n. subst (IsSameBut w) (sym (handed_is w n)) (record { program = refl; controls = refl; kept = kept_handed w k n });
  gets = λ c cs h. record { program = refl; controls = refl; kept = record { made = k.made; room = k.room; slot = k.slot; queued = k.queued; memory = k.memory } };
  reaps = λ c cs h. record { program = refl; controls = refl; kept = record { made = k.made; room = k.room; slot = k.slot; queued = k.queued; memory = k.memory } };
}))
