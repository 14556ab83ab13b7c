-- The world in which a program starts.
use Rattle.std.proofs.Common.{◌≡◌, ℕ, zero, suc, List, [], ◌∷◌, length, map, replicate, Option, Some, None, refl, sym, ap, ◌∙◌, slice_get, arith}
use Rattle.std.proofs.lemmas.List.{length-map, length-replicate}
use Rattle.std.proofs.lemmas.Option.{same_Some}
use Rattle.rc_lang.specs.declared.program.Buffer.{Buffer as BufferPart}
use Rattle.rc_lang.specs.Parts.{view_buffer}
use Rattle.rc_lang.specs.Program.{Buffer, Program, bytes_at}
use Rattle.rc_lang.specs.Kept.{IsProgram}
use Rattle.rc_lang.specs.declared.request.Request.{Request}
use Rattle.rc_world.specs.declared.event.Completion.{Completion}
use Rattle.rc_world.specs.declared.world.Slot.TheVariants.{Closed}
use Rattle.rc_world.specs.Controls.{Controls, start_controls}
use Rattle.rc_world.specs.Kept.{IsKept}
use Rattle.rc_world.specs.Machine.{Pending, World, start_world}

pub zeroes : (parts : List BufferPart) → map (λ (b : BufferPart). Some (replicate {A = ℕ} b.bytes 0)) parts ≡ map (λ (b : Buffer). Some (replicate {A = ℕ} b.bytes 0)) (map view_buffer parts)
zeroes [] = refl
zeroes (b ∷ parts) = ap (λ xs. Some (replicate {A = ℕ} b.bytes 0) ∷ xs) (zeroes parts)

sized : (buffers : List Buffer) (b : ℕ) (bytes : List ℕ) → slice_get (map (λ (x : Buffer). Some (replicate {A = ℕ} x.bytes 0)) buffers) b ≡ Some (Some bytes) → length bytes ≡ bytes_at buffers b
sized [] b bytes e = absurd (cc)
sized (x ∷ buffers) zero bytes e = sym (ap (λ (xs : List ℕ). length xs) (same_Some _ _ (same_Some _ _ e))) ∙ length-replicate x.bytes 0
sized (x ∷ buffers) (suc b) bytes e = sized buffers b bytes e

none_absent : (buffers : List Buffer) (b : ℕ) → slice_get (map (λ (x : Buffer). Some (replicate {A = ℕ} x.bytes 0)) buffers) b ≡ Some None → ⊥
none_absent [] b e = absurd (cc)
none_absent (x ∷ buffers) zero e = absurd (cc)
none_absent (x ∷ buffers) (suc b) e = none_absent buffers b e

pub kept_start : (program : Program) → IsProgram program → IsKept (start_world program)
kept_start program made = record {
  made = made;
  room = omega arith;
  slot = tt;
  queued = λ k r e. absurd (cc);
  memory = record {
    pending = λ k p e. absurd (cc);
    as_many = length-map program.buffers (λ (x : Buffer). Some (replicate {A = ℕ} x.bytes 0));
    sized = sized program.buffers;
    filled = λ b e. absurd (none_absent program.buffers b e);
  };
}

pub started : (program : Program) (controls : Controls) (queued : List Request) (pending : List Pending) (completed : List Request) (completions : List Completion) (buffers : List (Option (List ℕ)))
    → controls ≡ start_controls program → queued ≡ [] → pending ≡ [] → completed ≡ [] → completions ≡ [] → buffers ≡ map (λ (b : Buffer). Some (replicate {A = ℕ} b.bytes 0)) program.buffers
    → ◌≡◌ {A = World} (record { program = program; controls = controls; slot = Closed; queued = queued; pending = pending; completed = completed; completions = completions; made = 0; buffers = buffers }) (start_world program)
started program controls queued pending completed completions buffers a b c d e f = rw (a, b, c, d, e, f) refl
