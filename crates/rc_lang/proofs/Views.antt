-- The views of a made program.
use Rattle.std.proofs.Common.{◌≡◌, ℕ, Some, get_or, slice_get, ap, ◌∙◌}
use Rattle.std.proofs.lemmas.Option.{slice_get-get_or}
use Rattle.rc_lang.specs.declared.view.View.{View}
use Rattle.rc_lang.specs.Program.{Program, Thread}
use Rattle.rc_lang.specs.Kept.{IsProgram, IsThread}
use Rattle.rc_lang.specs.Views.{IsView, seen, view_of}

-- as its declarations name its parts
pub own_view : (P : Program) → IsProgram P → IsView P
own_view P made = record {
  entries = made.entries;
  completion_entries = made.completion_entries;
  few_buffers = made.few_buffers;
  buffers = λ k d lt. record { bytes = (made.buffers k d lt).bytes; shares = (made.buffers k d lt).shares };
  few_tokens = made.few_tokens;
  tokens = made.tokens;
  distinct_tokens = made.distinct_tokens;
  few_stock = made.few_stock;
  few_stocked = λ k d lt. (made.stock k d lt).items.credits;
  few_threads = made.few_threads;
  few_credits = λ k d lt. (made.each k (get_or P.threads k d) (slice_get-get_or P.threads k d lt)).items.credits;
}

-- as a thread names them
pub is_view : (P : Program) (i : ℕ) → IsProgram P → IsView (view_of P i)
is_view P i made = own_view P made

-- what is seen by the view of a thread
pub sees : (view : View) (P : Program) (i : ℕ) → view.program.now ≡ P → view.thread ≡ i → seen view ≡ view_of P i
sees view P i p q = ap (λ (Q : Program). view_of Q view.thread) p ∙ ap (λ n. view_of P n) q

-- A thread's lines are resolved in its view.
pub is_thread : (P : Program) (i : ℕ) (t : Thread) → IsProgram P → slice_get P.threads i ≡ Some t → IsThread (view_of P i) t
is_thread P i t made e = made.each i t e
