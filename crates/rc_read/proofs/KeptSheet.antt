-- What is kept of the sheet above each line, and what a line of the open thread does to it.
use Rattle.std.proofs.Common.{◌≡◌, ℕ, ◌+◌, ◌<◌, ◌≤◌, false, not, ◌&&◌, List, [], ◌++◌, length, Option, Some, None, refl, sym, ap, ◌∙◌, subst, append_assoc, inl, inr, arith}
use Rattle.std.specs.Prelude.{IfSome}
use Rattle.std.proofs.lemmas.Bool.{and_parts, not-false}
use Rattle.rc_lang.specs.declared.lines.Block.{Block}
use Rattle.rc_lang.specs.declared.lines.Block.TheVariants.{InLock, InIf, InElse, InPeek, InArm, InLoop}
use Rattle.rc_lang.specs.Nesting.{innermost, is_some_peek}
use Rattle.rc_lang.specs.Program.{Program, Thread as ThreadOf}
use Rattle.rc_lang.specs.Kept.{line_numbers, numbers_from, stock_numbers}
use Rattle.rc_lang.proofs.Lookups.{nothing_open}
use Rattle.rc_read.specs.declared.parts.Region.{Region}
use Rattle.rc_read.specs.declared.parts.Region.TheVariants.{Start, Second, Declarations, InThread, Between}
use Rattle.rc_read.specs.declared.says.Says.{Says}
use Rattle.rc_read.specs.declared.says.Says.TheVariants as says
use Rattle.rc_read.specs.declared.values.Item.{Item}
use Rattle.rc_read.specs.Adds.{closed, closing, closing_of, counted, said, stmt_in, whole_thread}
use Rattle.rc_read.specs.Sheets.{Draft, Sheet, empty, is_among, names_behind, naming, thread_names, with_names}
use Rattle.rc_read.specs.Spots.{Spot}
use Rattle.rc_read.proofs.KeptDraft.{IsDraft, MayFollow, draft_copy, draft_more, draft_named, draft_whole, open_loop}
use Rattle.rc_read.proofs.KeptParts.{AreDeclared, AreThreads, RiseTo, line_more, nothing_declared, numbers_more, numbers_whole, one_more, rise_more, rise_on}
use Rattle.rc_read.proofs.KeptRows.{HasRoom}
use Rattle.rc_read.proofs.KeptStock.{AreStocked, grows_not, none_stocked, stocked_on}
use Rattle.rc_read.proofs.KeptValues.{made}

-- ---- what is kept

-- A thread is open, and another one may be.
pub record IsOpen (p : Program) (count : ℕ) (d : Draft) (threads : List ThreadOf) : Type 0 where
  pub finished : AreThreads p threads
  pub room : HasRoom (length threads) d.copies
  pub new : is_among (thread_names threads) d.name ≡ false
  pub few_lines : length d.lines ≤ count
  pub numbers : RiseTo count ((stock_numbers p.stock ++ line_numbers threads) ++ numbers_from d.line d.lines)
  pub draft : IsDraft p d

-- The threads, by the part of the model, and that nothing is declared above the first line.
abbrev pub ThreadsAt : Program → ℕ → Draft → List ThreadOf → Region → Type 0
ThreadsAt p count d threads Start = (threads ≡ []) × (p.pools ≡ []) × (p.stock ≡ [])
ThreadsAt p count d threads Second = threads ≡ []
ThreadsAt p count d threads Declarations = threads ≡ []
ThreadsAt p count d threads InThread = IsOpen p count d threads
ThreadsAt p count d threads Between = AreThreads p threads × RiseTo count (stock_numbers p.stock ++ line_numbers threads)

-- What is kept of the sheet above each line, where these will be the program's threads.
pub record IsKept (ts : List ThreadOf) (s : Sheet) : Type 0 where
  pub few_lines : s.count ≤ 4096
  pub declared : AreDeclared s.head s.files s.buffers s.tokens s.pools
  pub stocked : AreStocked (made ts s) s.count s.stock
  pub threads : ThreadsAt (made ts s) s.count s.draft s.threads s.region

module _ (ts : List ThreadOf) where
  pub kept_start : IsKept ts empty
  kept_start = record { few_lines = omega arith; declared = nothing_declared; stocked = none_stocked (made ts empty) 0; threads = (refl, refl, refl) }

  -- ---- lines without words, and the variables of a line

  threads_counted : (p : Program) (count : ℕ) (d : Draft) (threads : List ThreadOf) (r : Region) → ThreadsAt p count d threads r → ThreadsAt p (count + 1) d threads r
  threads_counted p count d threads InThread h = record { finished = h.finished; room = h.room; new = h.new; few_lines = let le : length d.lines ≤ count = h.few_lines in omega arith; numbers = rise_on count _ h.numbers; draft = h.draft }
  threads_counted p count d threads Between h = (h.0, rise_on count (stock_numbers p.stock ++ line_numbers threads) h.1)
  threads_counted p count d threads r h = h

  pub kept_counted : (s : Sheet) → s.count < 4096 → IsKept ts s → IsKept ts (counted s)
  kept_counted s lt k = record { few_lines = omega arith; declared = k.declared; stocked = stocked_on (made ts s) (made ts s) s.count s.stock (grows_not (made ts s)) k.stocked; threads = threads_counted (made ts s) s.count s.draft s.threads s.region k.threads }

  threads_named : (p : Program) (count : ℕ) (d : Draft) (ps : List Spot) (threads : List ThreadOf) → length (names_behind d.names ps) ≤ 64 → (r : Region) → ThreadsAt p count d threads r → ThreadsAt p count (naming d ps) threads r
  threads_named p count d ps threads few InThread h = record { finished = h.finished; room = h.room; new = h.new; few_lines = h.few_lines; numbers = h.numbers; draft = draft_named p d ps few h.draft }
  threads_named p count d ps threads few r h = h

  pub kept_named : (s : Sheet) (ps : List Spot) → length (names_behind s.draft.names ps) ≤ 64 → IsKept ts s → IsKept ts (with_names s ps)
  kept_named s ps few k = record { few_lines = k.few_lines; declared = k.declared; stocked = k.stocked; threads = threads_named (made ts s) s.count s.draft ps s.threads few s.region k.threads }

  -- ---- lines of the open thread

  module _ (s : Sheet) (lt : s.count < 4096) (k : IsKept ts s) where
    -- the threads, where the part of the model is known
    pub at : (r : Region) → s.region ≡ r → ThreadsAt (made ts s) s.count s.draft s.threads r
    at r e = subst (λ q. ThreadsAt (made ts s) s.count s.draft s.threads q) e k.threads

    module _ (e : s.region ≡ InThread) where
      thread : IsOpen (made ts s) s.count s.draft s.threads
      thread = at InThread e

      pub kept_said : (its : List Item) (what : Says) → MayFollow (made ts s) s.draft its (stmt_in s.draft what) → IsKept ts (counted (said s its what))
      kept_said its what may = record {
        few_lines = omega arith;
        declared = k.declared;
        stocked = stocked_on (made ts s) (made ts s) s.count s.stock (grows_not (made ts s)) k.stocked;
        threads = subst (λ q. ThreadsAt (made ts s) (s.count + 1) (said s its what).draft s.threads q) (sym e) (record {
          finished = thread.finished;
          room = thread.room;
          new = thread.new;
          few_lines = let le : length s.draft.lines ≤ s.count = thread.few_lines in one_more s.draft.lines (record { number = s.count + 1; stmt = stmt_in s.draft what }) (s.count + 1) (omega arith);
          numbers = subst (λ ns. RiseTo (s.count + 1) ns) (sym (numbers_more (stock_numbers s.stock ++ line_numbers s.threads) s.draft.line s.draft.lines (record { number = s.count + 1; stmt = stmt_in s.draft what }))) (rise_more s.count _ thread.numbers);
          draft = draft_more (made ts s) s.draft thread.draft (s.count + 1) its (stmt_in s.draft what) (omega arith) (omega arith) may;
        });
      }

      kept_whole : innermost s.draft.blocks ≡ None → IsKept ts (counted (closed s None))
      kept_whole i = record {
        few_lines = omega arith;
        declared = k.declared;
        stocked = stocked_on (made ts s) (made ts s) s.count s.stock (grows_not (made ts s)) k.stocked;
        threads = (
          line_more (made ts s) s.threads (whole_thread s.draft) thread.finished thread.draft.name thread.new (draft_copy (made ts s) s.draft thread.draft few (nothing_open s.draft.blocks i)) s.draft.copies (draft_whole (made ts s) s.draft thread.draft few (nothing_open s.draft.blocks i)) refl thread.room,
          subst (λ ns. RiseTo (s.count + 1) ns) (sym (ap (λ ns. stock_numbers s.stock ++ ns) (numbers_whole s.threads (whole_thread s.draft) s.draft.copies refl (some_copy (length s.threads) s.draft.copies thread.room)) ∙ sym (append_assoc (stock_numbers s.stock) (line_numbers s.threads) (numbers_from s.draft.line s.draft.lines)))) (rise_on s.count _ thread.numbers),
        );
      }
        where
          few : length s.draft.lines ≤ 4096
          few = let le : length s.draft.lines ≤ s.count = thread.few_lines in let all : s.count ≤ 4096 = k.few_lines in omega (arith, le, all)

          some_copy : (n : ℕ) (copies : Option ℕ) → HasRoom n copies → IfSome copies (λ m. 1 ≤ m)
          some_copy n None h = tt
          some_copy n (Some m) h = h.0

      closes : (b : Block) → innermost s.draft.blocks ≡ Some b → is_some_peek (Some b) && not (s.draft.arms.other && s.draft.arms.none) ≡ false → MayFollow (made ts s) s.draft [] (closing b)
      closes (InLock o l) i n = record { nested = i; room = tt; arm = tt; resolved = tt; list = tt }
      closes (InIf o) i n = record { nested = inl i; room = tt; arm = tt; resolved = tt; list = tt }
      closes (InElse o) i n = record { nested = inr i; room = tt; arm = tt; resolved = tt; list = tt }
      closes (InPeek o) i n = record { nested = i; room = tt; arm = and_parts s.draft.arms.other s.draft.arms.none (not-false (s.draft.arms.other && s.draft.arms.none) n); resolved = tt; list = tt }
      closes (InArm o) i n = record { nested = i; room = tt; arm = tt; resolved = tt; list = tt }
      closes (InLoop o m) i n = record { nested = i; room = tt; arm = tt; resolved = open_loop (made ts s) s.draft thread.draft o m i; list = tt }

      pub kept_brace : (x : Option Block) → innermost s.draft.blocks ≡ x → is_some_peek x && not (s.draft.arms.other && s.draft.arms.none) ≡ false → IsKept ts (counted (closed s x))
      kept_brace None i n = kept_whole i
      kept_brace (Some b) i n = kept_said [] says.Close (subst (λ x. MayFollow (made ts s) s.draft [] (closing_of x)) (sym i) (closes b i n))
