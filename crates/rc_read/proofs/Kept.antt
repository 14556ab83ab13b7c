-- What the sentences keep of a sheet, line by line, and that what was read of a model without a fault is a program.
use Rattle.std.proofs.Common.{◌≡◌, ℕ, ◌+◌, ◌<◌, ◌≤◌, Bool, true, false, cond, not, ◌&&◌, ◌||◌, ◌==◌, max, nat_le, List, [], ◌∷◌, ◌++◌, length, length-append, take, Option, Some, None, Result, Ok, Err, is_none, unwrap_or, slice_get, refl, sym, ap, ◌∙◌, subst, ◌⊎◌, inl, inr, All, arith}
use Rattle.std.specs.List.{list_any}
use Rattle.std.proofs.lemmas.Bool.{and_cases, and_parts, leb-false, not-false, or_parts}
use Rattle.std.proofs.lemmas.List.{append-nil}
use Rattle.std.proofs.lemmas.List.Elements.{All-weaker}
use Rattle.rc_lang.specs.declared.lines.Block.{Block}
use Rattle.rc_lang.specs.declared.lines.Block.TheVariants.{InIf, InPeek}
use Rattle.rc_lang.specs.declared.lines.Test.TheVariants as test
use Rattle.rc_lang.specs.declared.program.Token.{Token}
use Rattle.rc_lang.specs.declared.program.TokenKind.{TokenKind}
use Rattle.rc_lang.specs.declared.program.TokenKind.TheVariants as kind
use Rattle.rc_lang.specs.Kinds.{kinds_in}
use Rattle.rc_lang.specs.Nesting.{Way, directly_in_peek, in_peek, innermost, is_some_peek, locks_in, way_out}
use Rattle.rc_lang.specs.Program.{Buffer as BufferOf, Items, Program, Stock as StockOf, Thread as ThreadOf}
use Rattle.rc_lang.specs.Kept.{IsOfPool, IsProgram, IsTokenKind, line_numbers, stock_numbers}
use Rattle.rc_read.specs.declared.parts.Region.{Region}
use Rattle.rc_read.specs.declared.parts.Region.TheVariants.{Start, Second, Declarations, InThread, Between}
use Rattle.rc_read.specs.declared.says.Says.{Says}
use Rattle.rc_read.specs.declared.says.Says.TheVariants as says
use Rattle.rc_read.specs.declared.table.Row.{Row}
use Rattle.rc_read.specs.declared.table.Stand.{Stand}
use Rattle.rc_read.specs.declared.table.Stand.TheVariants as stand
use Rattle.rc_read.specs.declared.values.Item.{Item}
use Rattle.rc_read.specs.Adds.{added, block_place, counted, form_in, held, held_in_loop, said, second_of, stmt_in, stock_of, thread_name, values, with_line, with_words}
use Rattle.rc_read.specs.Answer.{at_end, judged, lacks_head, on_line, program_in}
use Rattle.rc_read.specs.Says.{says_by, says_of}
use Rattle.rc_read.specs.Sentences.{any_queue, any_strange, bad_brace, bad_case, bad_nesting, first_true, is_first_branch, is_inside, is_too_deep, repeats, sentences, word_sentences}
use Rattle.rc_read.specs.Sheets.{Sheet, empty, has_unnamed, naming, with_names}
use Rattle.rc_read.specs.Spots.{Spot, any_reserved, spots_by, spots_of}
use Rattle.rc_read.specs.Stream.{IsReached}
use Rattle.rc_read.specs.Table.{parts_of, stand_of, version_of}
use Rattle.rc_read.specs.Values.{behind_when, start}
use Rattle.rc_read.specs.Words.{words_of}
use Rattle.rc_read.proofs.KeptDraft.{MayFollow, draft_start}
use Rattle.rc_read.proofs.KeptForms.{AreFalse, IsRegion, are_false, few_lines, HasForm, has_form, inside, items_by, none_alone, none_else, region_is}
use Rattle.rc_read.proofs.KeptLists.{no_queue, no_queue_before}
use Rattle.rc_read.proofs.KeptParts.{AreThreads, RiseTo, buffers_more, files_more, no_threads, pools_in, pools_more, rise_more, tokens_more, tokens_on}
use Rattle.rc_read.proofs.KeptKinds.{IsKind, kinds_differ}
use Rattle.rc_read.proofs.KeptRows.{IsTold, has_more, told}
use Rattle.rc_read.proofs.KeptSheet.{IsKept, ThreadsAt, at, kept_brace, kept_counted, kept_named, kept_said, kept_start}
use Rattle.rc_read.proofs.KeptSpots.{all_named, are_of}
use Rattle.rc_read.proofs.KeptStock.{AreStocked, Grows, grows_not, items_on, named_stocked, none_stocked, still_declared, stocked_on, unnamed_stocked}
use Rattle.rc_read.proofs.KeptValues.{AreRight, fine_line, made}

module _ (ts : List ThreadOf) where
  -- ---- what a line says

  -- the innermost block is a peek, or the first branch of an if
  peeked : (x : Option Block) → is_some_peek x ≡ true → x ≡ Some (InPeek (block_place x))
  peeked (Some (InPeek o)) e = refl
  peeked x e = absurd (cc)

  first_branch : (x : Option Block) → is_first_branch x ≡ true → x ≡ Some (InIf (block_place x))
  first_branch (Some (InIf o)) e = refl
  first_branch x e = absurd (cc)

  out_of_loop : (w : Way) → is_none w.loop ≡ false → w ≡ record { loop = Some (unwrap_or w.loop 0); releases = w.releases; leaves = w.leaves }
  out_of_loop w e = ap (λ x. record { loop = x; releases = w.releases; leaves = w.leaves }) (some w.loop e)
    where
      some : (o : Option ℕ) → is_none o ≡ false → o ≡ Some (unwrap_or o 0)
      some None h = absurd (cc)
      some (Some n) h = refl

  no_queue_outside : (its : List Item) (locked behind : Bool) → any_queue its && (not locked || behind) ≡ false → locked ≡ false → any_queue its ≡ false
  no_queue_outside its locked behind e n = elim (and_cases (any_queue its) (not locked || behind) e) [ inl h ↦ h | inr h ↦ let k = (or_parts (not locked) behind h).0 in absurd (cc (k, n)) ]

  module _ (s : Sheet) (ps : List Spot) (ws : List (List ℕ)) (its : List Item) (st : Stand) (region : IsRegion st s.region) (lt : s.count < 4096) (k : IsKept ts (with_names s ps)) where
    stands : (st' : Stand) → st ≡ st' → IsRegion st' s.region
    stands st' e = subst (λ x. IsRegion x s.region) e region

    follows : (what : Says) → s.region ≡ InThread → MayFollow (made ts s) (naming s.draft ps) its (stmt_in (naming s.draft ps) what) → IsKept ts (counted (said (with_names s ps) its what))
    follows what e may = kept_said ts (with_names s ps) lt k e its what may

    room : nat_le 31 (length s.draft.blocks) ≡ false → length s.draft.blocks < 31
    room e = leb-false 31 (length s.draft.blocks) e

    longer : (i : Items) → length s.draft.lists < length (s.draft.lists ++ i ∷ [])
    longer i = let a : length (s.draft.lists ++ i ∷ []) ≡ length s.draft.lists + 1 = length-append s.draft.lists (i ∷ []) in omega arith

    of_pool : any_queue its ≡ false → IsOfPool (held its [])
    of_pool n = record { no_queue = no_queue its n; no_more = refl }

    header : (s.region ≡ Declarations) ⊎ (s.region ≡ Between) → AreThreads (made ts s) s.threads × RiseTo s.count (stock_numbers s.stock ++ line_numbers s.threads)
    header h = elim h [
      | inl e ↦ let none : s.threads ≡ [] = at ts (with_names s ps) lt k Declarations e in subst (λ xs. AreThreads (made ts s) xs × RiseTo s.count (stock_numbers s.stock ++ line_numbers xs)) (sym none) (no_threads (made ts s), subst (λ ns. RiseTo s.count ns) (sym (append-nil (stock_numbers s.stock))) k.stocked.numbers)
      | inr e ↦ at ts (with_names s ps) lt k Between e
    ]

    -- a declaration
    declares : (t : Sheet) → s.region ≡ Declarations → t.region ≡ s.region → t.threads ≡ s.threads → ThreadsAt (made ts t) (s.count + 1) t.draft t.threads t.region
    declares t e r h = subst (λ q. ThreadsAt (made ts t) (s.count + 1) t.draft t.threads q) (sym (r ∙ e)) (h ∙ at ts (with_names s ps) lt k Declarations e)

    -- the program with one more pool, and this stock
    pool_grows : (name : List ℕ) (stock : List StockOf) → Grows (made ts s) (record (made ts s) { pools = s.pools ++ name ∷ []; stock = stock })
    pool_grows name stock = record { version = refl; buffers = omega arith; tokens = λ u x. x; pools = let a : length (s.pools ++ name ∷ []) ≡ length s.pools + 1 = length-append s.pools (name ∷ []) in omega (arith, a) }

    kept_what : (what : Says) → IsTold ts s (naming s.draft ps) ws its st what → repeats s what ≡ false → bad_brace s what ≡ false → is_too_deep s what ≡ false → bad_nesting s.draft.blocks its what ≡ false → bad_case s.draft what ≡ false → IsKept ts (counted (added (with_names s ps) ws its what))
    kept_what (says.Version v) t r b d n c = record {
      few_lines = omega arith;
      declared = record {
        sizes = record { version = (t.1, t.2); rings = k.declared.sizes.rings };
        known_files = k.declared.known_files;
        known_buffers = k.declared.known_buffers;
        known_tokens = k.declared.known_tokens;
        known_pools = pools_in v s.pools (at ts (with_names s ps) lt k Start (stands stand.First t.0)).1;
      };
      stocked = let none : s.stock ≡ [] = (at ts (with_names s ps) lt k Start (stands stand.First t.0)).2 in subst (λ xs. AreStocked (record (made ts s) { version = v; stock = xs }) (s.count + 1) xs) (sym none) (none_stocked (record (made ts s) { version = v; stock = [] }) (s.count + 1));
      threads = (at ts (with_names s ps) lt k Start (stands stand.First t.0)).0;
    }
    kept_what (says.Ring h) t r b d n c = record { few_lines = omega arith; declared = record { sizes = record { version = k.declared.sizes.version; rings = t.1 }; known_files = k.declared.known_files; known_buffers = k.declared.known_buffers; known_tokens = k.declared.known_tokens; known_pools = k.declared.known_pools }; stocked = stocked_on (made ts s) (made ts (added (with_names s ps) ws its (says.Ring h))) s.count s.stock (record { version = refl; buffers = omega arith; tokens = λ u x. x; pools = omega arith }) k.stocked; threads = at ts (with_names s ps) lt k Second (stands stand.Second t.0) }
    kept_what (says.File f) t r b d n c = record {
      few_lines = omega arith;
      declared = record { sizes = k.declared.sizes; known_files = files_more s.files f k.declared.known_files t.1 t.2 t.3; known_buffers = k.declared.known_buffers; known_tokens = k.declared.known_tokens; known_pools = k.declared.known_pools };
      stocked = stocked_on (made ts s) (made ts (added (with_names s ps) ws its (says.File f))) s.count s.stock (record { version = refl; buffers = omega arith; tokens = λ u x. x; pools = omega arith }) k.stocked;
      threads = declares (added (with_names s ps) ws its (says.File f)) (stands stand.Declaration t.0) refl refl;
    }
    kept_what (says.Buffer bytes shares) t r b d n c =
        let buffer : BufferOf = record { name = second_of ws; bytes = bytes; shares = shares } in
        record {
          few_lines = omega arith;
          declared = record { sizes = k.declared.sizes; known_files = k.declared.known_files; known_buffers = buffers_more s.buffers buffer k.declared.known_buffers (record { name = t.4.0; bytes = t.1; shares = t.2 }) t.4.1 t.3; known_tokens = tokens_on s.buffers buffer s.tokens k.declared.known_tokens; known_pools = k.declared.known_pools };
          stocked = stocked_on (made ts s) (made ts (added (with_names s ps) ws its (says.Buffer bytes shares))) s.count s.stock (record { version = refl; buffers = let a : length (s.buffers ++ buffer ∷ []) ≡ length s.buffers + 1 = length-append s.buffers (buffer ∷ []) in omega (arith, a); tokens = λ u x. x; pools = omega arith }) k.stocked;
          threads = declares (added (with_names s ps) ws its (says.Buffer bytes shares)) (stands stand.Declaration t.0) refl refl;
        }
    kept_what (says.Token token) t r b d n c = record {
      few_lines = omega arith;
      declared = record { sizes = k.declared.sizes; known_files = k.declared.known_files; known_buffers = k.declared.known_buffers; known_tokens = tokens_more s.buffers s.tokens token k.declared.known_tokens t.1 (kinds_differ (kinds_in token) r) t.2 t.3; known_pools = k.declared.known_pools };
      stocked = stocked_on (made ts s) (made ts (added (with_names s ps) ws its (says.Token token))) s.count s.stock (record { version = refl; buffers = omega arith; tokens = λ u x. still_declared s.tokens token u x; pools = omega arith }) k.stocked;
      threads = declares (added (with_names s ps) ws its (says.Token token)) (stands stand.Declaration t.0) refl refl;
    }
    kept_what says.Pool t r b d n c = record {
      few_lines = omega arith;
      declared = record {
        sizes = k.declared.sizes;
        known_files = k.declared.known_files;
        known_buffers = k.declared.known_buffers;
        known_tokens = k.declared.known_tokens;
        known_pools = pools_more s.head.version s.pools (second_of ws) k.declared.known_pools t.3.0 t.3.1 t.2 t.1;
      };
      stocked = stocked_on (made ts s) (made ts (added (with_names s ps) ws its says.Pool)) s.count s.stock (pool_grows (second_of ws) s.stock) k.stocked;
      threads = declares (added (with_names s ps) ws its says.Pool) (stands stand.Declaration t.0) refl refl;
    }
    kept_what says.PoolStock t r b d n c =
        let later : 5 ≤ s.head.version = t.1 in
        let stock : StockOf = stock_of s (Some (length s.pools)) its in
        let q = made ts (added (with_names s ps) ws its says.PoolStock) in
        let a : length (s.pools ++ second_of ws ∷ []) ≡ length s.pools + 1 = length-append s.pools (second_of ws ∷ []) in
        let g = pool_grows (second_of ws) (s.stock ++ stock ∷ []) in
        record {
          few_lines = omega arith;
          declared = record {
            sizes = k.declared.sizes;
            known_files = k.declared.known_files;
            known_buffers = k.declared.known_buffers;
            known_tokens = k.declared.known_tokens;
            known_pools = pools_more s.head.version s.pools (second_of ws) k.declared.known_pools t.3.0 t.3.1 t.2 (omega (arith, later));
          };
          stocked = named_stocked (made ts s) q s.count s.stock stock g a later refl refl (record { pool = omega (arith, a); line = (omega arith, omega (arith, lt)); items = items_on (made ts s) q g (held its []) (no_queue its n) t.4; of_pool = of_pool n }) k.stocked;
          threads = declares (added (with_names s ps) ws its says.PoolStock) (stands stand.Declaration t.0) refl refl;
        }
    kept_what says.UnnamedStock t r b d n c =
        let stock : StockOf = stock_of s None its in
        let q = made ts (added (with_names s ps) ws its says.UnnamedStock) in
        let g : Grows (made ts s) q = record { version = refl; buffers = omega arith; tokens = λ u x. x; pools = omega arith } in
        record {
          few_lines = omega arith;
          declared = k.declared;
          stocked = unnamed_stocked (made ts s) q s.count s.stock stock g t.1 refl refl r (record { pool = tt; line = (omega arith, omega (arith, lt)); items = items_on (made ts s) q g (held its []) (no_queue its n) t.2; of_pool = of_pool n }) k.stocked;
          threads = declares (added (with_names s ps) ws its says.UnnamedStock) (stands stand.Declaration t.0) refl refl;
        }
    kept_what (says.Thread copies) t r b d n c = record {
      few_lines = omega arith;
      declared = k.declared;
      stocked = stocked_on (made ts s) (made ts s) s.count s.stock (grows_not (made ts s)) k.stocked;
      threads = record {
        finished = (header (stands stand.Header t.0 b)).0;
        room = t.1;
        new = t.2.1;
        few_lines = omega arith;
        numbers = rise_more s.count (stock_numbers s.stock ++ line_numbers s.threads) (header (stands stand.Header t.0 b)).1;
        draft = draft_start (made ts s) (thread_name copies (second_of ws)) copies (s.count + 1) (held its []) t.2.0 (omega arith) (omega arith) t.3 (no_queue its n) refl;
      };
    }
    kept_what (says.Op op) t r b d n c = follows (says.Op op) (stands stand.Inside t.0) (record { nested = c; room = tt; arm = tt; resolved = t.1; list = tt })
    kept_what (says.Put pool) t r b d n c = follows (says.Put pool) (stands stand.Inside t.0) (record { nested = c; room = tt; arm = tt; resolved = (t.1, longer (held its [])); list = (refl, t.2, of_pool n) })
    kept_what (says.Lock l) t r b d n c = follows (says.Lock l) (stands stand.Inside t.0) (record { nested = (n, c); room = room d; arm = tt; resolved = t.1; list = tt })
    kept_what (says.If (test.Take pool i)) t r b d n c = let none : i < 0 = t.1.1 in absurd (omega arith)
    kept_what (says.If test) t r b d n c = follows (says.If test) (stands stand.Inside t.0) (record { nested = c; room = room d; arm = tt; resolved = t.1; list = tt })
    kept_what (says.Take pool) t r b d n c = follows (says.Take pool) (stands stand.Inside t.0) (record { nested = c; room = room d; arm = tt; resolved = (t.1, longer (held its [])); list = (refl, t.2, of_pool n) })
    kept_what says.Else t r b d n c =
        let h = and_parts (is_inside s.region) (is_first_branch (innermost s.draft.blocks)) (not-false (is_inside s.region && is_first_branch (innermost s.draft.blocks)) b) in
        follows says.Else (inside s.region (ap not h.0)) (record { nested = first_branch (innermost s.draft.blocks) h.1; room = tt; arm = tt; resolved = tt; list = tt })
    kept_what (says.Peek x) t r b d n c = follows (says.Peek x) (stands stand.Inside t.0) (record { nested = n; room = room d; arm = tt; resolved = t.1; list = tt })
    kept_what (says.Case u) t r b d n c =
        let h = or_parts (not (directly_in_peek s.draft.blocks)) (list_any (λ v. v == u) s.draft.arms.cases) c in
        follows (says.Case u) (stands stand.Inside t.0) (record { nested = peeked (innermost s.draft.blocks) (not-false (directly_in_peek s.draft.blocks) h.0); room = room d; arm = h.1; resolved = t.1; list = tt })
    kept_what says.Other t r b d n c =
        let h = or_parts (not (directly_in_peek s.draft.blocks)) s.draft.arms.other c in
        follows says.Other (stands stand.Inside t) (record { nested = peeked (innermost s.draft.blocks) (not-false (directly_in_peek s.draft.blocks) h.0); room = room d; arm = h.1; resolved = tt; list = tt })
    kept_what says.Nothing t r b d n c =
        let h = or_parts (not (directly_in_peek s.draft.blocks)) s.draft.arms.none c in
        follows says.Nothing (stands stand.Inside t) (record { nested = peeked (innermost s.draft.blocks) (not-false (directly_in_peek s.draft.blocks) h.0); room = room d; arm = h.1; resolved = tt; list = tt })
    kept_what says.Loop t r b d n c =
        let h = or_parts (in_peek s.draft.blocks) (any_queue its && (not (locks_in s.draft.blocks).sq || any_queue (behind_when its))) n in
        follows says.Loop (stands stand.Inside t.0) (record { nested = h.0; room = room d; arm = tt; resolved = longer (held_in_loop its); list = (refl, t.1, λ locked. no_queue_before its (no_queue_outside its (locks_in s.draft.blocks).sq (any_queue (behind_when its)) h.1 locked)) })
    kept_what says.Break t r b d n c = follows says.Break (stands stand.Inside t) (record { nested = (c, out_of_loop (way_out s.draft.blocks) n); room = tt; arm = tt; resolved = tt; list = tt })
    kept_what says.Close t r b d n c = kept_brace ts (with_names s ps) lt k (inside s.region b) (innermost s.draft.blocks) refl c

  -- ---- a line

  kept_row : (s : Sheet) (ws : List (List ℕ)) (r : Row) → HasForm s.head.version ws r → AreFalse s ws (Some r) → IsKept ts s → IsKept ts (counted (added (with_names s (spots_of (parts_of r) ws)) ws (items_by s ws (Some r)) (says_of r (values s (spots_of (parts_of r) ws)))))
  kept_row s ws r has a k =
      let ps = spots_of (parts_of r) ws in
      let m = has.matches in
      let v = (and_parts (nat_le (version_of r) s.head.version) (not (any_reserved s.head.version ps)) has.holds).0 in
      let vs = values s ps in
      let d = naming s.draft ps in
      let right : AreRight ts s d vs 0 start ps = record { numbers = a.numbers; known = a.known; new = a.new; room = a.room; named = all_named s.draft.names ps; values = λ i. let n : 0 + i ≡ i = omega arith in ap (λ j. slice_get vs j) n } in
      let t = told ts s d ws (items_by s ws (Some r)) r vs (fine_line ts s d vs (parts_of r) ps (are_of (parts_of r) ws m) right) (has_more ts s d ws r m v (record { numbers = a.numbers; known = a.known; new = a.new; room = a.room; once = a.once; named = all_named s.draft.names ps })) in
      kept_what s ps ws (items_by s ws (Some r)) (stand_of r) (region_is (stand_of r) s.region a.line) a.few_lines (kept_named ts s ps a.few_names k) (says_of r vs) t a.again a.braces a.depth a.nesting a.arms

  kept_words : (s : Sheet) (line : List ℕ) (ws : List (List ℕ)) → first_true (word_sentences s line ws) ≡ None → IsKept ts s → IsKept ts (counted (with_words s ws))
  kept_words s line [] e k = kept_counted ts s (few_lines s line (none_alone 8 _ e)) k
  kept_words s line (w ∷ ws) e k = go (form_in s (w ∷ ws)) refl (are_false s line (w ∷ ws) e)
    where
      go : (form : Option Row) → form_in s (w ∷ ws) ≡ form → AreFalse s (w ∷ ws) form → IsKept ts (counted (added (with_names s (spots_by form (w ∷ ws))) (w ∷ ws) (items_by s (w ∷ ws) form) (says_by form (values s (spots_by form (w ∷ ws))))))
      go None f a = absurd (cc (a.line))
      go (Some r) f a = kept_row s (w ∷ ws) r (has_form s.head.version (w ∷ ws) r f) a k

  kept_line : (s : Sheet) (line : List ℕ) → first_true (sentences s line) ≡ None → IsKept ts s → IsKept ts (with_line s line)
  kept_line s line e k = kept_words s line (words_of line) (none_else (any_strange (take 256 line)) (word_sentences s line (words_of line)) e) k

  kept_lines : (s : Sheet) (lines : List (List ℕ)) (last : Sheet) → judged s lines ≡ Ok last → IsKept ts s → IsKept ts last
  kept_lines s [] last e k = let h : s ≡ last = cc in subst (λ x. IsKept ts x) h k
  kept_lines s (line ∷ lines) last e k = go (first_true (sentences s line)) refl e (λ h j. kept_lines (with_line s line) lines last h j)
    where
      go : (x : Option ℕ) → first_true (sentences s line) ≡ x → on_line x (s.count + 1) (judged (with_line s line) lines) ≡ Ok last → (judged (with_line s line) lines ≡ Ok last → IsKept ts (with_line s line) → IsKept ts last) → IsKept ts last
      go None f h rest = rest h (kept_line s line f k)
      go (Some n) f h rest = absurd (cc)

-- ---- the program

token_kind : (p : Program) (k : TokenKind) → IsKind p.buffers k → IsTokenKind p k
token_kind p (kind.Read b) h = h
token_kind p (kind.Write b n) h = (h.0, record { some = h.1; within = h.2 })
token_kind p kind.Fsync h = tt
token_kind p kind.Nop h = tt
token_kind p kind.Other h = tt

few_lines_of_pools : (n pools : ℕ) (unnamed : Bool) → n ≤ pools + cond unnamed 1 0 → pools ≤ 16 → n ≤ 17
few_lines_of_pools n pools true h few = omega (arith, h, few)
few_lines_of_pools n pools false h few = omega (arith, h, few)

program_made : (s : Sheet) → IsKept s.threads s → AreThreads (program_in s) s.threads × RiseTo s.count (stock_numbers s.stock ++ line_numbers s.threads) → IsProgram (program_in s)
program_made s k threads = record {
  version = k.declared.sizes.version;
  entries = k.declared.sizes.rings.entries;
  completion_entries = k.declared.sizes.rings.completion_entries;
  room = k.declared.sizes.rings.room;
  left = k.declared.sizes.rings.left;
  few_files = k.declared.known_files.few;
  files = k.declared.known_files.each;
  distinct_files = k.declared.known_files.distinct;
  few_buffers = k.declared.known_buffers.few;
  buffers = k.declared.known_buffers.each;
  distinct_buffers = k.declared.known_buffers.distinct;
  few_tokens = k.declared.known_tokens.few;
  tokens = All-weaker (λ (t : Token). All (IsKind s.buffers) (kinds_in t)) (λ (t : Token). All (IsTokenKind (program_in s)) (kinds_in t)) (λ (t : Token) h. All-weaker (IsKind s.buffers) (IsTokenKind (program_in s)) (token_kind (program_in s)) (kinds_in t) h) s.tokens k.declared.known_tokens.each;
  distinct_kinds = k.declared.known_tokens.kinds;
  distinct_tokens = k.declared.known_tokens.distinct;
  few_pools = k.declared.known_pools.few;
  pools = k.declared.known_pools.each;
  distinct_pools = k.declared.known_pools.distinct;
  no_pools = k.declared.known_pools.none;
  few_stock = few_lines_of_pools (length s.stock) (length s.pools) (has_unnamed s.stock) k.stocked.few k.declared.known_pools.few;
  stock = k.stocked.each;
  stock_once = k.stocked.once;
  no_stock = k.stocked.none;
  few_threads = threads.0.few;
  distinct_names = threads.0.distinct;
  each = threads.0.each;
  copies = threads.0.copies;
  numbers = threads.1.rise;
}

-- The answer of the model's end, by the part of the model.
abbrev ended_in : Region → ℕ → Program → Result Program (ℕ × ℕ)
ended_in r count p = cond (lacks_head r) (Err (max count 1, 2)) (cond (is_inside r) (Err (count, 7)) (Ok p))

-- What was read of a model without a fault, with both head lines and no open thread, is a program.
pub reached_is_program : (s : Sheet) → IsReached s → at_end s ≡ Ok (program_in s) → IsProgram (program_in s)
reached_is_program s reached e = program_made s k (go s.region e k.threads)
  where
    k : IsKept s.threads s
    k = kept_lines s.threads empty reached.0 s reached.1 (kept_start s.threads)

    go : (r : Region) → ended_in r s.count (program_in s) ≡ Ok (program_in s) → ThreadsAt (program_in s) s.count s.draft s.threads r → AreThreads (program_in s) s.threads × RiseTo s.count (stock_numbers s.stock ++ line_numbers s.threads)
    go Start f h = absurd (cc)
    go Second f h = absurd (cc)
    go Declarations f h = subst (λ xs. AreThreads (program_in s) xs × RiseTo s.count (stock_numbers s.stock ++ line_numbers xs)) (sym h) (no_threads (program_in s), subst (λ ns. RiseTo s.count ns) (sym (append-nil (stock_numbers s.stock))) k.stocked.numbers)
    go InThread f h = absurd (cc)
    go Between f h = h
