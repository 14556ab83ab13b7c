-- What is kept of files, buffers, tokens and threads, and what one more of them does to it.
use Rattle.std.proofs.Common.{◌≡◌, ℕ, zero, suc, ◌+◌, ◌<◌, ◌≤◌, Bool, true, false, cond, nat_eq, List, [], ◌∷◌, ◌++◌, length, length-append, map, Option, Some, None, bytes_eq, slice_get, refl, sym, ap, ◌∙◌, subst, append_assoc, inl, inr, All, arith}
use Rattle.std.specs.List.{IsDistinct, list_any}
use Rattle.std.specs.List.Sorted.{IsStrictlyIncreasing}
use Rattle.std.specs.Cmp.{IsEquivalence}
use Rattle.std.specs.Prelude.{IfSome}
use Rattle.std.proofs.lemmas.Bool.{lt-ltb, or_parts, or_from}
use Rattle.std.proofs.lemmas.Cmp.{nat_eq_equiv, nat_list_eq_equiv}
use Rattle.std.proofs.lemmas.Grind.{flat_map-append}
use Rattle.std.proofs.lemmas.List.{append-nil, get_or_append_left, map_push}
use Rattle.std.proofs.lemmas.List.Folds.{list_any-append}
use Rattle.std.proofs.lemmas.List.Elements.{All-nil, All-push, All-weaker}
use Rattle.std.proofs.lemmas.Map.Keys.{IsDistinct-push}
use Rattle.std.proofs.lemmas.Slice.Eq.{bytes_eq-Decides}
use Rattle.rc_lang.specs.declared.lines.Line.{Line}
use Rattle.rc_lang.specs.declared.program.File.{File}
use Rattle.rc_lang.specs.declared.program.Head.{Head}
use Rattle.rc_lang.specs.declared.program.Token.{Token}
use Rattle.rc_lang.specs.declared.program.TokenKind.{TokenKind}
use Rattle.rc_lang.specs.declared.program.TokenKind.TheVariants.{Read, Write, Fsync, Nop, Other}
use Rattle.rc_lang.specs.Kinds.{is_one_kind, kinds_in}
use Rattle.rc_lang.specs.Names.{before_bracket, is_name, numbered}
use Rattle.rc_lang.specs.Program.{Buffer, Program, Thread, is_further, no_buffer, shares_at}
use Rattle.rc_lang.specs.Kept.{FollowsCopy, IsBuffer, IsFile, IsThread, line_numbers, numbers_from, own_numbers}
use Rattle.rc_lang.proofs.Lookups.{get_new, get_old, get_push}
use Rattle.rc_lang.proofs.Named.{before_numbered, one_number}
use Rattle.rc_lang.proofs.Rising.{rises_more}
use Rattle.rc_read.specs.Adds.{copies_of, copy_of, threads_of}
use Rattle.rc_read.specs.Sheets.{buffer_names, has_file, has_token, is_among, thread_names}
use Rattle.rc_read.proofs.KeptItems.{none_distinct}
use Rattle.rc_read.proofs.KeptKinds.{IsKind}
use Rattle.rc_read.proofs.KeptRings.{IsHead, head_start}
use Rattle.rc_read.proofs.KeptRows.{HasRoom}

bytes_same : (xs ys : List ℕ) → bytes_eq xs ys ≡ true → xs ≡ ys
bytes_same xs ys e = (bytes_eq-Decides xs ys).0 e

-- ---- keys that differ

module _ {X K : Type 0} (e : K → K → Bool) (laws : IsEquivalence e) (key : X → K) where
  not_listed : (xs : List X) (k : K) → list_any (λ x. e (key x) k) xs ≡ false → list_any (e k) (map key xs) ≡ false
  not_listed [] k h = refl
  not_listed (x ∷ xs) k h = let p = or_parts (e (key x) k) (list_any (λ y. e (key y) k) xs) h in or_from (e k (key x)) (list_any (e k) (map key xs)) (laws.symm k (key x) ∙ p.0) (not_listed xs k p.1)

  distinct_more : (xs : List X) (x : X) → IsDistinct e (map key xs) → list_any (λ y. e (key y) (key x)) xs ≡ false → IsDistinct e (map key (xs ++ x ∷ []))
  distinct_more xs x d new = subst (λ ks. IsDistinct e ks) (sym (map_push key xs x)) (IsDistinct-push laws (map key xs) (key x) d (not_listed xs (key x) new))

not_among : {X : Type 0} (name : X → List ℕ) (xs : List X) (w : List ℕ) → is_among (map name xs) w ≡ false → list_any (λ x. bytes_eq (name x) w) xs ≡ false
not_among name [] w e = refl
not_among name (x ∷ xs) w e = let p = or_parts (bytes_eq (name x) w) (is_among (map name xs) w) e in or_from (bytes_eq (name x) w) (list_any (λ y. bytes_eq (name y) w) xs) p.0 (not_among name xs w p.1)

pub one_more : {X : Type 0} (xs : List X) (x : X) (n : ℕ) → length xs < n → length (xs ++ x ∷ []) ≤ n
one_more xs x n lt = let a : length (xs ++ x ∷ []) ≡ length xs + 1 = length-append xs (x ∷ []) in omega arith

-- ---- files

pub record AreFiles (files : List File) : Type 0 where
  pub few : length files ≤ 16
  pub each : All IsFile files
  pub distinct : IsDistinct nat_eq (map (λ (f : File). f.number) files)

no_files : AreFiles []
no_files = record { few = omega arith; each = All-nil IsFile; distinct = none_distinct nat_eq }

pub files_more : (files : List File) (f : File) → AreFiles files → IsFile f → has_file files f.number ≡ false → length files < 16 → AreFiles (files ++ f ∷ [])
files_more files f k is new room = record {
  few = one_more files f 16 room;
  each = All-push IsFile files f k.each is;
  distinct = distinct_more nat_eq nat_eq_equiv (λ (x : File). x.number) files f k.distinct new;
}

-- ---- buffers

pub record AreBuffers (buffers : List Buffer) : Type 0 where
  pub few : length buffers ≤ 64
  pub each : All IsBuffer buffers
  pub distinct : IsDistinct bytes_eq (map (λ (b : Buffer). b.name) buffers)

no_buffers : AreBuffers []
no_buffers = record { few = omega arith; each = All-nil IsBuffer; distinct = none_distinct bytes_eq }

pub buffers_more : (buffers : List Buffer) (b : Buffer) → AreBuffers buffers → IsBuffer b → is_among (buffer_names buffers) b.name ≡ false → length buffers < 64 → AreBuffers (buffers ++ b ∷ [])
buffers_more buffers b k is new room = record {
  few = one_more buffers b 64 room;
  each = All-push IsBuffer buffers b k.each is;
  distinct = distinct_more bytes_eq nat_list_eq_equiv (λ (x : Buffer). x.name) buffers b k.distinct (not_among (λ (x : Buffer). x.name) buffers b.name new);
}

-- ---- tokens

pub record AreTokens (buffers : List Buffer) (tokens : List Token) : Type 0 where
  pub few : length tokens ≤ 256
  pub each : All (λ (t : Token). All (IsKind buffers) (kinds_in t)) tokens
  pub kinds : All (λ (t : Token). IsDistinct is_one_kind (kinds_in t)) tokens
  pub distinct : IsDistinct nat_eq (map (λ (t : Token). t.user_data) tokens)

no_tokens : (buffers : List Buffer) → AreTokens buffers []
no_tokens buffers = record { few = omega arith; each = All-nil (λ (t : Token). All (IsKind buffers) (kinds_in t)); kinds = All-nil (λ (t : Token). IsDistinct is_one_kind (kinds_in t)); distinct = none_distinct nat_eq }

pub tokens_more : (buffers : List Buffer) (tokens : List Token) (t : Token) → AreTokens buffers tokens → All (IsKind buffers) (kinds_in t) → IsDistinct is_one_kind (kinds_in t) → has_token tokens t.user_data ≡ false → length tokens < 256 → AreTokens buffers (tokens ++ t ∷ [])
tokens_more buffers tokens t k is differ new room = record {
  few = one_more tokens t 256 room;
  each = All-push (λ (x : Token). All (IsKind buffers) (kinds_in x)) tokens t k.each is;
  kinds = All-push (λ (x : Token). IsDistinct is_one_kind (kinds_in x)) tokens t k.kinds differ;
  distinct = distinct_more nat_eq nat_eq_equiv (λ (x : Token). x.user_data) tokens t k.distinct new;
}

-- one more buffer leaves the tokens as they are
kind_on : (buffers : List Buffer) (b : Buffer) (kind : TokenKind) → IsKind buffers kind → IsKind (buffers ++ b ∷ []) kind
kind_on buffers b (Read i) h = let lt : i < length buffers = h in let a : length (buffers ++ b ∷ []) ≡ length buffers + 1 = length-append buffers (b ∷ []) in omega arith
kind_on buffers b (Write i k) h =
    let lt : i < length buffers = h.0 in
    let a : length (buffers ++ b ∷ []) ≡ length buffers + 1 = length-append buffers (b ∷ []) in
    let s : shares_at (buffers ++ b ∷ []) i ≡ shares_at buffers i = ap (λ (x : Buffer). x.shares) (get_or_append_left buffers (b ∷ []) no_buffer i lt) in
    (omega arith, h.1, subst (λ n. k ≤ n) (sym s) h.2)
kind_on buffers b Fsync h = tt
kind_on buffers b Nop h = tt
kind_on buffers b Other h = tt

pub tokens_on : (buffers : List Buffer) (b : Buffer) (tokens : List Token) → AreTokens buffers tokens → AreTokens (buffers ++ b ∷ []) tokens
tokens_on buffers b tokens k = record { few = k.few; each = All-weaker (λ (t : Token). All (IsKind buffers) (kinds_in t)) (λ (t : Token). All (IsKind (buffers ++ b ∷ [])) (kinds_in t)) (λ (t : Token) h. All-weaker (IsKind buffers) (IsKind (buffers ++ b ∷ [])) (kind_on buffers b) (kinds_in t) h) tokens k.each; kinds = k.kinds; distinct = k.distinct }

-- ---- pools

pub record ArePools (version : ℕ) (pools : List (List ℕ)) : Type 0 where
  pub few : length pools ≤ 16
  pub each : All (λ n. is_name n ≡ true) pools
  pub distinct : IsDistinct bytes_eq pools
  pub none : version ≤ 3 → pools ≡ []

no_pools : (version : ℕ) → ArePools version []
no_pools version = record { few = omega arith; each = All-nil (λ n. is_name n ≡ true); distinct = none_distinct bytes_eq; none = λ e. refl }

-- where none is declared the version is of no matter
pub pools_in : (version : ℕ) (pools : List (List ℕ)) → pools ≡ [] → ArePools version pools
pools_in version pools e = subst (λ ns. ArePools version ns) (sym e) (no_pools version)

not_listed_name : (ns : List (List ℕ)) (w : List ℕ) → is_among ns w ≡ false → list_any (bytes_eq w) ns ≡ false
not_listed_name [] w e = refl
not_listed_name (n ∷ ns) w e = let p = or_parts (bytes_eq n w) (is_among ns w) e in or_from (bytes_eq w n) (list_any (bytes_eq w) ns) (nat_list_eq_equiv.symm w n ∙ p.0) (not_listed_name ns w p.1)

pub pools_more : (version : ℕ) (pools : List (List ℕ)) (n : List ℕ) → ArePools version pools → is_name n ≡ true → is_among pools n ≡ false → length pools < 16 → 4 ≤ version → ArePools version (pools ++ n ∷ [])
pools_more version pools n k is new room later = record {
  few = one_more pools n 16 room;
  each = All-push (λ m. is_name m ≡ true) pools n k.each is;
  distinct = IsDistinct-push nat_list_eq_equiv pools n k.distinct (not_listed_name pools n new);
  none = λ e. absurd (omega arith);
}

-- ---- what is declared above the threads

pub record AreDeclared (head : Head) (files : List File) (buffers : List Buffer) (tokens : List Token) (pools : List (List ℕ)) : Type 0 where
  pub sizes : IsHead head
  pub known_files : AreFiles files
  pub known_buffers : AreBuffers buffers
  pub known_tokens : AreTokens buffers tokens
  pub known_pools : ArePools head.version pools

pub nothing_declared : AreDeclared (record { version = 1; entries = 1; completion_entries = 2; left = 0 }) [] [] [] []
nothing_declared = record { sizes = head_start; known_files = no_files; known_buffers = no_buffers; known_tokens = no_tokens []; known_pools = no_pools 1 }

-- ---- the numbers of lines

-- They rise, up to this one.
pub record RiseTo (count : ℕ) (ns : List ℕ) : Type 0 where
  pub rise : IsStrictlyIncreasing ns
  pub within : All (λ n. n ≤ count) ns

pub rise_none : (count : ℕ) → RiseTo count []
rise_none count = record { rise = λ k lt. absurd (omega arith); within = All-nil (λ n. n ≤ count) }

pub rise_on : (count : ℕ) (ns : List ℕ) → RiseTo count ns → RiseTo (count + 1) ns
rise_on count ns h = record { rise = h.rise; within = All-weaker (λ n. n ≤ count) (λ n. n ≤ count + 1) (λ n le. omega arith) ns h.within }

pub rise_more : (count : ℕ) (ns : List ℕ) → RiseTo count ns → RiseTo (count + 1) (ns ++ (count + 1) ∷ [])
rise_more count ns h = record {
  rise = rises_more ns (count + 1) h.rise (All-weaker (λ n. n ≤ count) (λ n. n < count + 1) (λ n le. omega arith) ns h.within);
  within = All-push (λ n. n ≤ count + 1) ns (count + 1) (rise_on count ns h).within (omega arith);
}

pub numbers_more : (before : List ℕ) (header : ℕ) (lines : List Line) (l : Line) → before ++ numbers_from header (lines ++ l ∷ []) ≡ (before ++ numbers_from header lines) ++ l.number ∷ []
numbers_more before header lines l =
    ap (λ ns. before ++ header ∷ ns) (map_push (λ (m : Line). m.number) lines l) ∙ sym (append_assoc before (numbers_from header lines) (l.number ∷ []))

-- ---- the threads of a line

-- Copies have the numbers of the first.
numbers_copy : (t : Thread) (n : ℕ) → own_numbers (copy_of t (suc n)) ≡ []
numbers_copy t n = let lt : 0 < suc n = omega arith in ap (λ b. cond b [] (numbers_from t.line t.lines)) (lt-ltb 0 (suc n) lt)

numbers_copies : (t : Thread) (n : ℕ) → line_numbers (copies_of t (suc n)) ≡ numbers_from t.line t.lines
numbers_copies t zero = append-nil (numbers_from t.line t.lines)
numbers_copies t (suc n) =
    flat_map-append own_numbers (copies_of t (suc n)) (copy_of t (suc n) ∷ [])
    ∙ ap (λ ns. line_numbers (copies_of t (suc n)) ++ (ns ++ [])) (numbers_copy t n)
    ∙ append-nil (line_numbers (copies_of t (suc n)))
    ∙ numbers_copies t n

numbers_of : (t : Thread) (copies : Option ℕ) → t.copy ≡ None → IfSome copies (λ n. 1 ≤ n) → line_numbers (threads_of t copies) ≡ numbers_from t.line t.lines
numbers_of t None none some = ap (λ (copy : Option ℕ). cond (is_further copy) [] (numbers_from t.line t.lines) ++ []) none ∙ append-nil (numbers_from t.line t.lines)
numbers_of t (Some zero) none some = let le : 1 ≤ 0 = some in absurd (omega (arith, le))
numbers_of t (Some (suc n)) none some = numbers_copies t n

pub numbers_whole : (threads : List Thread) (t : Thread) (copies : Option ℕ) → t.copy ≡ None → IfSome copies (λ n. 1 ≤ n) → line_numbers (threads ++ threads_of t copies) ≡ line_numbers threads ++ numbers_from t.line t.lines
numbers_whole threads t copies none some = flat_map-append own_numbers threads (threads_of t copies) ∙ ap (λ ns. line_numbers threads ++ ns) (numbers_of t copies none some)

-- ---- threads

pub record AreThreads (p : Program) (threads : List Thread) : Type 0 where
  pub few : length threads ≤ 64
  pub distinct : IsDistinct bytes_eq (map (λ (t : Thread). t.name) threads)
  pub each : (i : ℕ) (t : Thread) → slice_get threads i ≡ Some t → IsThread p t
  pub copies : (i : ℕ) (t : Thread) → slice_get threads i ≡ Some t → is_further t.copy ≡ true → FollowsCopy threads i t

pub no_threads : (p : Program) → AreThreads p []
no_threads p = record { few = omega arith; distinct = none_distinct bytes_eq; each = λ i t e. absurd (cc); copies = λ i t e f. absurd (cc) }

-- One of the threads has this name.
abbrev is_named : List Thread → List ℕ → Bool
is_named threads name = list_any (λ (t : Thread). bytes_eq t.name name) threads

follows_on : (threads : List Thread) (t : Thread) (i : ℕ) (u : Thread) → FollowsCopy threads i u → FollowsCopy (threads ++ t ∷ []) i u
follows_on threads t i u f = record { place = f.place; before = f.before; earlier = f.earlier; stands = get_old threads (t ∷ []) f.place f.earlier f.stands; next = f.next }

threads_more : (p : Program) (threads : List Thread) (t : Thread) → AreThreads p threads → IsThread p t → is_named threads t.name ≡ false → length threads < 64 → (is_further t.copy ≡ true → FollowsCopy threads (length threads) t) → AreThreads p (threads ++ t ∷ [])
threads_more p threads t k is new room follows = record {
  few = one_more threads t 64 room;
  distinct = distinct_more bytes_eq nat_list_eq_equiv (λ (x : Thread). x.name) threads t k.distinct new;
  each = λ i u e. elim (get_push threads t i u e) [ inl h ↦ k.each i u h | inr h ↦ subst (λ (x : Thread). IsThread p x) h.1 is ];
  copies = λ i u e f. elim (get_push threads t i u e) [
    | inl h ↦ follows_on threads t i u (k.copies i u h f)
    | inr h ↦ follows_on threads t i u (subst (λ j. FollowsCopy threads j u) (sym h.0) (subst (λ (x : Thread). FollowsCopy threads (length threads) x) h.1 (follows (subst (λ (x : Thread). is_further x.copy ≡ true) (sym h.1) f))))
  ];
}

-- Threads of other lines have other names.
others_differ : (threads : List Thread) (name : List ℕ) (copy : Option ℕ) → is_name name ≡ true → is_among (thread_names threads) name ≡ false → is_named threads (numbered name copy) ≡ false
others_differ [] name copy is e = refl
others_differ (t ∷ ts) name copy is e =
    let p = or_parts (bytes_eq (before_bracket t.name) name) (is_among (thread_names ts) name) e in
    or_from (bytes_eq t.name (numbered name copy)) (is_named ts (numbered name copy)) (go (bytes_eq t.name (numbered name copy)) refl p.0) (others_differ ts name copy is p.1)
  where
    go : (b : Bool) → bytes_eq t.name (numbered name copy) ≡ b → bytes_eq (before_bracket t.name) name ≡ false → bytes_eq t.name (numbered name copy) ≡ false
    go false f h = f
    go true f h =
        let same : t.name ≡ numbered name copy = bytes_same t.name (numbered name copy) f in
        let before : before_bracket t.name ≡ name = ap before_bracket same ∙ before_numbered name copy is in
        let one : bytes_eq (before_bracket t.name) name ≡ true = ap (λ n. bytes_eq n name) before ∙ nat_list_eq_equiv.refl name in
        absurd (cc (one, h))

-- Copies have numbers that differ.
copies_differ : (t : Thread) (n m : ℕ) → n ≤ m → m < 64 → is_named (copies_of t n) (numbered t.name (Some m)) ≡ false
copies_differ t zero m le few = refl
copies_differ t (suc n) m le few =
    list_any-append (λ (x : Thread). bytes_eq x.name (numbered t.name (Some m))) (copies_of t n) (copy_of t n ∷ [])
    ∙ or_from (is_named (copies_of t n) (numbered t.name (Some m))) (is_named (copy_of t n ∷ []) (numbered t.name (Some m))) (copies_differ t n m (omega (arith, le)) few) (or_from (bytes_eq (numbered t.name (Some n)) (numbered t.name (Some m))) false (go (bytes_eq (numbered t.name (Some n)) (numbered t.name (Some m))) refl) refl)
  where
    go : (b : Bool) → bytes_eq (numbered t.name (Some n)) (numbered t.name (Some m)) ≡ b → bytes_eq (numbered t.name (Some n)) (numbered t.name (Some m)) ≡ false
    go false f = f
    go true f =
        let same : n ≡ m = one_number t.name n m (omega (arith, le, few)) few (bytes_same (numbered t.name (Some n)) (numbered t.name (Some m)) f) in
        absurd (omega (arith, same, le))

copies_length : (t : Thread) (n : ℕ) → length (copies_of t n) ≡ n
copies_length t zero = refl
copies_length t (suc n) = let a : length (copies_of t n ++ copy_of t n ∷ []) ≡ length (copies_of t n) + 1 = length-append (copies_of t n) (copy_of t n ∷ []) in omega (arith, a, copies_length t n)

module _ (p : Program) (threads : List Thread) (t : Thread) (finished : AreThreads p threads) (is : is_name t.name ≡ true) (new : is_among (thread_names threads) t.name ≡ false) (each : (copy : ℕ) → IsThread p (copy_of t copy)) where
  next_copy : (m : ℕ) → FollowsCopy (threads ++ copies_of t (suc m)) (length (threads ++ copies_of t (suc m))) (copy_of t (suc m))
  next_copy m =
      let before = threads ++ copies_of t m in
      let same : before ++ copy_of t m ∷ [] ≡ threads ++ copies_of t (suc m) = append_assoc threads (copies_of t m) (copy_of t m ∷ []) in
      let a : length (before ++ copy_of t m ∷ []) ≡ length before + 1 = length-append before (copy_of t m ∷ []) in
      let size : length (threads ++ copies_of t (suc m)) ≡ length before + 1 = ap (λ (xs : List Thread). length xs) (sym same) ∙ a in
      let more : suc m ≡ m + 1 = omega arith in
      record {
        place = length before;
        before = size;
        earlier = copy_of t m;
        stands = ap (λ xs. slice_get xs (length before)) (sym same) ∙ get_new before (copy_of t m) [];
        next = record {
          number = m;
          after = refl;
          has = ap (λ n. Some n) more;
          name = before_numbered t.name (Some (suc m)) is ∙ sym (before_numbered t.name (Some m) is);
          same = refl;
        };
      }

  copies_more : (n : ℕ) → length threads + n ≤ 64 → AreThreads p (threads ++ copies_of t n)
  copies_more zero room = subst (AreThreads p) (sym (append-nil threads)) finished
  copies_more (suc n) room =
      let before = threads ++ copies_of t n in
      let a : length before ≡ length threads + length (copies_of t n) = length-append threads (copies_of t n) in
      let own = list_any-append (λ (x : Thread). bytes_eq x.name (numbered t.name (Some n))) threads (copies_of t n) in
      let differ = own ∙ or_from (is_named threads (numbered t.name (Some n))) (is_named (copies_of t n) (numbered t.name (Some n))) (others_differ threads t.name (Some n) is new) (copies_differ t n n (omega arith) (omega (arith, room))) in
      subst (AreThreads p) (append_assoc threads (copies_of t n) (copy_of t n ∷ [])) (threads_more p before (copy_of t n) (copies_more n (omega (arith, room))) (each n) differ (omega (arith, a, copies_length t n, room)) (follows n))
    where
      follows : (n : ℕ) → is_further (Some n) ≡ true → FollowsCopy (threads ++ copies_of t n) (length (threads ++ copies_of t n)) (copy_of t n)
      follows zero f = absurd (cc)
      follows (suc m) f = next_copy m

  -- The threads of a line come behind those above it.
  pub line_more : (copies : Option ℕ) → IsThread p t → t.copy ≡ None → HasRoom (length threads) copies → AreThreads p (threads ++ threads_of t copies)
  line_more None whole none room = threads_more p threads t finished whole (others_differ threads t.name None is new) room (λ f. let g : is_further t.copy ≡ false = ap is_further none in absurd (cc (f, g)))
  line_more (Some n) whole none room = copies_more n room.1
