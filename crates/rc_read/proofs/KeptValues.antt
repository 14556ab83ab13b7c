-- What a line says in its places, where no sentence is true of it: numbers are in their ranges, and names are known.
use Rattle.std.proofs.Common.{◌≡◌, ℕ, suc, ◌+◌, ◌<◌, ◌≤◌, Bool, true, false, cond, not, ◌||◌, ◌&&◌, nat_eq, nat_le, List, [], ◌∷◌, length, map, Option, Some, None, is_none, option_map, unwrap_or, slice_get, bytes_eq, ℤ, refl, sym, ap, ◌∙◌, subst, inl, inr, arith, Contains}
use Rattle.std.specs.List.{list_any}
use Rattle.std.proofs.lemmas.Bool.{or_parts, or_cases, and_parts, not-false, leb-true, leb-false, eqb-true}
use Rattle.std.proofs.lemmas.List.{length-map}
use Rattle.std.proofs.lemmas.Option.{cond_some}
use Rattle.rc_lang.specs.declared.lines.Operand.TheVariants as operand
use Rattle.rc_lang.specs.declared.program.File.{File as FileOf}
use Rattle.rc_lang.specs.declared.program.Token.{Token as TokenOf}
use Rattle.rc_lang.specs.Numbers.{is_number, number_of, value_of}
use Rattle.rc_lang.specs.Program.{Buffer as BufferOf, Program, Thread as ThreadOf, shares_at}
use Rattle.rc_lang.specs.Resolved.{DeclaresFile, DeclaresToken, IsOperand}
use Rattle.rc_read.specs.declared.table.Part.{Part}
use Rattle.rc_read.specs.declared.table.Part.TheVariants.{Fixed, Variable, Operand, Number, File, Buffer, Token, Pool, NewFile, NewBuffer, NewToken, NewPool, NewThread, NewThreads, Items, Kinds}
use Rattle.rc_read.specs.declared.table.Range.TheVariants.{Within, Size, CompletionSize, Rounded, Entries, Shares}
use Rattle.rc_read.specs.declared.values.Seen.{Seen}
use Rattle.rc_read.specs.declared.values.Value.{Value}
use Rattle.rc_read.specs.declared.values.Value.TheVariants as value
use Rattle.rc_read.specs.Says.{as_named, as_operand, as_small, as_user_data}
use Rattle.rc_read.specs.Sentences.{any_double, any_full, any_unknown, is_double, is_full, is_unknown, lacks_file, lacks_token, most_threads, repeats_file, repeats_token}
use Rattle.rc_read.specs.Sheets.{Draft, Sheet, buffer_names, buffer_number, has_file, has_token, is_among, is_variable, number_in, shares_in}
use Rattle.rc_read.specs.Spots.{Spot, begins_number}
use Rattle.rc_read.specs.Values.{any_lacks, file_number_of, rounded_up, seen_behind, share_number, signed_of, sized, small_value, start, user_data_of, value_at, values_of, with_room}
use Rattle.rc_read.proofs.KeptSpots.{AllNamed, AreOf, number_below}

-- The program of a sheet, with these threads.
abbrev pub made : List ThreadOf → Sheet → Program
made threads s = record {
  version = s.head.version;
  entries = s.head.entries;
  completion_entries = s.head.completion_entries;
  left = s.head.left;
  files = s.files;
  buffers = s.buffers;
  tokens = s.tokens;
  pools = s.pools;
  stock = s.stock;
  threads = threads;
}

-- ---- what is declared

listed : (n : ℕ) (ns : List ℕ) → list_any (λ m. nat_eq m n) ns ≡ true → Contains ns n
listed n [] e = absurd (cc)
listed n (m ∷ ns) e = elim (or_cases (nat_eq m n) (list_any (λ k. nat_eq k n) ns) e) [
  | inl h ↦ (0, omega arith, eqb-true m n h)
  | inr h ↦ let c = listed n ns h in (suc c.0, further (length ns) c.0 c.1, c.2)
]
  where
    further : (k i : ℕ) → i < k → suc i < suc k
    further k i lt = omega arith

pub token_declared : (threads : List ThreadOf) (s : Sheet) (u : ℕ) → has_token s.tokens u ≡ true → DeclaresToken (made threads s) u
token_declared threads s u e = listed u (map (λ (t : TokenOf). t.user_data) s.tokens) (same s.tokens ∙ e)
  where
    same : (ts : List TokenOf) → list_any (λ m. nat_eq m u) (map (λ (t : TokenOf). t.user_data) ts) ≡ has_token ts u
    same [] = refl
    same (t ∷ ts) = ap (λ b. nat_eq t.user_data u || b) (same ts)

file_declared : (threads : List ThreadOf) (s : Sheet) (n : ℕ) → has_file s.files n ≡ true → DeclaresFile (made threads s) n
file_declared threads s n e = listed n (map (λ (f : FileOf). f.number) s.files) (same s.files ∙ e)
  where
    same : (fs : List FileOf) → list_any (λ m. nat_eq m n) (map (λ (f : FileOf). f.number) fs) ≡ has_file fs n
    same [] = refl
    same (f ∷ fs) = ap (λ b. nat_eq f.number n || b) (same fs)

pub buffer_below : (bs : List BufferOf) (w : List ℕ) → not (is_among (buffer_names bs) w) ≡ false → buffer_number bs w < length bs
buffer_below bs w e =
    let lt = number_below (buffer_names bs) w (not-false (is_among (buffer_names bs) w) e) in
    subst (λ n. buffer_number bs w < n) (length-map bs (λ (b : BufferOf). b.name)) lt

pub shares_known : (bs : List BufferOf) (w : List ℕ) → is_among (buffer_names bs) w ≡ true → shares_in bs w ≡ Some (shares_at bs (buffer_number bs w))
shares_known [] w e = absurd (cc)
shares_known (b ∷ bs) w e = go (bytes_eq b.name w) e (λ h. shares_known bs w h)
  where
    go : (c : Bool) → c || is_among (buffer_names bs) w ≡ true → (is_among (buffer_names bs) w ≡ true → shares_in bs w ≡ Some (shares_at bs (buffer_number bs w))) → cond c (Some b.shares) (shares_in bs w) ≡ Some (shares_at (b ∷ bs) (cond c 0 (buffer_number bs w + 1)))
    go true f h = refl
    go false f h = let n : buffer_number bs w + 1 ≡ suc (buffer_number bs w) = omega arith in h f ∙ ap (λ k. Some (shares_at (b ∷ bs) k)) (sym n)

-- ---- numbers

-- what the word of a number's place says, where it is one
pub some_small : (o : Option ℕ) → is_none (small_value o) ≡ false → o ≡ Some (as_small (Some (unwrap_or (small_value o) value.Nothing)))
some_small None e = absurd (cc)
some_small (Some n) e = refl

pub in_range : (low high : ℕ) (w : List ℕ) (n : ℕ) → number_of low high w ≡ Some n → (low ≤ n) × (n ≤ high)
in_range low high w n e =
    let c = cond_some (is_number w && nat_le low (value_of w) && nat_le (value_of w) high) (value_of w) n e in
    let a = and_parts (is_number w && nat_le low (value_of w)) (nat_le (value_of w) high) c.0 in
    let b = and_parts (is_number w) (nat_le low (value_of w)) a.0 in
    let lo : low ≤ value_of w = leb-true low (value_of w) b.1 in
    let hi : value_of w ≤ high = leb-true (value_of w) high a.1 in
    let q : value_of w ≡ n = c.1 in
    (omega arith, omega arith)

pub within : (low high : ℕ) (w : List ℕ) → is_none (small_value (number_of low high w)) ≡ false → (low ≤ as_small (Some (unwrap_or (small_value (number_of low high w)) value.Nothing))) × (as_small (Some (unwrap_or (small_value (number_of low high w)) value.Nothing)) ≤ high)
within low high w e = in_range low high w (as_small (Some (unwrap_or (small_value (number_of low high w)) value.Nothing))) (some_small (number_of low high w) e)

-- no version has more threads
pub few_most : (version : ℕ) → most_threads version ≤ 64
few_most version = go (nat_le 5 version)
  where
    go : (b : Bool) → cond b 64 16 ≤ 64
    go true = omega arith
    go false = omega arith

with_room_is : (r : ℕ) (o : Option ℕ) → is_none (small_value (with_room r o)) ≡ false → r ≤ rounded_up (as_small (Some (unwrap_or (small_value (with_room r o)) value.Nothing)))
with_room_is r None e = absurd (cc)
with_room_is r (Some n) e = go (nat_le r (rounded_up n)) refl e
  where
    go : (b : Bool) → nat_le r (rounded_up n) ≡ b → is_none (small_value (cond b (Some n) None)) ≡ false → r ≤ rounded_up (as_small (Some (unwrap_or (small_value (cond b (Some n) None)) value.Nothing)))
    go true f h = leb-true r (rounded_up n) f
    go false f h = absurd (cc)

known_token : (threads : List ThreadOf) (s : Sheet) (o : Option ℕ) → is_none (option_map (λ u. value.UserData u) o) ≡ false → lacks_token s o ≡ false → DeclaresToken (made threads s) (as_user_data (Some (unwrap_or (option_map (λ u. value.UserData u) o) value.Nothing)))
known_token threads s None e h = absurd (cc)
known_token threads s (Some u) e h = token_declared threads s u (not-false (has_token s.tokens u) h)

known_file : (threads : List ThreadOf) (s : Sheet) (o : Option ℕ) → is_none (small_value o) ≡ false → lacks_file s o ≡ false → DeclaresFile (made threads s) (as_small (Some (unwrap_or (small_value o) value.Nothing)))
known_file threads s None e h = absurd (cc)
known_file threads s (Some n) e h = file_declared threads s n (not-false (has_file s.files n) h)

new_token : (s : Sheet) (o : Option ℕ) → is_none (option_map (λ u. value.UserData u) o) ≡ false → repeats_token s o ≡ false → has_token s.tokens (as_user_data (Some (unwrap_or (option_map (λ u. value.UserData u) o) value.Nothing))) ≡ false
new_token s None e h = absurd (cc)
new_token s (Some u) e h = h

new_file : (s : Sheet) (o : Option ℕ) → is_none (small_value o) ≡ false → repeats_file s o ≡ false → has_file s.files (as_small (Some (unwrap_or (small_value o) value.Nothing))) ≡ false
new_file s None e h = absurd (cc)
new_file s (Some n) e h = h

-- ---- places

-- Shares of the buffer before, if there is one.
abbrev pub FineShares : List BufferOf → Option ℕ → ℕ → Type 0
FineShares buffers None k = Unit {0}
FineShares buffers (Some b) k = (1 ≤ k) × (k ≤ shares_at buffers b)

module _ (threads : List ThreadOf) (s : Sheet) (d : Draft) where
  -- What a value is in its place, after a submission ring with r entries and after a buffer, if there is one.
  abbrev pub FineAt : ℕ → Option ℕ → Part → Option Value → Type 0
  FineAt r b Variable v = as_named v < length d.names
  FineAt r b Operand v = IsOperand (length d.names) (as_operand v)
  FineAt r b (Number (Within low high)) v = (low ≤ as_small v) × (as_small v ≤ high)
  FineAt r b (Number Size) v = as_small v ≤ 1024
  FineAt r b (Number CompletionSize) v = r ≤ rounded_up (as_small v)
  FineAt r b (Number Rounded) v = as_small v ≤ r
  FineAt r b (Number Entries) v = as_small v ≤ s.head.entries
  FineAt r b (Number Shares) v = FineShares s.buffers b (as_small v)
  FineAt r b File v = DeclaresFile (made threads s) (as_small v)
  FineAt r b Buffer v = as_named v < length s.buffers
  FineAt r b Pool v = as_named v < length s.pools
  FineAt r b Token v = DeclaresToken (made threads s) (as_user_data v)
  FineAt r b NewFile v = (as_small v ≤ 1023) × (has_file s.files (as_small v) ≡ false) × (length s.files < 16)
  FineAt r b NewBuffer v = length s.buffers < 64
  FineAt r b NewToken v = (has_token s.tokens (as_user_data v) ≡ false) × (length s.tokens < 256)
  FineAt r b NewPool v = length s.pools < 16
  FineAt r b NewThread v = length s.threads < 64
  FineAt r b part v = Unit {0}

  abbrev pub rounded_behind : ℕ → Part → Option Value → ℕ
  rounded_behind r (Number Size) v = rounded_up (as_small v)
  rounded_behind r part v = r

  abbrev pub buffer_behind : Option ℕ → Part → Option Value → Option ℕ
  buffer_behind b Buffer v = Some (as_named v)
  buffer_behind b part v = b

  -- The values from index i on are those of the parts, up to a list.
  abbrev pub Fine : List Value → ℕ → ℕ → Option ℕ → List Part → Type 0
  Fine vs i r b [] = Unit {0}
  Fine vs i r b (Fixed f ∷ parts) = Fine vs i r b parts
  Fine vs i r b (Items ∷ parts) = Unit {0}
  Fine vs i r b (Kinds ∷ parts) = Unit {0}
  Fine vs i r b (NewThreads ∷ parts) = Unit {0}
  Fine vs i r b (part ∷ parts) = FineAt r b part (slice_get vs i) × Fine vs (suc i) (rounded_behind r part (slice_get vs i)) (buffer_behind b part (slice_get vs i)) parts

  abbrev sheet : Sheet
  sheet = record s { draft = d }

  -- What the places so far say is what the values so far are.
  abbrev IsSeen : Option ℕ → Option ℕ → Type 0
  IsSeen None shares = Unit {0}
  IsSeen (Some b) shares = shares ≡ Some (shares_at s.buffers b)

  record Agrees (seen : Seen) (r : ℕ) (b : Option ℕ) : Type 0 where
    pub rounded : seen.rounded ≡ r
    pub shares : IsSeen b seen.shares

  -- No sentence is true of a place.
  record IsRight (seen : Seen) (part : Part) (w : List ℕ) : Type 0 where
    pub value : is_none (value_at sheet seen part w) ≡ false
    pub known : is_unknown s part w ≡ false
    pub new : is_double s part w ≡ false
    pub room : is_full s part w ≡ false
    pub named : is_variable part w ≡ true → is_among d.names w ≡ true

  fine_shares : (w : List ℕ) (b seen : Option ℕ) → IsSeen b seen → is_none (small_value (share_number seen w)) ≡ false → FineShares s.buffers b (as_small (Some (unwrap_or (small_value (share_number seen w)) value.Nothing)))
  fine_shares w None seen e h = tt
  fine_shares w (Some b) None e h = absurd (cc)
  fine_shares w (Some b) (Some n) e h = let q : n ≡ shares_at s.buffers b = cc in let k = within 1 n w h in (k.0, subst (λ m. as_small (Some (unwrap_or (small_value (number_of 1 n w)) value.Nothing)) ≤ m) q k.1)

  fine_here : (seen : Seen) (r : ℕ) (b : Option ℕ) → Agrees seen r b → (part : Part) (w : List ℕ) → IsRight seen part w → FineAt r b part (Some (unwrap_or (value_at sheet seen part w) value.Nothing))
  fine_here seen r b a Variable w h = number_below d.names w (h.named refl)
  fine_here seen r b a Operand w h = signed_or_variable (begins_number w) h.named (signed_of w)
    where
      signed_or_variable : (c : Bool) → (not c ≡ true → is_among d.names w ≡ true) → (o : Option ℤ) → IsOperand (length d.names) (as_operand (Some (unwrap_or (cond c (option_map (λ n. value.Operand (operand.Number n)) o) (Some (value.Operand (operand.Variable (number_in d.names w))))) value.Nothing)))
      signed_or_variable true n None = tt
      signed_or_variable true n (Some k) = tt
      signed_or_variable false n o = number_below d.names w (n refl)
  fine_here seen r b a (Number (Within low high)) w h = within low high w h.value
  fine_here seen r b a (Number Size) w h = (within 1 1024 w h.value).1
  fine_here seen r b a (Number CompletionSize) w h = subst (λ n. n ≤ rounded_up (as_small (Some (unwrap_or (small_value (with_room seen.rounded (number_of 1 2048 w))) value.Nothing)))) a.rounded (with_room_is seen.rounded (number_of 1 2048 w) h.value)
  fine_here seen r b a (Number Rounded) w h = subst (λ n. as_small (Some (unwrap_or (small_value (number_of 0 seen.rounded w)) value.Nothing)) ≤ n) a.rounded (within 0 seen.rounded w h.value).1
  fine_here seen r b a (Number Entries) w h = (within 0 s.head.entries w h.value).1
  fine_here seen r b a (Number Shares) w h = fine_shares w b seen.shares a.shares h.value
  fine_here seen r b a File w h = known_file threads s (file_number_of w) h.value h.known
  fine_here seen r b a Buffer w h = buffer_below s.buffers w h.known
  fine_here seen r b a Pool w h = number_below s.pools w (not-false (is_among s.pools w) h.known)
  fine_here seen r b a Token w h = known_token threads s (user_data_of w) h.value h.known
  fine_here seen r b a NewFile w h = ((within 0 1023 w h.value).1, new_file s (file_number_of w) h.value h.new, leb-false 16 (length s.files) h.room)
  fine_here seen r b a NewBuffer w h = leb-false 64 (length s.buffers) h.room
  fine_here seen r b a NewToken w h = (new_token s (user_data_of w) h.value h.new, leb-false 256 (length s.tokens) h.room)
  fine_here seen r b a NewPool w h = leb-false 16 (length s.pools) h.room
  fine_here seen r b a NewThread w h = omega (arith, leb-false (most_threads s.head.version) (length s.threads) h.room, few_most s.head.version)
  fine_here seen r b a part w h = tt

  agrees_behind : (seen : Seen) (r : ℕ) (b : Option ℕ) → Agrees seen r b → (part : Part) (w : List ℕ) → IsRight seen part w → Agrees (seen_behind sheet seen part w) (rounded_behind r part (Some (unwrap_or (value_at sheet seen part w) value.Nothing))) (buffer_behind b part (Some (unwrap_or (value_at sheet seen part w) value.Nothing)))
  agrees_behind seen r b a (Number Size) w h = go (number_of 1 1024 w) h.value
    where
      go : (o : Option ℕ) → is_none (small_value o) ≡ false → Agrees (sized seen o) (rounded_up (as_small (Some (unwrap_or (small_value o) value.Nothing)))) b
      go None e = absurd (cc)
      go (Some n) e = record { rounded = refl; shares = a.shares }
  agrees_behind seen r b a Buffer w h = record { rounded = a.rounded; shares = shares_known s.buffers w (not-false (is_among (buffer_names s.buffers) w) h.known) }
  agrees_behind seen r b a part w h = a

  -- No sentence is true of places whose values are from index i on.
  pub record AreRight (vs : List Value) (i : ℕ) (seen : Seen) (ps : List Spot) : Type 0 where
    pub numbers : any_lacks sheet seen ps ≡ false
    pub known : any_unknown s ps ≡ false
    pub new : any_double s ps ≡ false
    pub room : any_full s ps ≡ false
    pub named : AllNamed d.names ps
    pub values : (k : ℕ) → slice_get vs (i + k) ≡ slice_get (values_of sheet seen ps) k

  first_right : (vs : List Value) (i : ℕ) (seen : Seen) (p : Spot) (ps : List Spot) → AreRight vs i seen (p ∷ ps) → IsRight seen p.part p.word
  first_right vs i seen p ps h = record {
    value = (or_parts (is_none (value_at sheet seen p.part p.word)) (any_lacks sheet (seen_behind sheet seen p.part p.word) ps) h.numbers).0;
    known = (or_parts (is_unknown s p.part p.word) (any_unknown s ps) h.known).0;
    new = (or_parts (is_double s p.part p.word) (any_double s ps) h.new).0;
    room = (or_parts (is_full s p.part p.word) (any_full s ps) h.room).0;
    named = h.named.0;
  }

  others_right : (vs : List Value) (i : ℕ) (seen : Seen) (p : Spot) (ps : List Spot) → AreRight vs i seen (p ∷ ps) → AreRight vs (suc i) (seen_behind sheet seen p.part p.word) ps
  others_right vs i seen p ps h = record {
    numbers = (or_parts (is_none (value_at sheet seen p.part p.word)) (any_lacks sheet (seen_behind sheet seen p.part p.word) ps) h.numbers).1;
    known = (or_parts (is_unknown s p.part p.word) (any_unknown s ps) h.known).1;
    new = (or_parts (is_double s p.part p.word) (any_double s ps) h.new).1;
    room = (or_parts (is_full s p.part p.word) (any_full s ps) h.room).1;
    named = h.named.1;
    values = λ k. let n : suc i + k ≡ i + suc k = omega arith in ap (λ m. slice_get vs m) n ∙ h.values (suc k);
  }

  fine_is : (vs : List Value) (parts : List Part) (i : ℕ) (seen : Seen) (r : ℕ) (b : Option ℕ) (ps : List Spot) → Agrees seen r b → AreOf parts ps → AreRight vs i seen ps → Fine vs i r b parts
  fine_is vs [] i seen r b ps a are h = tt
  fine_is vs (Fixed f ∷ parts) i seen r b ps a are h = fine_is vs parts i seen r b ps a are h
  fine_is vs (Items ∷ parts) i seen r b ps a are h = tt
  fine_is vs (Kinds ∷ parts) i seen r b ps a are h = tt
  fine_is vs (NewThreads ∷ parts) i seen r b ps a are h = tt
  fine_is vs (part ∷ parts) i seen r b ps a are h =
      let k = subst (λ qs. AreRight vs i seen qs) are.2 h in
      let f = first_right vs i seen (record { part = part; word = are.0 }) are.1 k in
      let n : i ≡ i + 0 = omega arith in
      let v : slice_get vs i ≡ Some (unwrap_or (value_at sheet seen part are.0) value.Nothing) = ap (λ m. slice_get vs m) n ∙ k.values 0 in
      let g = fine_is vs parts (suc i) (seen_behind sheet seen part are.0) (rounded_behind r part (Some (unwrap_or (value_at sheet seen part are.0) value.Nothing))) (buffer_behind b part (Some (unwrap_or (value_at sheet seen part are.0) value.Nothing))) are.1 (agrees_behind seen r b a part are.0 f) are.3 (others_right vs i seen (record { part = part; word = are.0 }) are.1 k) in
      subst (λ x. FineAt r b part x × Fine vs (suc i) (rounded_behind r part x) (buffer_behind b part x) parts) (sym v) (fine_here seen r b a part are.0 f, g)

  -- The values of a line are those of its form.
  pub fine_line : (vs : List Value) (parts : List Part) (ps : List Spot) → AreOf parts ps → AreRight vs 0 start ps → Fine vs 0 1 None parts
  fine_line vs parts ps are h = fine_is vs parts 0 start 1 None ps (record { rounded = refl; shares = tt }) are h
