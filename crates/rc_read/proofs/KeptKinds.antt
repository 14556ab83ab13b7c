-- The kinds that a token's line names, where no sentence is true of it.
use Rattle.std.proofs.Common.{◌≡◌, ℕ, ◌<◌, ◌≤◌, Bool, true, false, cond, List, [], ◌∷◌, append-nil, length, Option, Some, None, is_none, option_map, unwrap_or, slice_get, filter_map, bytes_eq, codes, refl, sym, ap, ◌∙◌, subst, All}
use Rattle.std.specs.List.{IsDistinct, AllByRecursion, list_any}
use Rattle.std.proofs.lemmas.Bool.{or_parts, not-false}
use Rattle.std.proofs.lemmas.List.Elements.{All-nil, All-cons}
use Rattle.std.proofs.lemmas.Map.Keys.{IsDistinct-cons}
use Rattle.rc_lang.specs.declared.program.TokenKind.{TokenKind}
use Rattle.rc_lang.specs.declared.program.TokenKind.TheVariants as kind
use Rattle.rc_lang.specs.Kinds.{is_one_kind}
use Rattle.rc_lang.specs.Numbers.{number_of}
use Rattle.rc_lang.specs.Program.{Buffer as BufferOf, shares_at}
use Rattle.rc_read.specs.declared.fixed.Word.TheVariants as words
use Rattle.rc_read.specs.declared.table.Part.{Part}
use Rattle.rc_read.specs.declared.table.Part.TheVariants.{Fixed, Buffer, NewToken, Kinds, KindWord, ReadBuffer, WriteShares}
use Rattle.rc_read.specs.declared.table.Row.TheVariants as row
use Rattle.rc_read.specs.declared.values.Seen.{Seen}
use Rattle.rc_read.specs.declared.values.Value.{Value}
use Rattle.rc_read.specs.declared.values.Value.TheVariants as value
use Rattle.rc_read.specs.Adds.{second_of}
use Rattle.rc_read.specs.Sentences.{any_kind_twice, any_unknown, is_unknown}
use Rattle.rc_read.specs.Sheets.{Draft, Sheet, buffer_names, is_among}
use Rattle.rc_read.specs.Spots.{Spot, matches, part_after, spots_of, spots_of_kinds}
use Rattle.rc_read.specs.Table.{parts_of}
use Rattle.rc_read.specs.Values.{any_lacks, kinds_named, seen_behind, share_number, start, user_data_of, value_at, values_of, write_value}
use Rattle.rc_read.proofs.KeptItems.{none_distinct}
use Rattle.rc_read.proofs.KeptSpots.{is_second}
use Rattle.rc_read.proofs.KeptValues.{buffer_below, in_range, shares_known}

-- ---- kinds

-- A read or a write names a buffer, and a write as many of its shares as it takes.
abbrev pub IsKind : List BufferOf → TokenKind → Type 0
IsKind buffers (kind.Read b) = b < length buffers
IsKind buffers (kind.Write b k) = (b < length buffers) × (1 ≤ k) × (k ≤ shares_at buffers b)
IsKind buffers kind.Fsync = Unit {0}
IsKind buffers kind.Nop = Unit {0}
IsKind buffers kind.Other = Unit {0}

abbrev pub AreKinds : List BufferOf → List TokenKind → Type 0
AreKinds buffers [] = Unit {0}
AreKinds buffers (k ∷ ks) = IsKind buffers k × AreKinds buffers ks

pub one_kind : (buffers : List BufferOf) (k : TokenKind) → IsKind buffers k → All (IsKind buffers) (k ∷ [])
one_kind buffers k h = All-cons (IsKind buffers) k [] h (All-nil (IsKind buffers))

-- the first of them, and the three behind it
pub four_kinds : (buffers : List BufferOf) (ks : List TokenKind) → AreKinds buffers ks → All (IsKind buffers) (unwrap_or (slice_get ks 0) kind.Nop ∷ filter_map (λ other. other) (slice_get ks 1 ∷ slice_get ks 2 ∷ slice_get ks 3 ∷ []))
four_kinds buffers [] h = one_kind buffers kind.Nop tt
four_kinds buffers (a ∷ []) h = one_kind buffers a h.0
four_kinds buffers (a ∷ b ∷ []) h = All-cons (IsKind buffers) a (b ∷ []) h.0 (one_kind buffers b h.1.0)
four_kinds buffers (a ∷ b ∷ c ∷ []) h = All-cons (IsKind buffers) a (b ∷ c ∷ []) h.0 (All-cons (IsKind buffers) b (c ∷ []) h.1.0 (one_kind buffers c h.1.1.0))
four_kinds buffers (a ∷ b ∷ c ∷ d ∷ ks) h = All-cons (IsKind buffers) a (b ∷ c ∷ d ∷ []) h.0 (All-cons (IsKind buffers) b (c ∷ d ∷ []) h.1.0 (All-cons (IsKind buffers) c (d ∷ []) h.1.1.0 (one_kind buffers d h.1.1.1.0)))

others_differ : (k : TokenKind) (ks : List TokenKind) → list_any (is_one_kind k) ks ≡ false → AllByRecursion (λ j. is_one_kind k j ≡ false) ks
others_differ k [] e = tt
others_differ k (j ∷ ks) e = let h = or_parts (is_one_kind k j) (list_any (is_one_kind k) ks) e in (h.0, others_differ k ks h.1)

pub kinds_differ : (ks : List TokenKind) → any_kind_twice ks ≡ false → IsDistinct is_one_kind ks
kinds_differ [] e = none_distinct is_one_kind
kinds_differ (k ∷ ks) e = let h = or_parts (list_any (is_one_kind k) ks) (any_kind_twice ks) e in IsDistinct-cons is_one_kind k ks (others_differ k ks h.0) (kinds_differ ks h.1)

-- ---- the places of kinds

module _ (s : Sheet) (d : Draft) where
  abbrev sheet : Sheet
  sheet = record s { draft = d }

  abbrev AreNamed : List Value → Type 0
  AreNamed vs = AreKinds s.buffers (kinds_named vs)

  -- what the places before a word in this part say
  abbrev IsReady : Part → Seen → Type 0
  IsReady KindWord seen = Unit {0}
  IsReady ReadBuffer seen = Unit {0}
  IsReady Buffer seen = Unit {0}
  IsReady (Fixed f) seen = Unit {0}
  IsReady WriteShares seen = (seen.buffer < length s.buffers) × (seen.shares ≡ Some (shares_at s.buffers seen.buffer))
  IsReady part seen = ⊥

  abbrev SayKinds : Seen → List Spot → Type 0
  SayKinds seen ps = any_lacks sheet seen ps ≡ false → any_unknown s ps ≡ false → AreNamed (values_of sheet seen ps)

  word_more : (a b c : Bool) (vs : List Value) → AreNamed vs → AreNamed (cond a (value.Kind kind.Fsync) (cond b (value.Kind kind.Nop) (cond c (value.Kind kind.Other) value.Nothing)) ∷ vs)
  word_more true b c vs h = (tt, h)
  word_more false true c vs h = (tt, h)
  word_more false false true vs h = (tt, h)
  word_more false false false vs h = h

  word_ready : (a b : Bool) (seen : Seen) → IsReady (cond a ReadBuffer (cond b Buffer (Fixed words.Or))) seen
  word_ready true b seen = tt
  word_ready false true seen = tt
  word_ready false false seen = tt

  write_more : (seen : Seen) (w : List ℕ) (vs : List Value) → IsReady WriteShares seen → is_none (write_value seen (share_number seen.shares w)) ≡ false → AreNamed vs → AreNamed (unwrap_or (write_value seen (share_number seen.shares w)) value.Nothing ∷ vs)
  write_more seen w vs r e h = go seen.shares r.1 e
    where
      number : (n : ℕ) (o : Option ℕ) → n ≡ shares_at s.buffers seen.buffer → number_of 1 n w ≡ o → is_none (write_value seen o) ≡ false → AreNamed (unwrap_or (write_value seen o) value.Nothing ∷ vs)
      number n None q f g = absurd (cc)
      number n (Some k) q f g = let i = in_range 1 n w k f in ((r.0, i.0, subst (λ m. k ≤ m) q i.1), h)

      go : (shares : Option ℕ) → shares ≡ Some (shares_at s.buffers seen.buffer) → is_none (write_value seen (share_number shares w)) ≡ false → AreNamed (unwrap_or (write_value seen (share_number shares w)) value.Nothing ∷ vs)
      go None f g = absurd (cc)
      go (Some n) f g = let q : n ≡ shares_at s.buffers seen.buffer = cc in number n (number_of 1 n w) q refl g

  kinds_fine : (ws : List (List ℕ)) (part : Part) (seen : Seen) → IsReady part seen → SayKinds seen (spots_of_kinds part ws)
  kinds_fine [] part seen r l u = tt
  kinds_fine (w ∷ ws) KindWord seen r l u =
      let next = part_after KindWord w in
      let ready = word_ready (bytes_eq w (codes "read")) (bytes_eq w (codes "write")) seen in
      word_more (bytes_eq w (codes "fsync")) (bytes_eq w (codes "nop")) (bytes_eq w (codes "other")) (values_of sheet seen (spots_of_kinds next ws)) (kinds_fine ws next seen ready l u)
  kinds_fine (w ∷ ws) ReadBuffer seen r l u =
      let b = or_parts (is_unknown s ReadBuffer w) (any_unknown s (spots_of_kinds (Fixed words.Or) ws)) u in
      (buffer_below s.buffers w b.0, kinds_fine ws (Fixed words.Or) seen tt l b.1)
  kinds_fine (w ∷ ws) Buffer seen r l u =
      let b = or_parts (is_unknown s Buffer w) (any_unknown s (spots_of_kinds WriteShares ws)) u in
      kinds_fine ws WriteShares (seen_behind sheet seen Buffer w) (buffer_below s.buffers w b.0, shares_known s.buffers w (not-false (is_among (buffer_names s.buffers) w) b.0)) l b.1
  kinds_fine (w ∷ ws) WriteShares seen r l u =
      let more = spots_of_kinds (Fixed words.Or) ws in
      let a = or_parts (is_none (value_at sheet seen WriteShares w)) (any_lacks sheet seen more) l in
      write_more seen w (values_of sheet seen more) r a.0 (kinds_fine ws (Fixed words.Or) seen tt a.1 u)
  kinds_fine (w ∷ ws) (Fixed f) seen r l u = kinds_fine ws KindWord seen tt l u
  kinds_fine (w ∷ ws) part seen r l u = absurd r

  -- ---- a line

  token_more : (w : List ℕ) (ps : List Spot) → SayKinds start ps → SayKinds start (record { part = NewToken; word = w } ∷ ps)
  token_more w ps more l u =
      let a = or_parts (is_none (value_at sheet start NewToken w)) (any_lacks sheet start ps) l in
      go (user_data_of w) (more a.1 u)
    where
      go : (o : Option ℕ) → AreNamed (values_of sheet start ps) → AreNamed (unwrap_or (option_map (λ n. value.UserData n) o) value.Nothing ∷ values_of sheet start ps)
      go None h = h
      go (Some n) h = h

  pub token_kinds : (ws : List (List ℕ)) → matches (parts_of row.TokenKinds) ws ≡ true → SayKinds start (spots_of (parts_of row.TokenKinds) ws)
  token_kinds ws e =
      let k = is_second words.Token NewToken (Kinds ∷ []) ws refl e in
      let ps = spots_of_kinds KindWord k.rest in
      subst (SayKinds start) (sym (k.spots ∙ ap (λ qs. record { part = NewToken; word = second_of ws } ∷ qs) (append-nil ps))) (token_more (second_of ws) ps (kinds_fine k.rest KindWord start tt))
