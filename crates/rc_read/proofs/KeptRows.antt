-- What a line says, form by form, where no sentence is true of it.
use Rattle.std.proofs.Common.{◌≡◌, ℕ, ◌+◌, ◌<◌, ◌≤◌, true, false, ◌&&◌, bytes_eq, nat_le, nat_lt, codes, List, [], ◌∷◌, length, Option, Some, None, is_none, unwrap_or, refl, sym, ap, ◌∙◌, subst, All, arith}
use Rattle.std.proofs.lemmas.Bool.{and_parts, or_parts, leb-true, ltb-false}
use Rattle.rc_lang.specs.declared.lines.Locks.{Locks}
use Rattle.rc_lang.specs.declared.lines.Operand.{Operand as OperandOf}
use Rattle.rc_lang.specs.declared.lines.Operand.TheVariants as operand
use Rattle.rc_lang.specs.declared.program.TokenKind.TheVariants as kind
use Rattle.rc_lang.specs.Kinds.{kinds_in}
use Rattle.rc_lang.specs.Locks.{is_some_lock}
use Rattle.rc_lang.specs.Names.{before_bracket, from_bracket, is_name}
use Rattle.rc_lang.specs.Numbers.{number_of}
use Rattle.rc_lang.specs.Program.{Thread as ThreadOf}
use Rattle.rc_lang.specs.Kept.{IsFile, IsItems, IsList}
use Rattle.rc_lang.specs.Resolved.{AreTaken, DeclaresPool, DeclaresToken, IsOperand, IsResolvedOp, IsResolvedTest}
use Rattle.rc_read.specs.declared.says.Says.{Says}
use Rattle.rc_read.specs.declared.says.Says.TheVariants as says
use Rattle.rc_read.specs.declared.table.Part.TheVariants.{Fixed, Number, Pool, NewBuffer, NewPool, NewThread, NewThreads, Copies, Items, Flag}
use Rattle.rc_read.specs.declared.table.Range.TheVariants.{Within}
use Rattle.rc_read.specs.declared.table.Row.{Row}
use Rattle.rc_read.specs.declared.table.Row.TheVariants as row
use Rattle.rc_read.specs.declared.table.Stand.{Stand}
use Rattle.rc_read.specs.declared.table.Stand.TheVariants as stand
use Rattle.rc_read.specs.declared.fixed.Word.TheVariants as words
use Rattle.rc_read.specs.declared.values.Item.{Item}
use Rattle.rc_read.specs.declared.values.Value.{Value}
use Rattle.rc_read.specs.declared.values.Value.TheVariants as value
use Rattle.rc_read.specs.Adds.{held, second_of, thread_name}
use Rattle.rc_read.specs.Says.{as_small, named, says_of, sets, small}
use Rattle.rc_read.specs.Sentences.{any_double, any_full, any_named_twice, any_unknown, is_double, is_full, is_unknown}
use Rattle.rc_read.specs.Sheets.{Draft, Sheet, buffer_names, has_file, has_token, is_among, thread_names}
use Rattle.rc_read.specs.Spots.{Spot, begins_number, closing_in, in_brackets, matches, opens_bracket, spots_of, spots_of_items}
use Rattle.rc_read.specs.Table.{parts_of, stand_of, version_of}
use Rattle.rc_read.specs.Values.{any_lacks, items_in, kinds_named, small_value, start, value_at, values_of}
use Rattle.rc_read.proofs.KeptItems.{AreFine, SayFine, both_fine, items_fine}
use Rattle.rc_read.proofs.KeptKinds.{AreKinds, IsKind, four_kinds, one_kind, token_kinds}
use Rattle.rc_read.proofs.KeptLists.{IsLoopOf, NoFlag, header_held, list_alone, loop_held, loop_when_held}
use Rattle.rc_read.proofs.KeptRings.{AreRings, one_size, two_sizes}
use Rattle.rc_read.proofs.KeptSpots.{AllNamed, has_flag, is_second, items_after, items_alone, items_behind, items_between, items_second, items_third, named_behind}
use Rattle.rc_read.proofs.KeptValues.{Fine, made, some_small, within}

-- ---- what is said

-- There may be one thread more, or so many.
abbrev pub HasRoom : ℕ → Option ℕ → Type 0
HasRoom threads None = threads < 64
HasRoom threads (Some n) = (1 ≤ n) × (threads + n ≤ 64)

-- The word is a name, and none of these.
abbrev pub IsNewName : List (List ℕ) → List ℕ → Type 0
IsNewName names w = (is_name w ≡ true) × (is_among names w ≡ false)

module _ (threads : List ThreadOf) (s : Sheet) (d : Draft) (ws : List (List ℕ)) (its : List Item) where
  -- A line says this, in a form that is there.
  abbrev pub IsTold : Stand → Says → Type 0
  IsTold st (says.Version n) = (st ≡ stand.First) × (1 ≤ n) × (n ≤ 5)
  IsTold st (says.Ring rings) = (st ≡ stand.Second) × AreRings rings
  IsTold st (says.File f) = (st ≡ stand.Declaration) × IsFile f × (has_file s.files f.number ≡ false) × (length s.files < 16)
  IsTold st (says.Buffer bytes shares) = (st ≡ stand.Declaration) × ((1 ≤ bytes) × (bytes ≤ 4096)) × ((1 ≤ shares) × (shares ≤ 16)) × (length s.buffers < 64) × IsNewName (buffer_names s.buffers) (second_of ws)
  IsTold st (says.Token t) = (st ≡ stand.Declaration) × All (IsKind s.buffers) (kinds_in t) × (has_token s.tokens t.user_data ≡ false) × (length s.tokens < 256)
  IsTold st says.Pool = (st ≡ stand.Declaration) × (4 ≤ s.head.version) × (length s.pools < 16) × IsNewName s.pools (second_of ws)
  IsTold st says.PoolStock = (st ≡ stand.Declaration) × (5 ≤ s.head.version) × (length s.pools < 16) × IsNewName s.pools (second_of ws) × IsItems (made threads s) (held its [])
  IsTold st says.UnnamedStock = (st ≡ stand.Declaration) × (5 ≤ s.head.version) × IsItems (made threads s) (held its [])
  IsTold st (says.Thread copies) = (st ≡ stand.Header) × HasRoom (length s.threads) copies × IsNewName (thread_names s.threads) (thread_name copies (second_of ws)) × IsItems (made threads s) (held its [])
  IsTold st (says.Op op) = (st ≡ stand.Inside) × IsResolvedOp (made threads s) (length d.names) op
  IsTold st (says.Put pool) = (st ≡ stand.Inside) × DeclaresPool (made threads s) pool × IsList (made threads s) (held its [])
  IsTold st (says.Lock l) = (st ≡ stand.Inside) × AreTaken (made threads s) l
  IsTold st (says.If test) = (st ≡ stand.Inside) × IsResolvedTest (made threads s) (length d.names) 0 test
  IsTold st (says.Take pool) = (st ≡ stand.Inside) × DeclaresPool (made threads s) pool × IsList (made threads s) (held its [])
  IsTold st says.Else = Unit {0}
  IsTold st (says.Peek x) = (st ≡ stand.Inside) × (x < length d.names)
  IsTold st (says.Case u) = (st ≡ stand.Inside) × DeclaresToken (made threads s) u
  IsTold st says.Other = st ≡ stand.Inside
  IsTold st says.Nothing = st ≡ stand.Inside
  IsTold st says.Loop = (st ≡ stand.Inside) × IsLoopOf (made threads s) (length d.names) its
  IsTold st says.Break = st ≡ stand.Inside
  IsTold st says.Close = Unit {0}

  -- What a line says besides its values: the name that it declares, its items, its kinds, and that it isn't in earlier
  -- versions.
  abbrev pub HasMore : List Value → Row → Type 0
  HasMore vs row.Buffer = IsNewName (buffer_names s.buffers) (second_of ws)
  HasMore vs row.TokenKinds = AreKinds s.buffers (kinds_named vs)
  HasMore vs row.Pool = (4 ≤ s.head.version) × IsNewName s.pools (second_of ws)
  HasMore vs row.PoolStock = (5 ≤ s.head.version) × IsNewName s.pools (second_of ws) × IsItems (made threads s) (held its [])
  HasMore vs row.UnnamedStock = (5 ≤ s.head.version) × IsItems (made threads s) (held its [])
  HasMore vs row.Thread = IsNewName (thread_names s.threads) (second_of ws) × IsItems (made threads s) (held its [])
  HasMore vs row.Threads = HasRoom (length s.threads) (Some (small vs 1)) × IsNewName (thread_names s.threads) (before_bracket (second_of ws)) × IsItems (made threads s) (held its [])
  HasMore vs row.Put = IsList (made threads s) (held its [])
  HasMore vs row.PutNamed = IsList (made threads s) (held its [])
  HasMore vs row.LockSq = 4 ≤ s.head.version
  HasMore vs row.LockCq = 4 ≤ s.head.version
  HasMore vs row.IfTake = IsList (made threads s) (held its [])
  HasMore vs row.IfTakeNamed = IsList (made threads s) (held its [])
  HasMore vs row.Loop = IsLoopOf (made threads s) (length d.names) its
  HasMore vs row.LoopWhen = IsLoopOf (made threads s) (length d.names) its
  HasMore vs r = Unit {0}

  set_told : (x : ℕ) (o : OperandOf) → x < length d.names → IsOperand (length d.names) o → IsTold stand.Inside (sets x o)
  set_told x (operand.Variable y) a b = (refl, (a, b))
  set_told x (operand.Number n) a b = (refl, a)

  one_taken : (l : Locks) → is_some_lock l ≡ true → 4 ≤ s.head.version → AreTaken (made threads s) l
  one_taken l some later = record { some = some; both = λ v. let early : s.head.version ≤ 3 = v in absurd (omega arith) }

  pub told : (r : Row) (vs : List Value) → Fine threads s d vs 0 1 None (parts_of r) → HasMore vs r → IsTold (stand_of r) (says_of r vs)
  told row.Version vs f m = (refl, omega arith, omega arith)
  told row.SecondVersion vs f m = (refl, omega arith, omega arith)
  told row.ThirdVersion vs f m = (refl, omega arith, omega arith)
  told row.FourthVersion vs f m = (refl, omega arith, omega arith)
  told row.FifthVersion vs f m = (refl, omega arith, omega arith)
  told row.Ring vs f m = (refl, one_size _ 0 f.0 (omega arith))
  told row.RingCq vs f m = (refl, two_sizes (small vs 0) (small vs 1) 0 f.0 f.1.0 (omega arith))
  told row.RingLeft vs f m = (refl, one_size _ _ f.0 f.1.0)
  told row.RingCqLeft vs f m = (refl, two_sizes (small vs 0) (small vs 1) (small vs 2) f.0 f.1.0 f.1.1.0)
  told row.File vs f m = (refl, record { number = f.0.0; len = f.1.0.1 }, f.0.1, f.0.2)
  told row.Buffer vs f m = (refl, f.1.0, f.1.1.0, f.0, m)
  told row.TokenRead vs f m = (refl, one_kind s.buffers (kind.Read (named vs 1)) f.1.0, f.0.0, f.0.1)
  told row.TokenWrite vs f m = (refl, one_kind s.buffers (kind.Write (named vs 1) (small vs 2)) (f.1.0, f.1.1.0.0, f.1.1.0.1), f.0.0, f.0.1)
  told row.TokenFsync vs f m = (refl, one_kind s.buffers kind.Fsync tt, f.0.0, f.0.1)
  told row.TokenNop vs f m = (refl, one_kind s.buffers kind.Nop tt, f.0.0, f.0.1)
  told row.TokenOther vs f m = (refl, one_kind s.buffers kind.Other tt, f.0.0, f.0.1)
  told row.TokenKinds vs f m = (refl, four_kinds s.buffers (kinds_named vs) m, f.0.0, f.0.1)
  told row.Pool vs f m = (refl, m.0, f.0, m.1)
  told row.PoolStock vs f m = (refl, m.0, f.0, m.1, m.2)
  told row.UnnamedStock vs f m = (refl, m.0, m.1)
  told row.Thread vs f m = (refl, f.0, m.0, m.1)
  told row.Threads vs f m = (refl, m.0, m.1, m.2)
  told row.Set vs f m = set_told _ _ f.0 f.1.0
  told row.Add vs f m = (refl, (f.0, f.1.0, f.1.1.0))
  told row.Subtract vs f m = (refl, (f.0, f.1.0, f.1.1.0))
  told row.Load vs f m = (refl, (f.0, f.1.0, f.1.1.0.1))
  told row.Store vs f m = (refl, (f.0, f.1.0.1, f.1.1.0))
  told row.Fill vs f m = (refl, (f.0, f.1.0))
  told row.Print vs f m = (refl, f.0)
  told row.Put vs f m = (refl, tt, m)
  told row.PutNamed vs f m = (refl, f.0, m)
  told row.Lock vs f m = (refl, record { some = refl; both = λ v. refl })
  told row.LockSq vs f m = (refl, one_taken (record { sq = true; cq = false }) refl m)
  told row.LockCq vs f m = (refl, one_taken (record { sq = false; cq = true }) refl m)
  told row.GetSqe vs f m = (refl, tt)
  told row.PrepRead vs f m = (refl, record { file = f.0; buffer = f.1.0; length_within = f.1.1.0.1; place_within = f.1.1.1.0.1 })
  told row.PrepWrite vs f m = (refl, (record { file = f.0; buffer = f.1.0; length_within = f.1.1.0.1; place_within = f.1.1.1.0.1 }, record { some = f.1.1.1.1.0.0; within = f.1.1.1.1.0.1 }))
  told row.PrepFsync vs f m = (refl, f.0)
  told row.PrepNop vs f m = (refl, tt)
  told row.PrepOther vs f m = (refl, tt)
  told row.SetData64 vs f m = (refl, f.0)
  told row.Submit vs f m = (refl, f.0)
  told row.SubmitAndWait vs f m = (refl, (f.0, f.1.0.1))
  told row.CqeGetData64 vs f m = (refl, tt)
  told row.CqeSeen vs f m = (refl, tt)
  told row.Peek vs f m = (refl, f.0)
  told row.Case vs f m = (refl, f.0)
  told row.Other vs f m = refl
  told row.Nothing vs f m = refl
  told row.If vs f m = (refl, f.0)
  told row.IfReady vs f m = (refl, tt)
  told row.IfSpace vs f m = (refl, f.0)
  told row.IfTake vs f m = (refl, tt, m)
  told row.IfTakeNamed vs f m = (refl, f.0, m)
  told row.IfAny vs f m = (refl, tt)
  told row.Else vs f m = tt
  told row.Loop vs f m = (refl, m)
  told row.LoopWhen vs f m = (refl, m)
  told row.Break vs f m = refl
  told row.Close vs f m = tt

-- ---- names and items

module _ (threads : List ThreadOf) (s : Sheet) (d : Draft) (ws : List (List ℕ)) where
  abbrev sheet : Sheet
  sheet = record s { draft = d }

  -- where no flag is named
  abbrev SayItems : List Spot → Type 0
  SayItems ps = SayFine threads s (NoFlag threads s) d ps

  thread_more : (w : List ℕ) (ps : List Spot) → SayItems ps → SayItems (record { part = NewThread; word = w } ∷ ps)
  thread_more w ps more seen l u =
      let a = or_parts (is_none (value_at sheet seen NewThread w)) (any_lacks sheet seen ps) l in
      let b = or_parts (is_unknown s NewThread w) (any_unknown s ps) u in
      more seen a.1 b.1

  thread_items : matches (parts_of row.Thread) ws ≡ true → SayItems (spots_of (parts_of row.Thread) ws)
  thread_items e =
      let k = is_second words.Thread NewThread (Fixed words.Holds ∷ Items ∷ Fixed words.Open ∷ []) ws refl e in
      let h = items_between words.Holds words.Open k.rest k.matches in
      subst SayItems (sym (k.spots ∙ ap (λ ps. record { part = NewThread; word = second_of ws } ∷ ps) h.1)) (thread_more (second_of ws) (spots_of_items h.0) (items_fine threads s (NoFlag threads s) d h.0))

  copies_more : (w : List ℕ) (ps : List Spot) → SayItems ps → SayItems (record { part = Copies; word = w } ∷ ps)
  copies_more w ps more seen l u =
      let a = or_parts (is_none (value_at sheet seen Copies w)) (any_lacks sheet seen ps) l in
      let b = or_parts (is_unknown s Copies w) (any_unknown s ps) u in
      go (number_of 1 64 w) (more seen a.1 b.1)
    where
      go : (o : Option ℕ) → AreFine threads s (NoFlag threads s) (items_in (values_of sheet seen ps)) → AreFine threads s (NoFlag threads s) (items_in (unwrap_or (small_value o) value.Nothing ∷ values_of sheet seen ps))
      go None h = h
      go (Some n) h = h

  -- the places of a header that declares copies
  abbrev copies_spots : List (List ℕ) → List Spot
  copies_spots rest = record { part = NewThread; word = before_bracket (second_of ws) } ∷ record { part = Copies; word = in_brackets (second_of ws) } ∷ spots_of (Fixed words.Holds ∷ Items ∷ Fixed words.Open ∷ []) rest

  threads_items : matches (parts_of row.Threads) ws ≡ true → SayItems (spots_of (parts_of row.Threads) ws)
  threads_items e =
      let k = is_second words.Thread NewThreads (Fixed words.Holds ∷ Items ∷ Fixed words.Open ∷ []) ws refl e in
      let h = items_between words.Holds words.Open k.rest k.matches in
      let name = before_bracket (second_of ws) in
      let number = in_brackets (second_of ws) in
      subst SayItems (sym (k.spots ∙ ap (λ ps. record { part = NewThread; word = name } ∷ record { part = Copies; word = number } ∷ ps) h.1)) (thread_more name (record { part = Copies; word = number } ∷ spots_of_items h.0) (copies_more number (spots_of_items h.0) (items_fine threads s (NoFlag threads s) d h.0)))

  -- how many copies there are, where the word says it and there is room
  some_room : (w : List ℕ) → is_none (small_value (number_of 1 64 w)) ≡ false → nat_lt 64 (length s.threads + unwrap_or (number_of 1 64 w) 0) ≡ false → HasRoom (length s.threads) (Some (as_small (Some (unwrap_or (small_value (number_of 1 64 w)) value.Nothing))))
  some_room w l f =
      let n = as_small (Some (unwrap_or (small_value (number_of 1 64 w)) value.Nothing)) in
      let is : unwrap_or (number_of 1 64 w) 0 ≡ n = ap (λ o. unwrap_or o 0) (some_small (number_of 1 64 w) l) in
      let few : length s.threads + unwrap_or (number_of 1 64 w) 0 ≤ 64 = ltb-false 64 (length s.threads + unwrap_or (number_of 1 64 w) 0) f in
      ((within 1 64 w l).0, omega (arith, is, few))

  copies_room : (rest : List (List ℕ)) → any_lacks sheet start (copies_spots rest) ≡ false → any_full s (copies_spots rest) ≡ false → HasRoom (length s.threads) (Some (small (values_of sheet start (copies_spots rest)) 1))
  copies_room rest l f =
      let name = before_bracket (second_of ws) in
      let number = in_brackets (second_of ws) in
      let more = spots_of (Fixed words.Holds ∷ Items ∷ Fixed words.Open ∷ []) rest in
      let a = or_parts (is_none (value_at sheet start NewThread name)) (any_lacks sheet start (record { part = Copies; word = number } ∷ more)) l in
      let b = or_parts (is_none (value_at sheet start Copies number)) (any_lacks sheet start more) a.1 in
      let c = or_parts (is_full s NewThread name) (any_full s (record { part = Copies; word = number } ∷ more)) f in
      let d = or_parts (is_full s Copies number) (any_full s more) c.1 in
      some_room number b.0 d.0

  loop_items : matches (parts_of row.Loop) ws ≡ true → SayItems (spots_of (parts_of row.Loop) ws)
  loop_items e = let h = items_after words.Loop words.Keeps words.Open ws e in subst SayItems (sym h.1) (items_fine threads s (NoFlag threads s) d h.0)

  put_items : matches (parts_of row.Put) ws ≡ true → SayItems (spots_of (parts_of row.Put) ws)
  put_items e = let h = items_alone words.Put ws e in subst SayItems (sym h.1) (items_fine threads s (NoFlag threads s) d h.0)

  take_items : matches (parts_of row.IfTake) ws ≡ true → SayItems (spots_of (parts_of row.IfTake) ws)
  take_items e = let h = items_after words.If words.Take words.Open ws e in subst SayItems (sym h.1) (items_fine threads s (NoFlag threads s) d h.0)

  pool_more : (w : List ℕ) (ps : List Spot) → SayItems ps → SayItems (record { part = Pool; word = w } ∷ ps)
  pool_more w ps more seen l u =
      let a = or_parts (is_none (value_at sheet seen Pool w)) (any_lacks sheet seen ps) l in
      let b = or_parts (is_unknown s Pool w) (any_unknown s ps) u in
      more seen a.1 b.1

  new_pool_more : (w : List ℕ) (ps : List Spot) → SayItems ps → SayItems (record { part = NewPool; word = w } ∷ ps)
  new_pool_more w ps more seen l u =
      let a = or_parts (is_none (value_at sheet seen NewPool w)) (any_lacks sheet seen ps) l in
      let b = or_parts (is_unknown s NewPool w) (any_unknown s ps) u in
      more seen a.1 b.1

  pool_stock_items : matches (parts_of row.PoolStock) ws ≡ true → SayItems (spots_of (parts_of row.PoolStock) ws)
  pool_stock_items e =
      let k = is_second words.Pool NewPool (Fixed words.Holds ∷ Items ∷ []) ws refl e in
      let h = items_alone words.Holds k.rest k.matches in
      subst SayItems (sym (k.spots ∙ ap (λ ps. record { part = NewPool; word = second_of ws } ∷ ps) h.1)) (new_pool_more (second_of ws) (spots_of_items h.0) (items_fine threads s (NoFlag threads s) d h.0))

  unnamed_stock_items : matches (parts_of row.UnnamedStock) ws ≡ true → SayItems (spots_of (parts_of row.UnnamedStock) ws)
  unnamed_stock_items e = let h = items_behind words.Pool words.Holds ws e in subst SayItems (sym h.1) (items_fine threads s (NoFlag threads s) d h.0)

  put_named_items : matches (parts_of row.PutNamed) ws ≡ true → SayItems (spots_of (parts_of row.PutNamed) ws)
  put_named_items e = let h = items_second words.Put Pool ws refl (λ w. refl) e in subst SayItems (sym h.2) (pool_more h.0 (spots_of_items h.1) (items_fine threads s (NoFlag threads s) d h.1))

  take_named_items : matches (parts_of row.IfTakeNamed) ws ≡ true → SayItems (spots_of (parts_of row.IfTakeNamed) ws)
  take_named_items e = let h = items_third words.If words.Take words.Open Pool ws refl (λ w. refl) e in subst SayItems (sym h.2) (pool_more h.0 (spots_of_items h.1) (items_fine threads s (NoFlag threads s) d h.1))

  -- where one is
  abbrev SayBoth : List Spot → Type 0
  SayBoth ps = SayFine threads s (λ x. x < length d.names) d ps

  loop_when_items : matches (parts_of row.LoopWhen) ws ≡ true → AllNamed d.names (spots_of (parts_of row.LoopWhen) ws) → SayBoth (spots_of (parts_of row.LoopWhen) ws)
  loop_when_items e named =
      let h = has_flag words.Loop words.Keeps words.When words.Open ws e in
      let n = named_behind d.names (spots_of_items h.before) (record { part = Flag; word = h.flag } ∷ spots_of_items h.behind) (subst (AllNamed d.names) h.places named) in
      subst SayBoth (sym h.places) (both_fine threads s (λ x. x < length d.names) d h.before h.flag h.behind (n.0 refl) (λ x lt. lt))

  -- No sentence is true of these places of the line.
  pub record HaveNone (ps : List Spot) : Type 0 where
    pub numbers : any_lacks sheet start ps ≡ false
    pub known : any_unknown s ps ≡ false
    pub new : any_double s ps ≡ false
    pub room : any_full s ps ≡ false
    pub once : any_named_twice (items_in (values_of sheet start ps)) ≡ false
    pub named : AllNamed d.names ps

  pub has_more : (r : Row) → matches (parts_of r) ws ≡ true → nat_le (version_of r) s.head.version ≡ true → HaveNone (spots_of (parts_of r) ws) → HasMore threads s d ws (items_in (values_of sheet start (spots_of (parts_of r) ws))) (values_of sheet start (spots_of (parts_of r) ws)) r
  has_more row.Buffer e v h =
      let k = is_second words.Buffer NewBuffer (Number (Within 1 4096) ∷ Number (Within 1 16) ∷ []) ws refl e in
      let double = or_parts (is_double s NewBuffer (second_of ws)) (any_double s (spots_of (Number (Within 1 4096) ∷ Number (Within 1 16) ∷ []) k.rest)) (subst (λ ps. any_double s ps ≡ false) k.spots h.new) in
      (k.fits, double.0)
  has_more row.TokenKinds e v h = token_kinds s d ws e h.numbers h.known
  has_more row.Pool e v h =
      let k = is_second words.Pool NewPool [] ws refl e in
      let double = or_parts (is_double s NewPool (second_of ws)) (any_double s (spots_of [] k.rest)) (subst (λ ps. any_double s ps ≡ false) k.spots h.new) in
      (leb-true 4 s.head.version v, (k.fits, double.0))
  has_more row.PoolStock e v h =
      let k = is_second words.Pool NewPool (Fixed words.Holds ∷ Items ∷ []) ws refl e in
      let double = or_parts (is_double s NewPool (second_of ws)) (any_double s (spots_of (Fixed words.Holds ∷ Items ∷ []) k.rest)) (subst (λ ps. any_double s ps ≡ false) k.spots h.new) in
      (leb-true 5 s.head.version v, (k.fits, double.0), header_held threads s _ (pool_stock_items e start h.numbers h.known) h.once)
  has_more row.UnnamedStock e v h = (leb-true 5 s.head.version v, header_held threads s _ (unnamed_stock_items e start h.numbers h.known) h.once)
  has_more row.Thread e v h =
      let k = is_second words.Thread NewThread (Fixed words.Holds ∷ Items ∷ Fixed words.Open ∷ []) ws refl e in
      let double = or_parts (is_double s NewThread (second_of ws)) (any_double s (spots_of (Fixed words.Holds ∷ Items ∷ Fixed words.Open ∷ []) k.rest)) (subst (λ ps. any_double s ps ≡ false) k.spots h.new) in
      ((k.fits, (or_parts (is_among (thread_names s.threads) (second_of ws)) (bytes_eq s.draft.name (second_of ws)) double.0).0), header_held threads s _ (thread_items e start h.numbers h.known) h.once)
  has_more row.Threads e v h =
      let rest = Fixed words.Holds ∷ Items ∷ Fixed words.Open ∷ [] in
      let w = second_of ws in
      let k = is_second words.Thread NewThreads rest ws refl e in
      let first = and_parts (is_name (before_bracket w) && opens_bracket (from_bracket w) && begins_number (in_brackets w)) (bytes_eq (closing_in w) (codes "]")) k.fits in
      let second = and_parts (is_name (before_bracket w) && opens_bracket (from_bracket w)) (begins_number (in_brackets w)) first.0 in
      let third = and_parts (is_name (before_bracket w)) (opens_bracket (from_bracket w)) second.0 in
      let double = or_parts (is_double s NewThread (before_bracket w)) (any_double s (record { part = Copies; word = in_brackets w } ∷ spots_of rest k.rest)) (subst (λ ps. any_double s ps ≡ false) k.spots h.new) in
      let lacks = subst (λ ps. any_lacks sheet start ps ≡ false) k.spots h.numbers in
      let full = subst (λ ps. any_full s ps ≡ false) k.spots h.room in (
        subst (λ ps. HasRoom (length s.threads) (Some (small (values_of sheet start ps) 1))) (sym k.spots) (copies_room k.rest lacks full),
        (third.0, (or_parts (is_among (thread_names s.threads) (before_bracket w)) (bytes_eq s.draft.name (before_bracket w)) double.0).0),
        header_held threads s _ (threads_items e start h.numbers h.known) h.once,
      )
  has_more row.Put e v h = list_alone threads s _ (put_items e start h.numbers h.known) h.once
  has_more row.PutNamed e v h = list_alone threads s _ (put_named_items e start h.numbers h.known) h.once
  has_more row.LockSq e v h = leb-true 4 s.head.version v
  has_more row.LockCq e v h = leb-true 4 s.head.version v
  has_more row.IfTakeNamed e v h = list_alone threads s _ (take_named_items e start h.numbers h.known) h.once
  has_more row.IfTake e v h = list_alone threads s _ (take_items e start h.numbers h.known) h.once
  has_more row.Loop e v h = loop_held threads s (length d.names) _ (loop_items e start h.numbers h.known) h.once
  has_more row.LoopWhen e v h = loop_when_held threads s (length d.names) _ (loop_when_items e h.named start h.numbers h.known) h.once (leb-true 2 s.head.version v)
  has_more r e v h = tt
