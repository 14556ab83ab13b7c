-- What is kept of the open thread, and what one more line does to it.
use Rattle.std.proofs.Common.{◌≡◌, ℕ, zero, suc, ◌+◌, ◌-◌, ◌<◌, ◌≤◌, min, true, false, List, [], ◌∷◌, ◌++◌, length, length-append, length-take, take, Option, Some, None, IfSome, refl, sym, ap, ◌∙◌, subst, inl, inr, All, arith}
use Rattle.std.specs.Option.{option_or}
use Rattle.std.proofs.lemmas.Bool.{cases_lt}
use Rattle.std.proofs.lemmas.List.{get_or_append_left, get_or_push}
use Rattle.std.proofs.lemmas.List.Elements.{All-nil, All-push}
use Rattle.std.proofs.lemmas.Option.{slice_get_within}
use Rattle.rc_lang.specs.declared.lines.Block.{Block}
use Rattle.rc_lang.specs.declared.lines.Block.TheVariants.{InLock, InIf, InElse, InPeek, InArm, InLoop}
use Rattle.rc_lang.specs.declared.lines.Line.{Line}
use Rattle.rc_lang.specs.declared.lines.Stmt.{Stmt}
use Rattle.rc_lang.specs.declared.lines.Stmt.TheVariants.{Do, Put, Lock, EndLock, If, Else, EndIf, Peek, Case, Other, Nothing, EndArm, EndPeek, Loop, EndLoop, Break}
use Rattle.rc_lang.specs.declared.lines.Test.TheVariants.{Take}
use Rattle.rc_lang.specs.Names.{is_name}
use Rattle.rc_lang.specs.Nesting.{blocks_at, blocks_behind, innermost, IsNestedIn, locks_in, without_innermost}
use Rattle.rc_lang.specs.Program.{Items, Program, items_at, no_items, no_more, stmt_at}
use Rattle.rc_lang.specs.Kept.{IsFlag, IsItems, IsList, IsOfPool, IsThread}
use Rattle.rc_lang.specs.Resolved.{IsResolved}
use Rattle.rc_lang.proofs.Lookups.{EachNested, blocks_new, blocks_old, nested_more, nested_start, stands_within, stmt_push}
use Rattle.rc_lang.proofs.Placed.{ArePlaced, placed, placed_innermost}
use Rattle.rc_read.specs.declared.values.Item.{Item}
use Rattle.rc_read.specs.Adds.{copy_of, ends_behind, held, held_in_loop, lists_behind, whole_thread, with_stmt}
use Rattle.rc_read.specs.Sheets.{Draft, headed, names_behind, naming}
use Rattle.rc_read.specs.Spots.{Spot}
use Rattle.rc_read.specs.Values.{flag_in}
use Rattle.rc_read.proofs.KeptArms.{AreSeen, IsNewArm, may_stand, seen_more}
use Rattle.rc_read.proofs.KeptLinks.{AreKept, all_linked, as_long, kept_more}
use Rattle.rc_read.proofs.KeptLists.{IsLoopOf, nothing_besides}
use Rattle.rc_read.proofs.KeptResolved.{resolved_on}
use Rattle.rc_read.proofs.KeptSpots.{names_grow}

-- What is kept of the open thread, but for how many lines it has.
pub record IsDraft (p : Program) (d : Draft) : Type 0 where
  pub name : is_name d.name ≡ true
  pub line : (1 ≤ d.line) × (d.line ≤ 4096)
  pub items : IsItems p d.items
  pub no_queue : d.items.queue ≡ None
  pub no_more : d.items.more ≡ no_more
  pub lists : All (IsList p) d.lists
  pub numbers : All (λ (l : Line). (1 ≤ l.number) × (l.number ≤ 4096)) d.lines
  pub few_names : length d.names ≤ 64
  pub flag : IsFlag p (whole_thread d)
  pub stand : blocks_at d.lines (length d.lines) ≡ d.blocks
  pub each : EachNested d.lines
  pub depth : (j : ℕ) → length (blocks_at d.lines j) ≤ 31
  pub resolved : (j : ℕ) (s : Stmt) → stmt_at d.lines j ≡ Some s → IsResolved p (length d.names) (length d.lists) s
  pub long : length d.ends ≡ length d.lines
  pub kept : AreKept d.blocks d.lines d.ends
  pub seen : AreSeen d.blocks d.lines d.arms
  pub queues : (j k : ℕ) → stmt_at d.lines j ≡ Some (Loop k) → (locks_in (blocks_at d.lines j)).sq ≡ false → (items_at d.lists k).queue ≡ None
  pub puts : (j : ℕ) (pool : Option ℕ) (k : ℕ) → stmt_at d.lines j ≡ Some (Put pool k) → IsOfPool (items_at d.lists k)
  pub takes : (j : ℕ) (pool : Option ℕ) (k : ℕ) → stmt_at d.lines j ≡ Some (If (Take pool k)) → IsOfPool (items_at d.lists k)

pub draft_start : (p : Program) (name : List ℕ) (copies : Option ℕ) (line : ℕ) (items : Items) → is_name name ≡ true → 1 ≤ line → line ≤ 4096 → IsItems p items → items.queue ≡ None → items.more ≡ no_more → IsDraft p (headed name copies line items)
draft_start p name copies line items is some few held none nothing = record {
  name = is;
  line = (some, few);
  items = held;
  no_queue = none;
  no_more = nothing;
  lists = All-nil (IsList p);
  numbers = All-nil (λ (l : Line). (1 ≤ l.number) × (l.number ≤ 4096));
  few_names = omega arith;
  flag = record { variable = tt; version = λ e. refl; without = λ e. All-nil (λ (i : Items). i.more ≡ no_more) };
  stand = refl;
  each = nested_start;
  depth = shallow;
  resolved = λ j s e. absurd (cc);
  long = refl;
  kept = λ j s e. absurd (cc);
  seen = λ o c. let lt : c.0 < 0 = c.1 in absurd (omega arith);
  queues = λ j k e. absurd (cc);
  puts = λ j pool k e. absurd (cc);
  takes = λ j pool k e. absurd (cc);
}
  where
    shallow : (j : ℕ) → length (blocks_at [] j) ≤ 31
    shallow zero = omega arith
    shallow (suc j) = omega arith

-- ---- more variables

below_more : (o : Option ℕ) (m n : ℕ) → m ≤ n → IfSome o (λ x. x < m) → IfSome o (λ x. x < n)
below_more None m n le h = tt
below_more (Some x) m n le h = let lt : x < m = h in omega arith

pub draft_named : (p : Program) (d : Draft) (ps : List Spot) → length (names_behind d.names ps) ≤ 64 → IsDraft p d → IsDraft p (naming d ps)
draft_named p d ps few k = record {
  name = k.name;
  line = k.line;
  items = k.items;
  no_queue = k.no_queue;
  no_more = k.no_more;
  lists = k.lists;
  numbers = k.numbers;
  few_names = few;
  flag = record { variable = below_more d.flag (length d.names) (length (names_behind d.names ps)) (names_grow d.names ps) k.flag.variable; version = k.flag.version; without = k.flag.without };
  stand = k.stand;
  each = k.each;
  depth = k.depth;
  resolved = λ j s e. resolved_on p (length d.names) (length (names_behind d.names ps)) (length d.lists) (length d.lists) (names_grow d.names ps) (omega arith) s (k.resolved j s e);
  long = k.long;
  kept = k.kept;
  seen = k.seen;
  queues = k.queues;
  puts = k.puts;
  takes = k.takes;
}

-- ---- one more line

-- A line that opens a block finds room for it.
abbrev pub HasRoom : List Block → Stmt → Type 0
HasRoom bs (Lock l) = length bs < 31
HasRoom bs (If test) = length bs < 31
HasRoom bs (Peek x) = length bs < 31
HasRoom bs (Case o u) = length bs < 31
HasRoom bs (Other o) = length bs < 31
HasRoom bs (Nothing o) = length bs < 31
HasRoom bs (Loop k) = length bs < 31
HasRoom bs s = Unit {0}

-- The items of a put or a take are fine.
abbrev pub IsFinePool : Program → Draft → List Item → ℕ → Type 0
IsFinePool p d items k = (k ≡ length d.lists) × IsList p (held items []) × IsOfPool (held items [])

-- The items of a loop, a put or a take are fine.
abbrev pub IsFineList : Program → Draft → List Item → Stmt → Type 0
IsFineList p d items (Put pool k) = IsFinePool p d items k
IsFineList p d items (If (Take pool k)) = IsFinePool p d items k
IsFineList p d items (Loop k) = (k ≡ length d.lists) × IsLoopOf p (length d.names) items × ((locks_in d.blocks).sq ≡ false → (held_in_loop items).queue ≡ None)
IsFineList p d items s = Unit {0}

-- Such a line may be the next.
pub record MayFollow (p : Program) (d : Draft) (items : List Item) (s : Stmt) : Type 0 where
  pub nested : IsNestedIn d.blocks s
  pub room : HasRoom d.blocks s
  pub arm : IsNewArm d.arms s
  pub resolved : IsResolved p (length d.names) (length (lists_behind d.lists items s)) s
  pub list : IsFineList p d items s

module _ (bs : List Block) (n : ℕ) (few : length bs ≤ 31) where
  deeper : (b : Block) → length bs < 31 → length (bs ++ b ∷ []) ≤ 31
  deeper b lt = let a : length (bs ++ b ∷ []) ≡ length bs + 1 = length-append bs (b ∷ []) in omega arith

  less_deep : length (without_innermost bs) ≤ 31
  less_deep = let a : length (take (length bs - 1) bs) ≡ min (length bs - 1) (length bs) = length-take (length bs - 1) bs in omega arith

  turned : (b c : Block) → innermost bs ≡ Some b → length (without_innermost bs ++ c ∷ []) ≤ 31
  turned b c e =
      let lt : length bs - 1 < length bs = slice_get_within bs (length bs - 1) b e in
      let a : length (take (length bs - 1) bs) ≡ min (length bs - 1) (length bs) = length-take (length bs - 1) bs in
      let d : length (without_innermost bs ++ c ∷ []) ≡ length (without_innermost bs) + 1 = length-append (without_innermost bs) (c ∷ []) in
      omega arith

  depth_behind : (s : Stmt) → IsNestedIn bs s → HasRoom bs s → length (blocks_behind bs n s) ≤ 31
  depth_behind (Do op) e r = few
  depth_behind (Put pool k) e r = few
  depth_behind (Lock l) e r = deeper (InLock n l) r
  depth_behind (EndLock o l) e r = less_deep
  depth_behind (If test) e r = deeper (InIf n) r
  depth_behind (Else o) e r = turned (InIf o) (InElse n) e
  depth_behind (EndIf o) e r = less_deep
  depth_behind (Peek x) e r = deeper (InPeek n) r
  depth_behind (Case o u) e r = deeper (InArm o) r
  depth_behind (Other o) e r = deeper (InArm o) r
  depth_behind (Nothing o) e r = deeper (InArm o) r
  depth_behind (EndArm o) e r = less_deep
  depth_behind (EndPeek o) e r = less_deep
  depth_behind (Loop k) e r = deeper (InLoop n k) r
  depth_behind (EndLoop o k) e r = less_deep
  depth_behind (Break o releases leaves) e r = few

module _ (p : Program) (d : Draft) (items : List Item) where
  lists_fine : (s : Stmt) → IsFineList p d items s → All (IsList p) d.lists → All (IsList p) (lists_behind d.lists items s)
  lists_fine (Loop k) f h = All-push (IsList p) d.lists (held_in_loop items) h f.1.list
  lists_fine (Put pool k) f h = All-push (IsList p) d.lists (held items []) h f.1
  lists_fine (If (Take pool k)) f h = All-push (IsList p) d.lists (held items []) h f.1
  lists_fine s f h = h

  longer : (i : Items) → length d.lists ≤ length (d.lists ++ i ∷ [])
  longer i = let a : length (d.lists ++ i ∷ []) ≡ length d.lists + 1 = length-append d.lists (i ∷ []) in omega arith

  lists_grow : (s : Stmt) → length d.lists ≤ length (lists_behind d.lists items s)
  lists_grow (Loop k) = longer (held_in_loop items)
  lists_grow (Put pool k) = longer (held items [])
  lists_grow (If (Take pool k)) = longer (held items [])
  lists_grow s = omega arith

  old_items : (s : Stmt) (k : ℕ) → k < length d.lists → items_at (lists_behind d.lists items s) k ≡ items_at d.lists k
  old_items (Loop i) k lt = get_or_append_left d.lists (held_in_loop items ∷ []) no_items k lt
  old_items (Put pool i) k lt = get_or_append_left d.lists (held items [] ∷ []) no_items k lt
  old_items (If (Take pool i)) k lt = get_or_append_left d.lists (held items [] ∷ []) no_items k lt
  old_items s k lt = refl

  new_queue : (s : Stmt) → IsFineList p d items s → (k : ℕ) → s ≡ Loop k → (locks_in d.blocks).sq ≡ false → (items_at (lists_behind d.lists items s) k).queue ≡ None
  new_queue (Loop i) f k e n =
      let q : i ≡ k = cc in
      let g : length d.lists ≡ k = sym f.0 ∙ q in
      ap (λ (x : Items). x.queue) (get_or_push d.lists (held_in_loop items) no_items k g) ∙ f.2 n
  new_queue s f k e n = absurd (cc)

  new_pool : (i k : ℕ) → IsFinePool p d items i → i ≡ k → IsOfPool (items_at (d.lists ++ held items [] ∷ []) k)
  new_pool i k f q = subst IsOfPool (sym (get_or_push d.lists (held items []) no_items k (sym f.0 ∙ q))) f.2

  new_put : (s : Stmt) → IsFineList p d items s → (pool : Option ℕ) (k : ℕ) → s ≡ Put pool k → IsOfPool (items_at (lists_behind d.lists items s) k)
  new_put (Put other i) f pool k e = new_pool i k f (cc)
  new_put s f pool k e = absurd (cc)

  new_take : (s : Stmt) → IsFineList p d items s → (pool : Option ℕ) (k : ℕ) → s ≡ If (Take pool k) → IsOfPool (items_at (lists_behind d.lists items s) k)
  new_take (If (Take other i)) f pool k e = new_pool i k f (cc)
  new_take s f pool k e = absurd (cc)

  -- ---- the flag

  neither : (a b : Option ℕ) → option_or a b ≡ None → (a ≡ None) × (b ≡ None)
  neither None b e = (refl, e)
  neither (Some x) b e = absurd (cc)

  either : (a b : Option ℕ) → IfSome a (λ x. x < length d.names) → IfSome b (λ x. x < length d.names) → IfSome (option_or a b) (λ x. x < length d.names)
  either None b f g = g
  either (Some x) b f g = f

  flag_with : IsFlag p (whole_thread d) → d.flag ≡ None → All (λ (i : Items). i.more ≡ no_more) (d.lists ++ held items [] ∷ [])
  flag_with h none = All-push (λ (i : Items). i.more ≡ no_more) d.lists (held items []) (h.without none) refl

  flag_more : (number : ℕ) (s : Stmt) → IsFineList p d items s → IsFlag p (whole_thread d) → IsFlag p (whole_thread (with_stmt d number items s))
  flag_more number (Loop k) f h = record {
    variable = either d.flag (flag_in items) h.variable f.1.flag;
    version = λ first. ap (λ o. option_or o (flag_in items)) (h.version first) ∙ f.1.version first;
    without = λ none. let n = neither d.flag (flag_in items) none in All-push (λ (i : Items). i.more ≡ no_more) d.lists (held_in_loop items) (h.without n.0) (nothing_besides items n.1);
  }
  flag_more number (Put pool k) f h = record { variable = h.variable; version = h.version; without = flag_with h }
  flag_more number (If (Take pool k)) f h = record { variable = h.variable; version = h.version; without = flag_with h }
  flag_more number s f h = record { variable = h.variable; version = h.version; without = h.without }

module _ (p : Program) (d : Draft) (k : IsDraft p d) where
  places : ArePlaced d.lines (length d.lines) d.blocks
  places = subst (λ bs. ArePlaced d.lines (length d.lines) bs) k.stand (placed d.lines k.each (length d.lines))

  pub open_loop : (o i : ℕ) → innermost d.blocks ≡ Some (InLoop o i) → i < length d.lists
  open_loop o i e = let h = placed_innermost d.lines (length d.lines) d.blocks (InLoop o i) e places in k.resolved o (Loop i) h.stands

  pub draft_more : (number : ℕ) (items : List Item) (s : Stmt) → 1 ≤ number → number ≤ 4096 → MayFollow p d items s → IsDraft p (with_stmt d number items s)
  draft_more number items s some few may =
      let n = length d.lines in
      let line : Line = record { number = number; stmt = s } in
      let few_blocks : length d.blocks ≤ 31 = subst (λ bs. length bs ≤ 31) k.stand (k.depth n) in
      let longer : length (d.lines ++ line ∷ []) ≡ length d.lines + 1 = length-append d.lines (line ∷ []) in
      let behind : (j : ℕ) → length d.lines < j → blocks_at (d.lines ++ line ∷ []) j ≡ blocks_behind d.blocks (length d.lines) s = λ j lt. blocks_new d.lines line j lt ∙ ap (λ bs. blocks_behind bs (length d.lines) s) k.stand in
      record {
        name = k.name;
        line = k.line;
        items = k.items;
        no_queue = k.no_queue;
        no_more = k.no_more;
        lists = lists_fine p d items s may.list k.lists;
        numbers = All-push (λ (m : Line). (1 ≤ m.number) × (m.number ≤ 4096)) d.lines line k.numbers (some, few);
        few_names = k.few_names;
        flag = flag_more p d items number s may.list k.flag;
        stand = behind (length (d.lines ++ line ∷ [])) (omega arith);
        each = nested_more d.lines line k.each (subst (λ bs. IsNestedIn bs s) (sym k.stand) may.nested);
        depth = λ j. elim (cases_lt n j) [
          | inl lt ↦ subst (λ bs. length bs ≤ 31) (sym (behind j lt)) (depth_behind d.blocks n few_blocks s may.nested may.room)
          | inr le ↦ subst (λ bs. length bs ≤ 31) (sym (blocks_old d.lines line j le)) (k.depth j)
        ];
        resolved = λ j t e. elim (stmt_push d.lines line j t e) [
          | inl h ↦ resolved_on p (length d.names) (length d.names) (length d.lists) (length (lists_behind d.lists items s)) (omega arith) (lists_grow p d items s) t (k.resolved j t h)
          | inr h ↦ subst (λ x. IsResolved p (length d.names) (length (lists_behind d.lists items s)) x) h.1 may.resolved
        ];
        long = let a : length (ends_behind d.ends n s) ≡ length d.ends + 1 = as_long d.ends n s in let b : length d.ends ≡ length d.lines = k.long in omega arith;
        kept = kept_more d.lines line d.ends d.blocks places k.long s refl may.nested (may_stand d.blocks d.lines d.arms s k.seen may.nested may.arm) k.kept;
        seen = seen_more d.lines line k.each d.blocks k.stand d.arms k.seen s refl may.nested;
        queues = λ j i e. elim (stmt_push d.lines line j (Loop i) e) [
          | inl h ↦ λ locked.
              let lt : j < length d.lines = stands_within d.lines j (Loop i) h in
              ap (λ (x : Items). x.queue) (old_items p d items s i (k.resolved j (Loop i) h)) ∙ k.queues j i h (ap (λ bs. (locks_in bs).sq) (sym (blocks_old d.lines line j (omega arith))) ∙ locked)
          | inr h ↦ λ locked.
              let q : j ≡ length d.lines = h.0 in
              let here : blocks_at (d.lines ++ line ∷ []) j ≡ d.blocks = blocks_old d.lines line j (omega arith) ∙ ap (λ m. blocks_at d.lines m) q ∙ k.stand in
              new_queue p d items s may.list i h.1 (ap (λ bs. (locks_in bs).sq) (sym here) ∙ locked)
        ];
        puts = λ j pool i e. elim (stmt_push d.lines line j (Put pool i) e) [
          | inl h ↦ subst IsOfPool (sym (old_items p d items s i (k.resolved j (Put pool i) h).1)) (k.puts j pool i h)
          | inr h ↦ new_put p d items s may.list pool i h.1
        ];
        takes = λ j pool i e. elim (stmt_push d.lines line j (If (Take pool i)) e) [
          | inl h ↦ subst IsOfPool (sym (old_items p d items s i (k.resolved j (If (Take pool i)) h).1)) (k.takes j pool i h)
          | inr h ↦ new_take p d items s may.list pool i h.1
        ];
      }

  -- where no block is open the thread is whole
  pub draft_whole : length d.lines ≤ 4096 → d.blocks ≡ [] → IsThread p (whole_thread d)
  draft_whole few e = record {
    few_lines = few;
    name = (d.name, k.name, refl);
    line = k.line;
    items = k.items;
    no_queue = k.no_queue;
    no_more = k.no_more;
    lists = k.lists;
    numbers = k.numbers;
    few_variables = k.few_names;
    flag = k.flag;
    rows = refl;
    nested = record { each = k.each; depth = k.depth; closed = k.stand ∙ e };
    resolved = k.resolved;
    linked = all_linked d.lines d.ends (subst (λ bs. AreKept bs d.lines d.ends) e k.kept);
    queues = k.queues;
    puts = k.puts;
    takes = k.takes;
  }

  -- and so are its copies
  pub draft_copy : length d.lines ≤ 4096 → d.blocks ≡ [] → (copy : ℕ) → IsThread p (copy_of (whole_thread d) copy)
  draft_copy few e copy = let t = draft_whole few e in record {
    few_lines = t.few_lines;
    name = (d.name, k.name, refl);
    line = t.line;
    items = t.items;
    no_queue = t.no_queue;
    no_more = t.no_more;
    lists = t.lists;
    numbers = t.numbers;
    few_variables = t.few_variables;
    flag = record { variable = t.flag.variable; version = t.flag.version; without = t.flag.without };
    rows = t.rows;
    nested = t.nested;
    resolved = t.resolved;
    linked = t.linked;
    queues = t.queues;
    puts = t.puts;
    takes = t.takes;
  }
