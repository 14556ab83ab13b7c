-- What a thread or a loop holds by the items of a line, where no sentence is true of it.
use Rattle.std.proofs.Common.{◌≡◌, ℕ, zero, suc, ◌+◌, ◌<◌, ◌≤◌, Bool, true, false, ◌||◌, ◌&&◌, ◌==◌, nat_eq, List, [], ◌∷◌, ◌++◌, map, take, drop, length, Option, Some, None, refl, sym, ap, subst, ◌∙◌, arith, IfSome, position}
use Rattle.std.specs.List.{IsDistinct, AllByRecursion, list_any, position_from}
use Rattle.std.proofs.lemmas.Bool.{or_parts, or_from}
use Rattle.std.proofs.lemmas.Cmp.{nat_eq_equiv}
use Rattle.std.proofs.lemmas.Iterator.Adapters.{position_from-zero}
use Rattle.std.proofs.lemmas.List.Elements.{All-nil, All-cons}
use Rattle.std.proofs.lemmas.Map.Keys.{IsDistinct-cons}
use Rattle.rc_lang.specs.Program.{More, Program, Thread as ThreadOf, no_more}
use Rattle.rc_lang.specs.Kept.{IsItems, IsList}
use Rattle.rc_lang.specs.Resolved.{DeclaresToken}
use Rattle.rc_lang.specs.declared.program.Share.{Share}
use Rattle.rc_read.specs.declared.values.Item.{Item}
use Rattle.rc_read.specs.declared.values.Item.TheVariants.{Shares, Token, Credits, Queued, When}
use Rattle.rc_read.specs.Adds.{credits_held, held, held_in_loop, more_held, queue_held, shares_held, tokens_held}
use Rattle.rc_read.specs.Sentences.{any_in_both, any_named_twice, any_queue, any_twice, is_token, names_same}
use Rattle.rc_read.specs.Sheets.{Sheet}
use Rattle.rc_read.specs.Values.{before_at, before_when, behind_at, behind_when, flag_in, is_when}
use Rattle.rc_read.proofs.KeptItems.{AreFine, none_distinct}
use Rattle.rc_read.proofs.KeptValues.{made}

-- ---- one list

other_buffers : (b k : ℕ) (is : List Item) → list_any (names_same (Shares b k)) is ≡ false → AllByRecursion (λ c. nat_eq b c ≡ false) (map (λ (h : Share). h.buffer) (shares_held is))
other_buffers b k [] e = tt
other_buffers b k (Shares c l ∷ is) e = let h = or_parts (b == c) (list_any (names_same (Shares b k)) is) e in (h.0, other_buffers b k is h.1)
other_buffers b k (Token u ∷ is) e = other_buffers b k is e
other_buffers b k (Credits n ∷ is) e = other_buffers b k is e
other_buffers b k (Queued n ∷ is) e = other_buffers b k is e
other_buffers b k (When x ∷ is) e = other_buffers b k is e

other_tokens : (u : ℕ) (is : List Item) → list_any (names_same (Token u)) is ≡ false → AllByRecursion (λ v. nat_eq u v ≡ false) (tokens_held is)
other_tokens u [] e = tt
other_tokens u (Shares c l ∷ is) e = other_tokens u is e
other_tokens u (Token v ∷ is) e = let h = or_parts (u == v) (list_any (names_same (Token u)) is) e in (h.0, other_tokens u is h.1)
other_tokens u (Credits n ∷ is) e = other_tokens u is e
other_tokens u (Queued n ∷ is) e = other_tokens u is e
other_tokens u (When x ∷ is) e = other_tokens u is e

tokens_differ : (is : List Item) → any_twice is ≡ false → IsDistinct nat_eq (tokens_held is)
tokens_differ [] e = none_distinct nat_eq
tokens_differ (Token u ∷ is) e = let h = or_parts (list_any (names_same (Token u)) is) (any_twice is) e in IsDistinct-cons nat_eq u (tokens_held is) (other_tokens u is h.0) (tokens_differ is h.1)
tokens_differ (Shares b k ∷ is) e = tokens_differ is (or_parts (list_any (names_same (Shares b k)) is) (any_twice is) e).1
tokens_differ (Credits n ∷ is) e = tokens_differ is (or_parts (list_any (names_same (Credits n)) is) (any_twice is) e).1
tokens_differ (Queued k ∷ is) e = tokens_differ is (or_parts (list_any (names_same (Queued k)) is) (any_twice is) e).1
tokens_differ (When x ∷ is) e = tokens_differ is (or_parts (list_any (names_same (When x)) is) (any_twice is) e).1

module _ (threads : List ThreadOf) (s : Sheet) (MayBeFlag : ℕ → Type 0) where
  abbrev Fine : List Item → Type 0
  Fine is = AreFine threads s MayBeFlag is

  queue_fine : (is : List Item) → Fine is → IfSome (queue_held is) (λ k. k ≤ s.head.entries)
  queue_fine [] f = tt
  queue_fine (Shares b k ∷ is) f = queue_fine is f.1
  queue_fine (Token u ∷ is) f = queue_fine is f.1
  queue_fine (Credits n ∷ is) f = queue_fine is f.1
  queue_fine (Queued k ∷ is) f = f.0
  queue_fine (When x ∷ is) f = queue_fine is f.1

  -- whatever is said of queued entries, and whatever is held besides
  module _ (queue : Option ℕ) (few : IfSome queue (λ k. k ≤ s.head.entries)) (more : More) where
    items_held : (is : List Item) → Fine is → any_twice is ≡ false → IsItems (made threads s) (record { shares = shares_held is; tokens = tokens_held is; credits = credits_held is; queue = queue; more = more })
    items_held [] f e = record {
      buffers = All-nil (λ (h : Share). h.buffer < length s.buffers);
      counts = All-nil (λ (h : Share). (1 ≤ h.count) × (h.count ≤ 16));
      distinct_buffers = none_distinct nat_eq;
      tokens = All-nil (DeclaresToken (made threads s));
      distinct_tokens = none_distinct nat_eq;
      credits = omega arith;
      queue = few;
    }
    items_held (Shares b k ∷ is) f e =
        let h = or_parts (list_any (names_same (Shares b k)) is) (any_twice is) e in
        let t = items_held is f.1 h.1 in
        record {
          buffers = All-cons (λ (x : Share). x.buffer < length s.buffers) (record { buffer = b; count = k }) (shares_held is) f.0.0 t.buffers;
          counts = All-cons (λ (x : Share). (1 ≤ x.count) × (x.count ≤ 16)) (record { buffer = b; count = k }) (shares_held is) (f.0.1, f.0.2) t.counts;
          distinct_buffers = IsDistinct-cons nat_eq b (map (λ (x : Share). x.buffer) (shares_held is)) (other_buffers b k is h.0) t.distinct_buffers;
          tokens = t.tokens;
          distinct_tokens = t.distinct_tokens;
          credits = t.credits;
          queue = few;
        }
    items_held (Token u ∷ is) f e =
        let h = or_parts (list_any (names_same (Token u)) is) (any_twice is) e in
        let t = items_held is f.1 h.1 in
        record {
          buffers = t.buffers;
          counts = t.counts;
          distinct_buffers = t.distinct_buffers;
          tokens = All-cons (DeclaresToken (made threads s)) u (tokens_held is) f.0 t.tokens;
          distinct_tokens = tokens_differ (Token u ∷ is) e;
          credits = t.credits;
          queue = few;
        }
    items_held (Credits n ∷ is) f e =
        let t = items_held is f.1 (or_parts (list_any (names_same (Credits n)) is) (any_twice is) e).1 in
        record { buffers = t.buffers; counts = t.counts; distinct_buffers = t.distinct_buffers; tokens = t.tokens; distinct_tokens = t.distinct_tokens; credits = f.0; queue = few }
    items_held (Queued k ∷ is) f e = items_held is f.1 (or_parts (list_any (names_same (Queued k)) is) (any_twice is) e).1
    items_held (When x ∷ is) f e = items_held is f.1 (or_parts (list_any (names_same (When x)) is) (any_twice is) e).1

  -- ---- both lists

  take_fine : (n : ℕ) (is : List Item) → Fine is → Fine (take n is)
  take_fine zero [] f = tt
  take_fine zero (i ∷ is) f = tt
  take_fine (suc n) [] f = tt
  take_fine (suc n) (i ∷ is) f = (f.0, take_fine n is f.1)

  drop_fine : (n : ℕ) (is : List Item) → Fine is → Fine (drop n is)
  drop_fine zero [] f = tt
  drop_fine zero (i ∷ is) f = f
  drop_fine (suc n) [] f = tt
  drop_fine (suc n) (i ∷ is) f = drop_fine n is f.1

  before_fine : (o : Option ℕ) (is : List Item) → Fine is → Fine (before_at is o)
  before_fine None is f = f
  before_fine (Some n) is f = take_fine n is f

  behind_fine : (o : Option ℕ) (is : List Item) → Fine is → Fine (behind_at is o)
  behind_fine None is f = tt
  behind_fine (Some n) is f = drop_fine (n + 1) is f

  flag_fine : (is : List Item) → Fine is → IfSome (flag_in is) MayBeFlag
  flag_fine [] f = tt
  flag_fine (Shares b k ∷ is) f = flag_fine is f.1
  flag_fine (Token u ∷ is) f = flag_fine is f.1
  flag_fine (Credits n ∷ is) f = flag_fine is f.1
  flag_fine (Queued k ∷ is) f = flag_fine is f.1
  flag_fine (When x ∷ is) f = f.0

-- ---- a token of one list is not in the other

module _ (P : ℕ → Type 0) where
  all_append : (xs ys : List ℕ) → AllByRecursion P xs → AllByRecursion P ys → AllByRecursion P (xs ++ ys)
  all_append [] ys a b = b
  all_append (x ∷ xs) ys a b = (a.0, all_append xs ys a.1 b)

and_less : (a b c : Bool) → (a && (b || c)) ≡ false → (a && c) ≡ false
and_less true b c e = (or_parts b c e).1
and_less false b c e = refl

fewer_in_both : (more : List Item) (i : Item) (is : List Item) → any_in_both more (i ∷ is) ≡ false → any_in_both more is ≡ false
fewer_in_both [] i is e = refl
fewer_in_both (j ∷ more) i is e =
    let h = or_parts (is_token j && list_any (names_same j) (i ∷ is)) (any_in_both more (i ∷ is)) e in
    or_from (is_token j && list_any (names_same j) is) (any_in_both more is) (and_less (is_token j) (names_same j i) (list_any (names_same j) is) h.0) (fewer_in_both more i is h.1)

not_in_more : (u : ℕ) (is more : List Item) → any_in_both more (Token u ∷ is) ≡ false → AllByRecursion (λ v. nat_eq u v ≡ false) (tokens_held more)
not_in_more u is [] e = tt
not_in_more u is (Token v ∷ more) e =
    let h = or_parts (list_any (names_same (Token v)) (Token u ∷ is)) (any_in_both more (Token u ∷ is)) e in
    (nat_eq_equiv.symm u v ∙ (or_parts (v == u) (list_any (names_same (Token v)) is) h.0).0, not_in_more u is more h.1)
not_in_more u is (Shares b k ∷ more) e = not_in_more u is more e
not_in_more u is (Credits n ∷ more) e = not_in_more u is more e
not_in_more u is (Queued k ∷ more) e = not_in_more u is more e
not_in_more u is (When x ∷ more) e = not_in_more u is more e

apart : (is more : List Item) → any_twice is ≡ false → any_twice more ≡ false → any_in_both more is ≡ false → IsDistinct nat_eq (tokens_held is ++ tokens_held more)
apart [] more a b c = tokens_differ more b
apart (Token u ∷ is) more a b c =
    let h = or_parts (list_any (names_same (Token u)) is) (any_twice is) a in
    IsDistinct-cons nat_eq u (tokens_held is ++ tokens_held more) (all_append (λ v. nat_eq u v ≡ false) (tokens_held is) (tokens_held more) (other_tokens u is h.0) (not_in_more u is more c)) (apart is more h.1 b (fewer_in_both more (Token u) is c))
apart (Shares x k ∷ is) more a b c = apart is more (or_parts (list_any (names_same (Shares x k)) is) (any_twice is) a).1 b (fewer_in_both more (Shares x k) is c)
apart (Credits n ∷ is) more a b c = apart is more (or_parts (list_any (names_same (Credits n)) is) (any_twice is) a).1 b (fewer_in_both more (Credits n) is c)
apart (Queued k ∷ is) more a b c = apart is more (or_parts (list_any (names_same (Queued k)) is) (any_twice is) a).1 b (fewer_in_both more (Queued k) is c)
apart (When x ∷ is) more a b c = apart is more (or_parts (list_any (names_same (When x)) is) (any_twice is) a).1 b (fewer_in_both more (When x) is c)

-- ---- no flag

none_from : (n : ℕ) (is : List Item) → flag_in is ≡ None → position_from is_when n is ≡ None
none_from n [] e = refl
none_from n (Shares b k ∷ is) e = none_from (n + 1) is e
none_from n (Token u ∷ is) e = none_from (n + 1) is e
none_from n (Credits m ∷ is) e = none_from (n + 1) is e
none_from n (Queued k ∷ is) e = none_from (n + 1) is e
none_from n (When x ∷ is) e = absurd (cc)

nowhere : (is : List Item) → flag_in is ≡ None → position is_when is ≡ None
nowhere is e = position_from-zero is_when is ∙ none_from 0 is e

pub nothing_besides : (is : List Item) → flag_in is ≡ None → (held_in_loop is).more ≡ no_more
nothing_besides is e = ap (λ o. more_held (behind_at is o)) (nowhere is e)

none_named : (o : Option ℕ) → IfSome o (λ x. ⊥) → o ≡ None
none_named None h = refl
none_named (Some x) h = absurd h

-- ---- queued entries

pub no_queue : (is : List Item) → any_queue is ≡ false → queue_held is ≡ None
no_queue [] e = refl
no_queue (Shares b k ∷ is) e = no_queue is e
no_queue (Token u ∷ is) e = no_queue is e
no_queue (Credits n ∷ is) e = no_queue is e
no_queue (Queued k ∷ is) e = absurd (cc)
no_queue (When x ∷ is) e = no_queue is e

fewer_queues : (n : ℕ) (is : List Item) → any_queue is ≡ false → any_queue (take n is) ≡ false
fewer_queues zero [] e = refl
fewer_queues zero (i ∷ is) e = refl
fewer_queues (suc n) [] e = refl
fewer_queues (suc n) (Queued k ∷ is) e = absurd (cc)
fewer_queues (suc n) (Shares b k ∷ is) e = fewer_queues n is e
fewer_queues (suc n) (Token u ∷ is) e = fewer_queues n is e
fewer_queues (suc n) (Credits m ∷ is) e = fewer_queues n is e
fewer_queues (suc n) (When x ∷ is) e = fewer_queues n is e

pub no_queue_before : (is : List Item) → any_queue is ≡ false → (held_in_loop is).queue ≡ None
no_queue_before is e = go (position is_when is)
  where
    go : (o : Option ℕ) → queue_held (before_at is o) ≡ None
    go None = no_queue is e
    go (Some n) = no_queue (take n is) (fewer_queues n is e)

-- ---- what a loop holds, and what a thread holds as it begins

-- The items of a loop are fine, and so is the variable after `when`, which the first version doesn't have.
pub record IsLoopOf (p : Program) (variables : ℕ) (items : List Item) : Type 0 where
  pub list : IsList p (held_in_loop items)
  pub flag : IfSome (flag_in items) (λ x. x < variables)
  pub version : p.version ≡ 1 → flag_in items ≡ None

module _ (threads : List ThreadOf) (s : Sheet) where
  list_held : (MayBeFlag : ℕ → Type 0) (is : List Item) → AreFine threads s MayBeFlag is → any_named_twice is ≡ false → IsList (made threads s) (held_in_loop is)
  list_held MayBeFlag is f e =
      let o = position is_when is in
      let a = or_parts (any_twice (before_when is) || any_twice (behind_when is)) (any_in_both (behind_when is) (before_when is)) e in
      let b = or_parts (any_twice (before_when is)) (any_twice (behind_when is)) a.0 in
      let before = before_fine threads s MayBeFlag o is f in
      let behind = behind_fine threads s MayBeFlag o is f in
      record {
        first = items_held threads s MayBeFlag (queue_held (before_when is)) (queue_fine threads s MayBeFlag (before_when is) before) (more_held (behind_when is)) (before_when is) before b.0;
        more = items_held threads s MayBeFlag None tt no_more (behind_when is) behind b.1;
        apart = apart (before_when is) (behind_when is) b.0 b.1 a.1;
      }

  abbrev pub NoFlag : ℕ → Type 0
  NoFlag x = ⊥

  no_flag : (is : List Item) → AreFine threads s NoFlag is → flag_in is ≡ None
  no_flag is f = none_named (flag_in is) (flag_fine threads s NoFlag is f)

  -- without `when`
  pub list_alone : (is : List Item) → AreFine threads s NoFlag is → any_named_twice is ≡ false → IsList (made threads s) (held is [])
  list_alone is f e = subst (λ o. IsList (made threads s) (held (before_at is o) (behind_at is o))) (nowhere is (no_flag is f)) (list_held NoFlag is f e)

  pub header_held : (is : List Item) → AreFine threads s NoFlag is → any_named_twice is ≡ false → IsItems (made threads s) (held is [])
  header_held is f e = (list_alone is f e).first

  pub loop_held : (variables : ℕ) (is : List Item) → AreFine threads s NoFlag is → any_named_twice is ≡ false → IsLoopOf (made threads s) variables is
  loop_held variables is f e = record {
    list = list_held NoFlag is f e;
    flag = subst (λ o. IfSome o (λ x. x < variables)) (sym (no_flag is f)) tt;
    version = λ v. no_flag is f;
  }

  -- with it
  pub loop_when_held : (variables : ℕ) (is : List Item) → AreFine threads s (λ x. x < variables) is → any_named_twice is ≡ false → 2 ≤ s.head.version → IsLoopOf (made threads s) variables is
  loop_when_held variables is f e later = record {
    list = list_held (λ x. x < variables) is f e;
    flag = flag_fine threads s (λ x. x < variables) is f;
    version = λ v. let first : s.head.version ≡ 1 = v in absurd (omega arith);
  }
