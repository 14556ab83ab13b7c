-- The step of the kernel that an item names.
use Rattle.std.proofs.Common.{ℕ, ℤ, pos, negsuc, zero, suc, Bool, true, false, ◌&&◌, if◌then◌else◌, ◌≡◌, ◌≤◌, ◌<◌, List, [], ◌∷◌, ◌++◌, append_assoc, drop, get_or, take, replicate, length, nat_eq, nat_le, Option, Some, None, IsSome, option_map, slice_get, slice_set, refl, sym, ap, subst, ◌∙◌, arith}
use Rattle.std.proofs.lemmas.Bool.{eqb-true, leb-true, and_parts}
use Rattle.std.proofs.lemmas.List.Quantifiers.{position-Some}
use Rattle.std.proofs.lemmas.Option.{get_or_from_slice_get}
use Rattle.rc_lang.specs.declared.request.Kind.{Kind}
use Rattle.rc_lang.specs.declared.request.Kind.TheVariants.{Read}
use Rattle.rc_lang.specs.declared.request.Request.{Request}
use Rattle.rc_lang.specs.Program.{bytes_at}
use Rattle.rc_lang.specs.Requests.{largest, may_complete}
use Rattle.rc_world.specs.declared.event.Completion.{Completion}
use Rattle.rc_world.specs.declared.event.Event.{Event}
use Rattle.rc_world.specs.declared.event.Event.TheVariants.{ByKernel}
use Rattle.rc_world.specs.Faults.{clashes}
use Rattle.rc_world.specs.Items.{filled, item_bytes, kernel_item, pending_place}
use Rattle.rc_world.specs.Kept.{IsKept, IsKeptPending, IsMemory}
use Rattle.rc_world.specs.Machine.{Pending, World, bytes_brought, completes, completion_of, count_in, given_back, is_read, kernel_event, kernel_step_of, without}
use Rattle.rc_world.specs.Parts.{refilled}
use Rattle.rc_world.specs.WorldParts.{given_in}
use Rattle.rc_world.proofs.Keeping.{memory_given}
use Rattle.rc_world.proofs.Memory.{read_has_buffer}

pub if_some : {A : Type 0} (b : Bool) (x : Option A) → IsSome (if b then x else None) → (b ≡ true) × IsSome x
if_some true x h = (refl, h)
if_some false x h = absurd (cc)

-- the result of a read counts no more bytes than it asks for
pub count_within : (r : Request) → is_read r.kind ≡ true → (res : ℤ) → may_complete r res ≡ true → count_in res ≤ r.len
count_within r read (pos n) e = go r.kind read e
  where
    go : (k : Kind) → is_read k ≡ true → nat_le n (largest r.len k) ≡ true → n ≤ r.len
    go Read q h = leb-true n r.len h
    go _ q h = absurd (cc)
count_within r read (negsuc n) e = omega arith

-- what is cut in two is put together
whole : (l : ℕ) (xs : List ℕ) → take l xs ++ drop l xs ≡ xs
whole zero xs = refl
whole (suc l) [] = refl
whole (suc l) (x ∷ xs) = ap (λ ys. x ∷ ys) (whole l xs)

rejoined : (c l : ℕ) (xs : List ℕ) → c ≤ l → drop c (take l xs) ++ drop l xs ≡ drop c xs
rejoined zero l xs le = whole l xs
rejoined (suc c) zero xs le = absurd (omega arith)
rejoined (suc c) (suc l) [] le = refl
rejoined (suc c) (suc l) (x ∷ xs) le = rejoined c l xs (omega arith)

pub refilled_is : (count fill len : ℕ) (stood : List ℕ) → count ≤ len → filled count fill len (Some stood) ++ drop len stood ≡ refilled count fill stood
refilled_is count fill len stood le = append_assoc (replicate count fill) (drop count (take len stood)) (drop len stood) ∙ ap (λ xs. replicate count fill ++ xs) (rejoined count len stood le)

module _ (w : World) (k : IsKept w) (u n : ℕ) (res : ℤ) (fill : ℕ) (p : Pending) (place : pending_place w u ≡ Some n) (here : slice_get w.pending n ≡ Some p) (some : IsSome (kernel_item w res fill (pending_place w u))) where
  bytes : List ℕ
  bytes = item_bytes res fill (Some p)

  step_is : kernel_item w res fill (pending_place w u) ≡ kernel_step_of w n res (item_bytes res fill (Some p)) (Some p)
  step_is = ap (kernel_item w res fill) place ∙ ap (λ o. kernel_step_of w n res (item_bytes res fill o) o) here

  allowed : (may_complete p.request res ≡ true) × (nat_eq (length (item_bytes res fill (Some p))) (bytes_brought p.request) ≡ true) × IsSome (kernel_event w n res p.request (given_back w p.request (item_bytes res fill (Some p)) p.bytes))
  allowed =
      let h = if_some (may_complete p.request res && nat_eq (length (item_bytes res fill (Some p))) (bytes_brought p.request)) _ (subst IsSome step_is some) in
      let b = and_parts _ _ h.0 in
      (b.0, b.1, h.1)

  pub may : may_complete p.request res ≡ true
  may = allowed.0

  held : IsKeptPending w.program w.pending p
  held = k.memory.pending n p here

  pub counted : (stood : List ℕ) → p.bytes ≡ Some stood → count_in res ≤ p.request.len
  counted stood e = count_within p.request (held.of_read stood e) res may

  -- the bytes that are with a read are enough, and its buffer is there
  pub enough : (stood : List ℕ) → p.bytes ≡ Some stood → count_in res ≤ length stood
  enough stood e =
      let s : length stood ≡ bytes_at w.program.buffers p.request.buffer = held.sized stood e in
      let le : p.request.len ≤ bytes_at w.program.buffers p.request.buffer = leb-true p.request.len _ held.fitting.room in
      let c : count_in res ≤ p.request.len = counted stood e in
      omega arith

  pub there : (stood : List ℕ) → p.bytes ≡ Some stood → p.request.buffer < length w.buffers
  there stood e = subst (λ m. p.request.buffer < m) (sym k.memory.as_many) (held.fitting.exists (read_has_buffer p.request.kind (held.of_read stood e)))

  given : (o : Option (List ℕ)) → p.bytes ≡ o → IsSome (given_back w p.request (item_bytes res fill (Some p)) o)
  given o e = event_some (given_back w p.request (item_bytes res fill (Some p)) o) (subst (λ x. IsSome (kernel_event w n res p.request (given_back w p.request (item_bytes res fill (Some p)) x))) e allowed.2)
    where
      event_some : (b : Option (List (Option (List ℕ)))) → IsSome (kernel_event w n res p.request b) → IsSome b
      event_some None h = absurd (cc)
      event_some (Some bs) h = refl

  not_read : (b : Bool) → is_read p.request.kind ≡ b → p.bytes ≡ None → b ≡ false
  not_read false r e = refl
  not_read true r e =
      let s : IsSome (if is_read p.request.kind then None else Some w.buffers) = given None e in
      let t : IsSome (if true then None else Some w.buffers) = subst (λ b. IsSome (if b then None else Some w.buffers)) r s in
      absurd (cc)

  bytes_are : (stood : List ℕ) → p.bytes ≡ Some stood → item_bytes res fill (Some p) ≡ filled (count_in res) fill p.request.len (Some stood)
  bytes_are stood e =
      ap (λ b. if b then filled (count_in res) fill p.request.len p.bytes else []) (held.of_read stood e) ∙ ap (filled (count_in res) fill p.request.len) e

  gives : (o : Option (List ℕ)) → p.bytes ≡ o → given_back w p.request (item_bytes res fill (Some p)) p.bytes ≡ Some (given_in w.buffers p.request.buffer (option_map (refilled (count_in res) fill) p.bytes))
  gives None e =
      ap (given_back w p.request (item_bytes res fill (Some p))) e ∙ ap (λ b. if b then None else Some w.buffers) (ap is_read refl ∙ (let r = not_read (is_read p.request.kind) refl e in r))
      ∙ ap (λ o. Some (given_in w.buffers p.request.buffer (option_map (refilled (count_in res) fill) o))) (sym e)
  gives (Some stood) e =
      ap (given_back w p.request (item_bytes res fill (Some p))) e
      ∙ ap (λ xs. Some (slice_set w.buffers p.request.buffer (Some (xs ++ drop p.request.len stood)))) (bytes_are stood e)
      ∙ ap (λ xs. Some (slice_set w.buffers p.request.buffer (Some xs))) (refilled_is (count_in res) fill p.request.len stood (counted stood e))
      ∙ ap (λ o. Some (given_in w.buffers p.request.buffer (option_map (refilled (count_in res) fill) o))) (sym e)

  pub completed_as : kernel_item w res fill (pending_place w u) ≡ Some (ByKernel (completion_of p.request res), completes w n res p.request (given_in w.buffers p.request.buffer (option_map (refilled (count_in res) fill) p.bytes)))
  completed_as =
      step_is
      ∙ ap (λ b. if b && nat_eq (length (item_bytes res fill (Some p))) (bytes_brought p.request) then kernel_event w n res p.request (given_back w p.request (item_bytes res fill (Some p)) p.bytes) else None) allowed.0
      ∙ ap (λ b. if b then kernel_event w n res p.request (given_back w p.request (item_bytes res fill (Some p)) p.bytes) else None) allowed.1
      ∙ ap (kernel_event w n res p.request) (gives p.bytes refl)

  pub memory_completed : clashes w.pending ≡ false → IsMemory w.program (without n w.pending) (given_in w.buffers p.request.buffer (option_map (refilled (count_in res) fill) p.bytes))
  memory_completed calm = memory_given w k calm n p here (item_bytes res fill (Some p)) (eqb-true _ _ allowed.1) (given_in w.buffers p.request.buffer (option_map (refilled (count_in res) fill) p.bytes)) (gives p.bytes refl)

  same : p.request.user_data ≡ u
  same =
      let found = position-Some (λ (x : Pending). nat_eq x.request.user_data u) w.pending n p place in
      let at : get_or w.pending n p ≡ p = get_or_from_slice_get w.pending n p p here in
      let passes : nat_eq p.request.user_data u ≡ true = subst (λ (x : Pending). nat_eq x.request.user_data u ≡ true) at found.1 in
      eqb-true p.request.user_data u passes

  -- what the code has made of the lists
  pub completed_by : (pending : List Pending) (completed : List Request) (completions : List Completion) (buffers : List (Option (List ℕ)))
      → pending ≡ without n w.pending → completed ≡ w.completed ++ p.request ∷ [] → completions ≡ w.completions ++ record { user_data = u; res = res } ∷ []
      → buffers ≡ given_in w.buffers p.request.buffer (option_map (refilled (count_in res) fill) p.bytes)
      → kernel_item w res fill (pending_place w u) ≡ Some (ByKernel (record { user_data = u; res = res }), record w { pending = pending; completed = completed; completions = completions; buffers = buffers })
  completed_by pending completed completions buffers a c q b =
      let bs = given_in w.buffers p.request.buffer (option_map (refilled (count_in res) fill) p.bytes) in
      let done : ℕ → Option (Event × World) = λ v. Some (ByKernel (record { user_data = v; res = res }), record w { pending = without n w.pending; completed = w.completed ++ p.request ∷ []; completions = w.completions ++ record { user_data = v; res = res } ∷ []; buffers = bs }) in
      rw (a, c, q, b) (completed_as ∙ ap done same)

  pub kept_completed : clashes w.pending ≡ false → (pending : List Pending) (completed : List Request) (completions : List Completion) (buffers : List (Option (List ℕ)))
      → pending ≡ without n w.pending → buffers ≡ given_in w.buffers p.request.buffer (option_map (refilled (count_in res) fill) p.bytes)
      → IsKept (record w { pending = pending; completed = completed; completions = completions; buffers = buffers })
  kept_completed calm pending completed completions buffers a b =
      let m = memory_completed calm in
      record {
        made = k.made;
        room = k.room;
        slot = k.slot;
        queued = k.queued;
        memory = rw (a, b) m;
      }
