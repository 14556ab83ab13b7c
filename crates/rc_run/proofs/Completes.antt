-- The step of the kernel that a job's result names.
use Rattle.std.proofs.Common.{◌≡◌, ℕ, ℤ, Bool, true, false, ◌&&◌, if◌then◌else◌, ◌≤◌, ◌<◌, List, [], ◌∷◌, ◌++◌, take, drop, length, map, get_or, option_map, Option, Some, None, IsSome, IfSome, nat_eq, slice_get, slice_set, refl, sym, ap, subst, ◌∙◌, arith}
use Rattle.std.specs.Global.{Vec}
use Rattle.std.proofs.lemmas.Bool.{and_parts, leb-true}
use Rattle.std.proofs.lemmas.List.{map-set}
use Rattle.std.proofs.lemmas.Option.{slice_get-get_or, slice_get-map}
use Rattle.rc_lang.specs.declared.request.Request.{Request}
use Rattle.rc_lang.specs.Program.{bytes_at}
use Rattle.rc_lang.specs.Requests.{may_complete}
use Rattle.rc_world.specs.declared.event.Completion.{Completion}
use Rattle.rc_world.specs.declared.event.Event.{Event}
use Rattle.rc_world.specs.declared.event.Event.TheVariants.{ByKernel}
use Rattle.rc_world.specs.Kept.{IsKept, IsKeptPending}
use Rattle.rc_world.specs.Machine.{Pending, World, bytes_brought, completes, completion_of, given_back, is_read, kernel_event, kernel_step_of, without}
use Rattle.rc_world.specs.WorldParts.{view_bytes}
use Rattle.rc_world.proofs.Memory.{read_has_buffer}
use Rattle.rc_run.specs.declared.machine.Pending.{Pending as PendingPart}
use Rattle.rc_run.specs.Machine.{brought, completed_at, completed_by, given_to, pending_of}
use Rattle.rc_world.proofs.Kernel.{if_some}

pub view_at : (items : List PendingPart) (n : ℕ) (r : PendingPart) → n < length items → r ≡ get_or items n r → slice_get (map pending_of items) n ≡ Some (pending_of r)
view_at items n r lt e = slice_get-map pending_of items n ∙ ap (option_map pending_of) (slice_get-get_or items n r lt ∙ ap Some (sym e))

pub given_some : (items : List (Option (Vec ℕ))) (q : Request) (bytes : List ℕ) (stood : Option (Vec ℕ)) (v new : Vec ℕ) → stood ≡ Some v → new.items ≡ take q.len bytes ++ drop q.len v.items
    → map view_bytes (slice_set items q.buffer (Some new)) ≡ given_to (map view_bytes items) q bytes (view_bytes stood)
given_some items q bytes stood v new is e =
    map-set view_bytes items q.buffer (Some new)
    ∙ ap (λ xs. slice_set (map view_bytes items) q.buffer (Some xs)) e
    ∙ sym (ap (λ o. given_to (map view_bytes items) q bytes (view_bytes o)) is)

module _ (w : World) (k : IsKept w) (n : ℕ) (res : ℤ) (bytes : List ℕ) (p : Pending) (here : slice_get w.pending n ≡ Some p) (some : IsSome (completed_by w n res bytes)) where
  step_is : completed_by w n res bytes ≡ kernel_step_of w n res (brought p.request bytes) (Some p)
  step_is = ap (completed_at w n res bytes) here ∙ ap (kernel_step_of w n res (brought p.request bytes)) here

  allowed : (may_complete p.request res ≡ true) × (nat_eq (length (brought p.request bytes)) (bytes_brought p.request) ≡ true) × IsSome (kernel_event w n res p.request (given_back w p.request (brought p.request bytes) p.bytes))
  allowed =
      let h = if_some (may_complete p.request res && nat_eq (length (brought p.request bytes)) (bytes_brought p.request)) _ (subst IsSome step_is some) in
      let b = and_parts _ _ h.0 in
      (b.0, b.1, h.1)

  held : IsKeptPending w.program w.pending p
  held = k.memory.pending n p here

  pub there : (stood : List ℕ) → p.bytes ≡ Some stood → p.request.buffer < length w.buffers
  there stood e = subst (λ m. p.request.buffer < m) (sym k.memory.as_many) (held.fitting.exists (read_has_buffer p.request.kind (held.of_read stood e)))

  pub enough : (stood : List ℕ) → p.bytes ≡ Some stood → p.request.len ≤ length stood
  enough stood e =
      let s : length stood ≡ bytes_at w.program.buffers p.request.buffer = held.sized stood e in
      let le : p.request.len ≤ bytes_at w.program.buffers p.request.buffer = leb-true p.request.len _ held.fitting.room in
      omega arith

  brings_is : (stood : List ℕ) → p.bytes ≡ Some stood → bytes_brought p.request ≡ p.request.len
  brings_is stood e = ap (λ b. if b then p.request.len else 0) (held.of_read stood e)

  pub brought_enough : bytes_brought p.request ≤ length bytes → (stood : List ℕ) → p.bytes ≡ Some stood → p.request.len ≤ length bytes
  brought_enough le stood e = subst (λ m. m ≤ length bytes) (brings_is stood e) le

  given : (o : Option (List ℕ)) → p.bytes ≡ o → given_back w p.request (brought p.request bytes) o ≡ Some (given_to w.buffers p.request bytes o)
  given None e = go (is_read p.request.kind) (event_some _ (subst (λ x. IsSome (kernel_event w n res p.request (given_back w p.request (brought p.request bytes) x))) e allowed.2))
    where
      event_some : (b : Option (List (Option (List ℕ)))) → IsSome (kernel_event w n res p.request b) → IsSome b
      event_some None h = absurd (cc)
      event_some (Some bs) h = refl

      go : (b : Bool) → IsSome (if b then None else Some w.buffers) → (if b then None else Some w.buffers) ≡ Some w.buffers
      go true h = absurd (cc)
      go false h = refl
  given (Some stood) e = ap (λ m. Some (slice_set w.buffers p.request.buffer (Some (take m bytes ++ drop p.request.len stood)))) (brings_is stood e)

  completed_as : completed_by w n res bytes ≡ Some (ByKernel (completion_of p.request res), completes w n res p.request (given_to w.buffers p.request bytes p.bytes))
  completed_as =
      step_is
      ∙ ap (λ b. if b && nat_eq (length (brought p.request bytes)) (bytes_brought p.request) then kernel_event w n res p.request (given_back w p.request (brought p.request bytes) p.bytes) else None) allowed.0
      ∙ ap (λ b. if b then kernel_event w n res p.request (given_back w p.request (brought p.request bytes) p.bytes) else None) allowed.1
      ∙ ap (kernel_event w n res p.request) (given p.bytes refl)

  abbrev step_with : List Pending → List Request → List Completion → List (Option (List ℕ)) → Option (Event × World)
  step_with ps cs qs bs = Some (ByKernel (completion_of p.request res), record w { pending = ps; completed = cs; completions = qs; buffers = bs })

  -- what the code has made of the lists
  pub completed_so : (pending : List Pending) (completed : List Request) (completions : List Completion) (buffers : List (Option (List ℕ)))
      → pending ≡ without n w.pending → completed ≡ w.completed ++ p.request ∷ [] → completions ≡ w.completions ++ completion_of p.request res ∷ []
      → buffers ≡ given_to w.buffers p.request bytes p.bytes
      → completed_by w n res bytes ≡ Some (ByKernel (completion_of p.request res), record w { pending = pending; completed = completed; completions = completions; buffers = buffers })
  completed_so pending completed completions buffers a c q b =
      let bs = given_to w.buffers p.request bytes p.bytes in
      completed_as
      ∙ ap (λ x. step_with x (w.completed ++ p.request ∷ []) (w.completions ++ completion_of p.request res ∷ []) bs) (sym a)
      ∙ ap (λ x. step_with pending x (w.completions ++ completion_of p.request res ∷ []) bs) (sym c)
      ∙ ap (λ x. step_with pending completed x bs) (sym q)
      ∙ ap (λ x. step_with pending completed completions x) (sym b)

pub asks_count : (stood : Option (Vec ℕ)) (n : ℕ) (bytes : List ℕ) → ((xs : List ℕ) → view_bytes stood ≡ Some xs → n ≤ length bytes) → IfSome stood (λ (v : Vec ℕ). n ≤ length bytes)
asks_count None n bytes h = tt
asks_count (Some v) n bytes h = h v.items refl
