-- Jobs that are taken, and their results.
use Rattle.std.proofs.Common.{◌≡◌, ◌≢◌, ℕ, ℤ, zero, suc, ◌%◌, ◌<◌, ◌≤◌, inr, Bool, true, false, cond, if◌then◌else◌, List, [], ◌∷◌, ◌++◌, filter, length, map, Option, Some, None, option_map, slice_get, refl, sym, ap, subst, ◌∙◌, arith}
use Rattle.std.proofs.Math.Nat.{mod-lt}
use Rattle.std.proofs.lemmas.List.{length-map, nil_from_length}
use Rattle.std.proofs.lemmas.Option.{same_Some, slice_get-map}
use Rattle.rc_lang.specs.declared.request.Kind.{Kind}
use Rattle.rc_lang.specs.declared.request.Kind.TheVariants.{Nop, Fsync, Read, Write, Other}
use Rattle.rc_lang.specs.declared.request.Request.{Request}
use Rattle.rc_lang.specs.Program.{Program}
use Rattle.rc_world.specs.declared.event.Event.{Event}
use Rattle.rc_world.specs.Machine.{Pending, World, bytes_brought, is_read, kernel_step, start_world}
use Rattle.rc_world.specs.Runs.{IsRun}
use Rattle.rc_world.proofs.LawLists.{get_at, get_past}
use Rattle.rc_run.specs.declared.machine.Pending.{Pending as PendingPart}
use Rattle.rc_run.specs.Calm.{IsCalm}
use Rattle.rc_run.specs.Jobs.{IsJob, Job}
use Rattle.rc_run.specs.LiveParts.{free_parts}
use Rattle.rc_run.specs.Lives.{IsJobOf, IsOut, IsPendingAt, Lent, Live, free, is_free}
use Rattle.rc_run.specs.Machine.{brought, completed_at, completed_by, pending_of}
use Rattle.rc_run.proofs.Turns.{goes_one_on}

-- ---- those that are free

kept_one : (b : Bool) (x : PendingPart) (ys : List Pending) (xs : List PendingPart) → ys ≡ map pending_of xs → cond b (pending_of x ∷ ys) ys ≡ map pending_of (cond b (x ∷ xs) xs)
kept_one true x ys xs e = ap (λ zs. pending_of x ∷ zs) e
kept_one false x ys xs e = e

kept_map : (test : Pending → Bool) (xs : List PendingPart) → filter test (map pending_of xs) ≡ map pending_of (filter (λ x. test (pending_of x)) xs)
kept_map test [] = refl
kept_map test (x ∷ xs) = kept_one (test (pending_of x)) x (filter test (map pending_of xs)) (filter (λ x. test (pending_of x)) xs) (kept_map test xs)

free_is : (s : Live) (items : List PendingPart) → s.world.pending ≡ map pending_of items → free s ≡ map pending_of (free_parts s.out items)
free_is s items e = ap (filter (λ (p : Pending). is_free s.out p.request)) e ∙ kept_map (λ (p : Pending). is_free s.out p.request) items

pub none_free : (s : Live) (items : List PendingPart) → s.world.pending ≡ map pending_of items → length (free_parts s.out items) ≡ 0 → free s ≡ []
none_free s items e n = free_is s items e ∙ ap (map pending_of) (nil_from_length (free_parts s.out items) n)

pub lent : (s v : Live) (items : List PendingPart) (choice count place : ℕ) (job : Job) (serial : ℕ) → s.world.pending ≡ map pending_of items
    → count ≡ length (free_parts s.out items) → place < length items → slice_get items place ≡ slice_get (free_parts s.out items) (choice % count)
    → ((p : Pending) → slice_get s.world.pending place ≡ Some p → IsJobOf s.world p job) → serial ≡ job.request.serial → v ≡ record s { out = s.out ++ serial ∷ [] }
    → Lent s choice job v
lent s v items choice count place job serial pending counted lt at of number after =
    let x = get_at items place lt in
    let all = free_is s items pending in
    let many : length (free s) ≡ count = ap (λ (ps : List Pending). length ps) all ∙ length-map (free_parts s.out items) pending_of ∙ sym counted in
    let here : slice_get s.world.pending place ≡ Some (pending_of x.0) = ap (λ (ps : List Pending). slice_get ps place) pending ∙ slice_get-map pending_of items place ∙ ap (λ o. go o) x.1 in
    let of_it = of (pending_of x.0) here in
    record {
      pending = pending_of x.0;
      chosen =
          ap (λ n. slice_get (free s) (choice % n)) many
          ∙ ap (λ (ps : List Pending). slice_get ps (choice % count)) all
          ∙ slice_get-map pending_of (free_parts s.out items) (choice % count)
          ∙ ap (λ o. go o) (sym at ∙ x.1);
      job_of = of_it;
      after = after ∙ ap (λ n. record s { out = s.out ++ n ∷ [] }) (number ∙ ap (λ (r : Request). r.serial) of_it.request);
    }
  where
    go : Option PendingPart → Option Pending
    go None = None
    go (Some y) = Some (pending_of y)

-- ---- the request of a job

-- a pending request, in the code and in the world
pub pending_at : (items : List PendingPart) (r : Request) (k : ℕ) (p : Pending) → slice_get (map pending_of items) k ≡ Some p → p.request ≡ r → IsPendingAt items r k
pending_at [] r k p e q = absurd (cc)
pending_at (x ∷ items) r zero p e q = record { part = x; here = refl; same = ap (λ (y : Pending). y.request) (same_Some _ _ e) ∙ q }
pending_at (x ∷ items) r (suc k) p e q = let a = pending_at items r k p e q in record { part = a.part; here = a.here; same = a.same }

pub pending_here : (items : List PendingPart) (r : Request) (k : ℕ) (a : IsPendingAt items r k) → slice_get (map pending_of items) k ≡ Some (pending_of a.part)
pending_here items r k a = slice_get-map pending_of items k ∙ ap (option_map pending_of) a.here

-- ---- results

brings_enough : (job : Job) → IsJob job → bytes_brought job.request ≤ length job.bytes
brings_enough job is = go job.request.kind refl job.starved refl
  where
    none : (k : Kind) → job.request.kind ≡ k → is_read k ≡ false → bytes_brought job.request ≤ length job.bytes
    none k e other = let z : bytes_brought job.request ≡ 0 = ap (λ b. if b then job.request.len else 0) (ap is_read e ∙ other) in omega (arith, z)

    go : (k : Kind) → job.request.kind ≡ k → (b : Bool) → job.starved ≡ b → bytes_brought job.request ≤ length job.bytes
    go Nop e b s = none Nop e refl
    go Fsync e b s = none Fsync e refl
    go Write e b s = none Write e refl
    go Other e b s = none Other e refl
    go Read e true s = let w = is.of_write s in absurd (cc)
    go Read e false s =
        let z : bytes_brought job.request ≡ job.request.len = ap (λ b. if b then job.request.len else 0) (ap is_read e) in
        let le = is.enough s in
        omega (arith, z, le)

-- the job of a request that is out, and the world where it is
module _ (s : Live) (c : IsCalm s.world) (k n : ℕ) (job : Job) (is : IsJob job) (out : IsOut s job.request k n) where
  pub enough : (p : Pending) → slice_get s.world.pending k ≡ Some p → bytes_brought p.request ≤ length job.bytes
  enough p at = subst (λ (q : Request). bytes_brought q ≤ length job.bytes) (sym out.same ∙ ap (λ (x : Pending). x.request) (same_Some _ _ (sym out.here ∙ at))) (brings_enough job is)

  pub room : length s.world.completions < s.world.program.completion_entries
  room = c.has_room k job.request (out.pending, out.here, out.same)

  at_request : (res : ℤ) → completed_by s.world k res job.bytes ≡ kernel_step s.world k res (brought out.pending.request job.bytes)
  at_request res = ap (completed_at s.world k res job.bytes) out.here

  pub posted_leads : (P Q : Program) (v : World) (old new : List Event) (res : ℤ) (e : Event) → IsRun (start_world P) old s.world → completed_by s.world k res job.bytes ≡ Some (e, v) → Q ≡ P → new ≡ old ++ e ∷ []
      → IsRun (start_world Q) new v
  posted_leads P Q v old new res e run step are more =
      subst (λ x. IsRun (start_world x) new v) (sym are)
      (subst (λ es. IsRun (start_world P) es v) (sym more)
      (goes_one_on (start_world P) s.world v old e run (record { no_fault = c.no_fault; step = inr (k, res, brought out.pending.request job.bytes, sym (at_request res) ∙ step) })))

pub some_free : (s : Live) (items : List PendingPart) (choice count : ℕ) → count ≡ length (free_parts s.out items) → count ≢ 0 → slice_get (free_parts s.out items) (choice % count) ≡ None → ⊥
some_free s items choice count counted some none =
    let le : length (free_parts s.out items) ≤ choice % count = get_past (free_parts s.out items) (choice % count) none in
    let lt : choice % count < count = mod-lt choice (omega (arith, some)) in
    absurd (omega (arith, le, lt, counted))

pub count_free : (s : Live) (items : List PendingPart) (count : ℕ) → s.world.pending ≡ map pending_of items → count ≡ length (free_parts s.out items) → count ≡ length (free s)
count_free s items count pending counted = counted ∙ sym (length-map (free_parts s.out items) pending_of) ∙ sym (ap (λ (ps : List Pending). length ps) (free_is s items pending))
