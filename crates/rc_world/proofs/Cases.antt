-- What a statement does in the rings and the buffers, case by case: nothing, or one of seven changes.
use Rattle.std.proofs.Common.{◌≡◌, ℕ, ℤ, pos, ◌+◌, ◌<◌, Bool, true, false, if◌then◌else◌, List, [], ◌∷◌, ◌++◌, length, Option, Some, None, nat_lt, slice_set, refl}
use Rattle.std.proofs.lemmas.Bool.{ltb-true}
use Rattle.std.proofs.lemmas.List.{length-replicate, length-set}
use Rattle.rc_lang.specs.declared.lines.Op.TheVariants.{Store, Fill, GetSqe, PrepRead, PrepWrite, PrepFsync, PrepNop, PrepOther, SetData64, Submit, SubmitAndWait, CqeGetData64, CqeSeen}
use Rattle.rc_lang.specs.declared.lines.Stmt.{Stmt}
use Rattle.rc_lang.specs.declared.lines.Stmt.TheVariants.{Do}
use Rattle.rc_lang.specs.declared.request.Kind.TheVariants.{Fsync, Read, Write}
use Rattle.rc_lang.specs.declared.request.Request.{Request}
use Rattle.rc_world.specs.declared.event.Completion.{Completion}
use Rattle.rc_world.specs.declared.world.Slot.{Slot}
use Rattle.rc_world.specs.declared.world.Slot.TheVariants.{Closed, Vacant, Prepared}
use Rattle.rc_world.specs.Controls.{Standing, low_byte, variable}
use Rattle.rc_world.specs.Machine.{World, bytes_of, count_in, fills, fits_buffer, gets_front, hands_over, in_rings, is_take, new_request, opens_entry, prepared_nop, prepared_other, prepares, queues, reaps_front, stores, submits_by, with_bytes, without_front}

-- It holds of the world after a step, where that can be made.
abbrev pub OnSome : (World → Type 0) → Option World → Type 0
OnSome F None = Unit {0}
OnSome F (Some v) = F v

pub on_if : (F : World → Type 0) (v : World) (b : Bool) → (b ≡ true → F v) → OnSome F (if b then Some v else None)
on_if F v true h = h refl
on_if F v false h = tt

-- the request of a prep
abbrev pub prepared_by : Stmt → Option Request
prepared_by (Do (PrepRead fd b len off)) = Some (new_request Read (pos fd) b len off)
prepared_by (Do (PrepWrite fd b len off k)) = Some (new_request Write (pos fd) b len off)
prepared_by (Do (PrepFsync fd datasync)) = Some (new_request Fsync (pos fd) 0 0 0)
prepared_by (Do PrepNop) = Some prepared_nop
prepared_by (Do PrepOther) = Some prepared_other
prepared_by _ = None

-- It holds of the world itself, and after each change that the statement may make in it.
pub record HoldsBehind (F : World → Type 0) (w : World) (s : Stmt) : Type 0 where
  pub nothing : F w
  pub bytes : (b : ℕ) (old new : List ℕ) → bytes_of w b ≡ Some old → length new ≡ length old → F (with_bytes w b new)
  pub opens : w.slot ≡ Closed → length w.queued < w.program.entries → F (record w { slot = Vacant })
  pub prepares : (r : Request) → prepared_by s ≡ Some r → w.slot ≡ Vacant → fits_buffer w.program r ≡ true → F (record w { slot = Prepared r })
  pub queues : (u : ℕ) (r : Request) → s ≡ Do (SetData64 u) → w.slot ≡ Prepared r → F (record w { slot = Closed; queued = w.queued ++ record r { serial = w.made + 1; user_data = u } ∷ []; made = w.made + 1 })
  pub submits : (n : ℕ) → F (hands_over w n)
  pub gets : (c : Completion) (cs : List Completion) → w.completions ≡ c ∷ cs → F (record w { completed = without_front w.controls.look c.user_data w.completed })
  pub reaps : (c : Completion) (cs : List Completion) → w.completions ≡ c ∷ cs → F (record w { completions = cs; completed = without_front w.controls.look c.user_data w.completed })

-- ---- one change

module _ (F : World → Type 0) (w : World) where
  pub on_stored : (b i byte : ℕ) → ((old : List ℕ) → bytes_of w b ≡ Some old → F (with_bytes w b (slice_set old i byte))) → OnSome F (stores w b i byte (bytes_of w b))
  on_stored b i byte h = go (bytes_of w b) h
    where
      go : (o : Option (List ℕ)) → ((old : List ℕ) → o ≡ Some old → F (with_bytes w b (slice_set old i byte))) → OnSome F (stores w b i byte o)
      go None h = tt
      go (Some old) h = on_if F _ (nat_lt i (length old)) (λ y. h old refl)

  pub on_filled : (b byte : ℕ) (o : Option (List ℕ)) → ((new : List ℕ) (old : List ℕ) → o ≡ Some old → length new ≡ length old → F (with_bytes w b new)) → OnSome F (fills w b byte o)
  on_filled b byte None h = tt
  on_filled b byte (Some old) h = h _ old refl (length-replicate (length old) byte)

  pub on_opened : (x : Slot) → (x ≡ Closed → length w.queued < w.program.entries → F (record w { slot = Vacant })) → OnSome F (opens_entry w x)
  on_opened Closed h = on_if F _ (nat_lt (length w.queued) w.program.entries) (λ y. h refl (ltb-true (length w.queued) w.program.entries y))
  on_opened Vacant h = tt
  on_opened (Prepared r) h = tt

  pub on_prepared : (r : Request) (x : Slot) → (x ≡ Vacant → fits_buffer w.program r ≡ true → F (record w { slot = Prepared r })) → OnSome F (prepares w r x)
  on_prepared r Closed h = tt
  on_prepared r Vacant h = on_if F _ (fits_buffer w.program r) (h refl)
  on_prepared r (Prepared s) h = tt

  pub on_queued : (u : ℕ) (x : Slot) → ((r : Request) → x ≡ Prepared r → F (record w { slot = Closed; queued = w.queued ++ record r { serial = w.made + 1; user_data = u } ∷ []; made = w.made + 1 })) → OnSome F (queues w u x)
  on_queued u Closed h = tt
  on_queued u Vacant h = tt
  on_queued u (Prepared r) h = h r refl

  pub on_submitted : (r : ℤ) → (is_take w r ≡ true → F (hands_over w (count_in r))) → OnSome F (submits_by w r)
  on_submitted r h = on_if F _ (is_take w r) h

  pub on_got : (cs : List Completion) → ((c : Completion) (ds : List Completion) → cs ≡ c ∷ ds → F (record w { completed = without_front w.controls.look c.user_data w.completed })) → OnSome F (gets_front w cs)
  on_got [] h = tt
  on_got (c ∷ ds) h = h c ds refl

  pub on_reaped : (cs : List Completion) → ((c : Completion) (ds : List Completion) → cs ≡ c ∷ ds → F (record w { completions = ds; completed = without_front w.controls.look c.user_data w.completed })) → OnSome F (reaps_front w cs)
  on_reaped [] h = tt
  on_reaped (c ∷ ds) h = h c ds refl

-- ---- any statement

pub in_rings_by : (F : World → Type 0) (w : World) (t : Standing) (r : ℤ) (s : Stmt) → HoldsBehind F w s → OnSome F (in_rings w t r s)
in_rings_by F w t r (Do (Store b i x)) h = on_stored F w b i (low_byte (variable t x)) (λ old e. h.bytes b old _ e (length-set old i (low_byte (variable t x))))
in_rings_by F w t r (Do (Fill b x)) h = on_filled F w b (low_byte (variable t x)) (bytes_of w b) (λ new old e n. h.bytes b old new e n)
in_rings_by F w t r (Do GetSqe) h = on_opened F w w.slot h.opens
in_rings_by F w t r (Do (PrepRead fd b len off)) h = on_prepared F w _ w.slot (h.prepares _ refl)
in_rings_by F w t r (Do (PrepWrite fd b len off k)) h = on_prepared F w _ w.slot (h.prepares _ refl)
in_rings_by F w t r (Do (PrepFsync fd datasync)) h = on_prepared F w _ w.slot (h.prepares _ refl)
in_rings_by F w t r (Do PrepNop) h = on_prepared F w _ w.slot (h.prepares _ refl)
in_rings_by F w t r (Do PrepOther) h = on_prepared F w _ w.slot (h.prepares _ refl)
in_rings_by F w t r (Do (SetData64 u)) h = on_queued F w u w.slot (λ q e. h.queues u q refl e)
in_rings_by F w t r (Do (Submit x)) h = on_submitted F w r (λ y. h.submits (count_in r))
in_rings_by F w t r (Do (SubmitAndWait x n)) h = on_submitted F w r (λ y. h.submits (count_in r))
in_rings_by F w t r (Do CqeGetData64) h = on_got F w w.completions h.gets
in_rings_by F w t r (Do CqeSeen) h = on_reaped F w w.completions h.reaps
in_rings_by F w t r _ h = h.nothing
