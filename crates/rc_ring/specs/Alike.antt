-- Rings that differ in places alone.
use Rattle.std.specs.Prelude.{◌≡◌, ◌==◌, ℕ, ◌-◌, Bool, List, [], ◌∷◌, length, slice_get, Option}
use Rattle.std.specs.Option.{is_some}
use Rattle.rc_entry.specs.declared.Cqe.{Cqe}
use Rattle.rc_ring.specs.Rings.{Rings, RingCall, after_call, used, is_prepared_slot, open_place}

-- the two are one but for their places
pub record AreAlike (a b : Rings) : Type 0 where
  pub entries : a.entries ≡ b.entries
  pub completion_entries : a.completion_entries ≡ b.completion_entries
  pub queued : a.queued ≡ b.queued
  pub completions : a.completions ≡ b.completions
  pub slot : a.slot ≡ b.slot
  pub parked : a.parked ≡ b.parked

-- the rings after each of the calls in turn
abbrev pub after_calls : List RingCall → Rings → Rings
after_calls [] rings = rings
after_calls (call ∷ calls) rings = after_calls calls (after_call call rings)

-- what the calls answer of the rings, but for places
pub record Answers : Type 0 where
  -- whether `get_sqe` answers none, and `open_place` one
  pub is_full : Bool
  pub is_open : Bool
  pub open_prepared : Bool
  pub parked : Bool
  -- what `queued_sqe` answers at each number
  pub queued_sqe : ℕ → Option (List ℕ)
  -- how many entries are queued: `submit` answers it of the rings that it leaves
  pub left : ℕ
  -- whether `post` overflows
  pub overflows : Bool
  pub peek_cqe : Option Cqe
  pub sq_ready : ℕ
  pub sq_space_left : ℕ

abbrev pub call_answers : Rings → Answers
call_answers rings = record {
  is_full = used rings == rings.entries;
  is_open = is_some (open_place rings);
  open_prepared = is_prepared_slot rings.slot;
  parked = rings.parked;
  queued_sqe = λ i. slice_get rings.queued i;
  left = length rings.queued;
  overflows = length rings.completions == rings.completion_entries;
  peek_cqe = slice_get rings.completions 0;
  sq_ready = used rings;
  sq_space_left = rings.entries - used rings;
}
