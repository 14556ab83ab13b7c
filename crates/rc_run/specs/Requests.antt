-- The requests that the entries of a ring ask for: what lies in their fields (io_uring_enter(2)), and what a table has of
-- their user data: the serial number, and whether a nop's entry stands for another request without a buffer.
use Rattle.std.specs.Prelude.{ℕ, ◌+◌, ◌-◌, ◌*◌, ◌/◌, ◌%◌, negsuc, Bool, true, false, if◌then◌else◌, List, [], ◌∷◌, ◌++◌, map, nat_eq}
use Rattle.rc_entry.specs.declared.Cqe.{Cqe}
use Rattle.rc_entry.specs.declared.Entry.{Entry}
use Rattle.rc_entry.specs.declared.Entry.TheVariants as entry
use Rattle.rc_entry.specs.Spelling.{datasync_bit, opcode_fsync, opcode_read, opcode_write, sqe_addr, sqe_fd, sqe_flags, sqe_len, sqe_off, sqe_opcode, sqe_user_data}
use Rattle.rc_lang.specs.declared.request.Kind.{Kind}
use Rattle.rc_lang.specs.declared.request.Kind.TheVariants.{Nop, Fsync, Read, Write, Other}
use Rattle.rc_lang.specs.declared.request.Request.{Request}
use Rattle.rc_ring.specs.Rings.{OpenSlot, NoSlot, VacantSlot, PreparedSlot}
use Rattle.rc_run.specs.declared.request_ring.Serial.{Serial}
use Rattle.rc_world.specs.declared.event.Completion.{Completion}
use Rattle.rc_world.specs.declared.world.Slot.{Slot}
use Rattle.rc_world.specs.declared.world.Slot.TheVariants.{Closed, Vacant, Prepared}
use Rattle.rc_world.specs.Machine.{new_request}

-- the kind that a nop's entry stands for
abbrev pub nop_or_other : Bool → Kind
nop_or_other false = Nop
nop_or_other true = Other

abbrev pub kind_of_opcode : ℕ → Bool → Kind
kind_of_opcode opcode other = if nat_eq opcode opcode_read then Read else if nat_eq opcode opcode_write then Write else if nat_eq opcode opcode_fsync then Fsync else nop_or_other other

-- the request of a prepared nop, or of what it stands for
abbrev pub prepared_nop_or_other : Bool → Request
prepared_nop_or_other other = new_request (nop_or_other other) (negsuc 0) 0 0 0

-- Each buffer has a page of addresses of its own, the first from 4096 on.
abbrev pub address_of : ℕ → ℕ
address_of buffer = 4096 * (buffer + 1)

-- the number, of 32 bits, of the buffer at an address
abbrev pub buffer_at : ℕ → ℕ
buffer_at address = (address / 4096 - 1) % 4294967296

-- what is known of an entry before it has its user data
abbrev pub unnamed : Bool → Serial
unnamed other = record { user_data = 0; serial = 0; other = other }

-- what the table has of a user data
abbrev pub named : ℕ → List Serial → Serial
named u [] = unnamed false
named u (s ∷ serials) = if nat_eq s.user_data u then s else named u serials

-- the request in the 64 bytes of an entry of which this is known
abbrev pub request_by : Serial → List ℕ → Request
request_by s bytes = record {
  serial = s.serial;
  kind = kind_of_opcode (sqe_opcode bytes) s.other;
  fd = sqe_fd bytes;
  buffer = buffer_at (sqe_addr bytes);
  len = sqe_len bytes;
  off = sqe_off bytes;
  user_data = sqe_user_data bytes;
}

-- that of a queued entry
abbrev pub request_in : List Serial → List ℕ → Request
request_in serials bytes = request_by (named (sqe_user_data bytes) serials) bytes

-- the user data of the value that the bytes spell, and its request
abbrev pub data_of_entry : Entry → ℕ
data_of_entry (entry.Nop u) = u
data_of_entry (entry.Fsync fd datasync u) = u
data_of_entry (entry.Read fd address len off u) = u
data_of_entry (entry.Write fd address len off u) = u

abbrev pub numbered : Serial → ℕ → Request → Request
numbered s u q = record q { serial = s.serial; user_data = u }

abbrev pub request_of : Serial → Entry → Request
request_of s (entry.Nop u) = numbered s u (prepared_nop_or_other s.other)
request_of s (entry.Fsync fd datasync u) = numbered s u (new_request Fsync fd 0 0 0)
request_of s (entry.Read fd address len off u) = numbered s u (new_request Read fd (buffer_at address) len off)
request_of s (entry.Write fd address len off u) = numbered s u (new_request Write fd (buffer_at address) len off)

-- the open entry; what is prepared has no serial number yet
abbrev pub slot_in : Bool → OpenSlot → Slot
slot_in other NoSlot = Closed
slot_in other VacantSlot = Vacant
slot_in other (PreparedSlot bytes) = Prepared (request_by (unnamed other) bytes)

-- whether the open entry is an fsync that asks for fdatasync(2)
abbrev pub is_datasync : OpenSlot → Bool
is_datasync NoSlot = false
is_datasync VacantSlot = false
is_datasync (PreparedSlot bytes) = nat_eq (sqe_flags bytes) datasync_bit

abbrev pub completion_in : Cqe → Completion
completion_in c = record { user_data = c.user_data; res = c.res }

abbrev pub is_open : OpenSlot → Bool
is_open NoSlot = false
is_open VacantSlot = true
is_open (PreparedSlot bytes) = true

-- What clauses see of a ring of requests: the numbers of entries, the open entry, whether it is an fsync that asks for
-- fdatasync(2), which no request says, the queued requests and the completions from the front, and how many requests
-- were made.
pub record RequestRing : Type 0 where
  pub entries : ℕ
  pub completion_entries : ℕ
  pub slot : Slot
  pub datasync : Bool
  pub queued : List Request
  pub completions : List Completion
  pub made : ℕ

-- nothing is made
abbrev pub empty_ring : ℕ → ℕ → RequestRing
empty_ring entries completion_entries = record {
  entries = entries;
  completion_entries = completion_entries;
  slot = Closed;
  datasync = false;
  queued = [];
  completions = [];
  made = 0;
}

-- the open entry is prepared
abbrev pub with_prepared : RequestRing → Request → Bool → RequestRing
with_prepared r q datasync = record r { slot = Prepared q; datasync = datasync }

-- the prepared request goes last into the queue, under the next serial number
abbrev pub after_data : RequestRing → ℕ → Request → RequestRing
after_data r u q = record r { slot = Closed; datasync = false; queued = r.queued ++ record q { serial = r.made + 1; user_data = u } ∷ []; made = r.made + 1 }

abbrev pub data_of : List Request → List ℕ
data_of rs = map (λ (r : Request). r.user_data) rs
