-- How entries stand as bytes: the fields of `struct io_uring_sqe` and `struct io_uring_cqe` of io_uring_enter(2) at
-- their offsets, a number's lowest byte first.
use Rattle.std.specs.Prelude.{◌≡◌, ◌≢◌, ◌⊎◌, ℕ, ◌+◌, ◌<◌, ℤ, negsuc, Bool, true, false, List, length, slice_index, slice_range, All}
use Rattle.std.specs.Int.{w32, w64, from_le_bytes, cast_signed}
use Rattle.rc_entry.specs.declared.Entry.{Entry}
use Rattle.rc_entry.specs.declared.Entry.TheVariants.{Nop, Fsync, Read, Write}
use Rattle.rc_entry.specs.declared.Cqe.{Cqe}
use Rattle.rc_entry.specs.declared.EntryFault.{EntryFault}
use Rattle.rc_entry.specs.declared.EntryFault.TheVariants.{UnknownOpcode, NonZeroField, NopFd, FsyncFlags, CompletionFlags}

-- the opcodes of io_uring_enter(2)
abbrev pub opcode_nop : ℕ
opcode_nop = 0

abbrev pub opcode_fsync : ℕ
opcode_fsync = 3

abbrev pub opcode_read : ℕ
opcode_read = 22

abbrev pub opcode_write : ℕ
opcode_write = 23

-- the bit of fsync_flags that asks for fdatasync(2)
abbrev pub datasync_bit : ℕ
datasync_bit = 1

-- the bytes from place `from` to below place `to` are 0
abbrev pub AreZero : List ℕ → ℕ → ℕ → Type 0
AreZero bytes from to = All (λ byte. byte ≡ 0) (slice_range bytes from to)

-- the number in the four or eight bytes from a place, and the signed number, in two's complement
unfoldable pub u32_at : ℕ → List ℕ → ℕ
u32_at place bytes = from_le_bytes w32 (slice_range bytes place (place + 4))

unfoldable pub u64_at : ℕ → List ℕ → ℕ
u64_at place bytes = from_le_bytes w64 (slice_range bytes place (place + 8))

unfoldable pub i32_at : ℕ → List ℕ → ℤ
i32_at place bytes = cast_signed w32 (u32_at place bytes)

-- the fields of `struct io_uring_sqe` that entries differ in; `rw_flags` and `fsync_flags` are one place
abbrev pub sqe_opcode : List ℕ → ℕ
sqe_opcode bytes = slice_index bytes 0

abbrev pub sqe_fd : List ℕ → ℤ
sqe_fd bytes = i32_at 4 bytes

abbrev pub sqe_off : List ℕ → ℕ
sqe_off bytes = u64_at 8 bytes

abbrev pub sqe_addr : List ℕ → ℕ
sqe_addr bytes = u64_at 16 bytes

abbrev pub sqe_len : List ℕ → ℕ
sqe_len bytes = u32_at 24 bytes

abbrev pub sqe_flags : List ℕ → ℕ
sqe_flags bytes = u32_at 28 bytes

abbrev pub sqe_user_data : List ℕ → ℕ
sqe_user_data bytes = u64_at 32 bytes

-- flags and ioprio (1 to 3), buf_index, personality, splice_fd_in and the rest (40 to 63), which no entry uses, are 0
pub record AreOthersZero (bytes : List ℕ) : Type 0 where
  pub front : AreZero bytes 1 4
  pub back : AreZero bytes 40 64

-- 64 bytes whose fields read as these values, in the order of the fields, and whose other bytes are 0
pub record HasFields (opcode : ℕ) (fd : ℤ) (off addr len flags user_data : ℕ) (bytes : List ℕ) : Type 0 where
  pub size : length bytes ≡ 64
  pub small : (i : ℕ) → slice_index bytes i < 256
  pub opcode_is : sqe_opcode bytes ≡ opcode
  pub fd_is : sqe_fd bytes ≡ fd
  pub off_is : sqe_off bytes ≡ off
  pub addr_is : sqe_addr bytes ≡ addr
  pub len_is : sqe_len bytes ≡ len
  pub flags_is : sqe_flags bytes ≡ flags
  pub user_data_is : sqe_user_data bytes ≡ user_data
  pub others : AreOthersZero bytes

-- fsync_flags
abbrev pub sync_flags : Bool → ℕ
sync_flags true = datasync_bit
sync_flags false = 0

-- the bytes that spell a submission entry (io_uring_enter(2)); a nop has the fd -1
abbrev pub SpellsEntry : Entry → List ℕ → Type 0
SpellsEntry (Nop user_data) bytes = HasFields opcode_nop (negsuc 0) 0 0 0 0 user_data bytes
SpellsEntry (Fsync fd datasync user_data) bytes =
    HasFields opcode_fsync fd 0 0 0 (sync_flags datasync) user_data bytes
SpellsEntry (Read fd addr len off user_data) bytes = HasFields opcode_read fd off addr len 0 user_data bytes
SpellsEntry (Write fd addr len off user_data) bytes = HasFields opcode_write fd off addr len 0 user_data bytes

-- the flags of a completion
abbrev pub cqe_flags : List ℕ → ℕ
cqe_flags bytes = u32_at 12 bytes

-- the bytes that spell a completion (`struct io_uring_cqe`): user_data, res and flags, which are 0
pub record SpellsCqe (cqe : Cqe) (bytes : List ℕ) : Type 0 where
  pub size : length bytes ≡ 16
  pub small : (i : ℕ) → slice_index bytes i < 256
  pub user_data_is : u64_at 0 bytes ≡ cqe.user_data
  pub res_is : i32_at 8 bytes ≡ cqe.res
  pub flags_is : cqe_flags bytes ≡ 0

-- the opcodes of the four kinds of entry
abbrev pub IsKnown : ℕ → Type 0
IsKnown opcode =
    (opcode ≡ opcode_nop) ⊎ (opcode ≡ opcode_fsync) ⊎ (opcode ≡ opcode_read) ⊎ (opcode ≡ opcode_write)

-- the opcodes of the entries that move no bytes
abbrev pub MovesNothing : ℕ → Type 0
MovesNothing opcode = (opcode ≡ opcode_nop) ⊎ (opcode ≡ opcode_fsync)

-- the fields that this opcode doesn't use are 0: rw_flags but for an fsync, and off, addr and len for a nop and an fsync
pub record AreUnusedZero (opcode off addr len flags : ℕ) : Type 0 where
  pub flags_is : opcode ≢ opcode_fsync → flags ≡ 0
  pub off_is : MovesNothing opcode → off ≡ 0
  pub addr_is : MovesNothing opcode → addr ≡ 0
  pub len_is : MovesNothing opcode → len ≡ 0

-- every field that must be zero is
pub record HasZeros (bytes : List ℕ) : Type 0 where
  pub others : AreOthersZero bytes
  pub unused : AreUnusedZero (sqe_opcode bytes) (sqe_off bytes) (sqe_addr bytes) (sqe_len bytes) (sqe_flags bytes)

-- the sentence of each fault about 64 bytes of a submission entry
abbrev pub IsFaultOfEntry : EntryFault → List ℕ → Type 0
IsFaultOfEntry UnknownOpcode bytes = ¬ IsKnown (sqe_opcode bytes)
IsFaultOfEntry NonZeroField bytes = ¬ HasZeros bytes
IsFaultOfEntry NopFd bytes = (sqe_opcode bytes ≡ opcode_nop) × (sqe_fd bytes ≢ negsuc 0)
IsFaultOfEntry FsyncFlags bytes =
    (sqe_opcode bytes ≡ opcode_fsync) × (sqe_flags bytes ≢ 0) × (sqe_flags bytes ≢ datasync_bit)
IsFaultOfEntry CompletionFlags bytes = ⊥

-- the sentence of each fault about 16 bytes of a completion
abbrev pub IsFaultOfCqe : EntryFault → List ℕ → Type 0
IsFaultOfCqe UnknownOpcode bytes = ⊥
IsFaultOfCqe NonZeroField bytes = ⊥
IsFaultOfCqe NopFd bytes = ⊥
IsFaultOfCqe FsyncFlags bytes = ⊥
IsFaultOfCqe CompletionFlags bytes = cqe_flags bytes ≢ 0

-- the number in a fault's code, as 1 in `E1`
abbrev pub fault_number : EntryFault → ℕ
fault_number UnknownOpcode = 1
fault_number NonZeroField = 2
fault_number NopFd = 3
fault_number FsyncFlags = 4
fault_number CompletionFlags = 5

-- the fault's sentence holds of the bytes, and none with a lesser number does
pub record IsLeastFault (Holds : EntryFault → List ℕ → Type 0) (bytes : List ℕ) (fault : EntryFault) : Type 0 where
  pub holds : Holds fault bytes
  pub least : (other : EntryFault) → fault_number other < fault_number fault → ¬ Holds other bytes
