-- Numbers and fields in bytes, as inner contracts speak of them. No public clause names them.
use Rattle.std.specs.Prelude.{ℕ, ◌+◌, List, ◌++◌, take, drop}
use Rattle.std.specs.Int.{w32, w64, to_le_bytes}
use Rattle.rc_entry.specs.declared.submission.Fields.{Fields}
use Rattle.rc_entry.specs.Spelling.{AreUnusedZero, HasFields}

-- four and eight bytes written from a place
abbrev pub with_u32 : ℕ → ℕ → List ℕ → List ℕ
with_u32 place number bytes = take place bytes ++ to_le_bytes w32 number ++ drop (place + 4) bytes

abbrev pub with_u64 : ℕ → ℕ → List ℕ → List ℕ
with_u64 place number bytes = take place bytes ++ to_le_bytes w64 number ++ drop (place + 8) bytes

-- the bytes have these fields, and all others are 0
abbrev pub SpellsFields : Fields → List ℕ → Type 0
SpellsFields f bytes = HasFields f.opcode f.fd f.off f.addr f.len f.flags f.user_data bytes

-- the fields that the opcode doesn't use are 0
abbrev pub HasZeroUnused : Fields → Type 0
HasZeroUnused f = AreUnusedZero f.opcode f.off f.addr f.len f.flags
