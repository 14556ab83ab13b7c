use Rattle.std.proofs.Common.{rules, w32, FitsSigned, to_z, of_z}
use Rattle.std.proofs.lemmas.Int.{to_z-of_z}
use Rattle.rc_entry.proofs.Written.{HasFields-written}
use Rattle.rc_entry.proofs.submission.Fields.to_bytes.Goals as goal

pub returns : goal.returns
returns c =
    let fields = c.args.self in
    let fits : FitsSigned w32 fields.fd = search rules in
    HasFields-written fields.opcode fields.fd (to_z w32 (of_z w32 fields.fd)) fields.off fields.addr fields.len fields.flags fields.user_data
    c.write_i32.new.bytes c.write_u64.new.bytes c.write_u64-2.new.bytes c.write_u32.new.bytes c.write_u32-2.new.bytes c.write_u64-3.new.bytes
    (search rules) fits (search rules) (search rules) (search rules) (search rules) (search rules) (to_z-of_z w32 fields.fd fits)
    c.write_i32.ensures c.write_u64.ensures c.write_u64-2.ensures c.write_u32.ensures c.write_u32-2.ensures c.write_u64-3.ensures
