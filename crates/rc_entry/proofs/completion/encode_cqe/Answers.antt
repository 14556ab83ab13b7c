use Rattle.std.proofs.Common.{rules, w32, FitsSigned, to_z, of_z}
use Rattle.std.proofs.lemmas.Int.{to_z-of_z}
use Rattle.rc_entry.proofs.Written.{SpellsCqe-written}
use Rattle.rc_entry.proofs.completion.encode_cqe.Goals as goal

pub returns : goal.returns
returns c =
    let fits : FitsSigned w32 c.args.cqe.now.res = search rules in
    SpellsCqe-written c.args.cqe.now (to_z w32 (of_z w32 c.args.cqe.now.res)) c.write_u64.new.bytes c.write_i32.new.bytes
    (search rules) fits (to_z-of_z w32 c.args.cqe.now.res fits) c.write_u64.ensures c.write_i32.ensures
