use Rattle.std.proofs.Common.{rules, ◌≡◌, ◌<◌, ◌+◌, ◌-◌, max, length, replicate, arith, ◌++◌, take, drop}
use Rattle.std.proofs.lemmas.Grind.{common_steps}
use Rattle.rc_device.specs.Files.{written_to}
use Rattle.rc_device.proofs.Moves.{overwritten}
use Rattle.rc_device.proofs.file.StoredFile.write_at.Goals as goal

pub returns : goal.returns
returns c =
    let some : 0 < length c.args.bytes.now = search rules in
    let len : c.max-len.result ≡ max (length c.self.inside.content.items) (c.args.off + length c.args.bytes.now) = search rules in
    let filled : c.deref_mut.result.now ≡ take c.max-len.result c.self.inside.content.items ++ replicate (c.max-len.result - length c.self.inside.content.items) 0 = grind (arith, common_steps) in
    let moved : take c.args.off c.deref_mut.result.now ++ (c.args.bytes.now ++ drop (length c.args.bytes.now) (drop c.args.off c.deref_mut.result.now)) ≡ written_to c.self.inside.content.items c.args.off c.args.bytes.now =
    overwritten c.self.inside.content.items c.deref_mut.result.now c.args.bytes.now c.args.off c.max-len.result some len filled in
    grind (arith, common_steps, moved)
