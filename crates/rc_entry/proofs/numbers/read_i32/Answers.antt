use Rattle.std.proofs.Common.{◌+◌, ◌∙◌, ap, slice_range, w32}
use Rattle.std.specs.Int.{cast_signed}
use Rattle.std.proofs.lemmas.Int.{to_z-of_z}
use Rattle.rc_entry.specs.Spelling.{u32_at, i32_at}
use Rattle.rc_entry.proofs.Bytes.{little_number-4}
use Rattle.rc_entry.proofs.numbers.read_i32.Goals as goal

pub returns : goal.returns
unfolding u32_at i32_at
returns c =
    to_z-of_z w32 c.read_i32.result (record { sfits = c.read_i32.type_inv })
    ∙ (c.read_i32.ensures ∙ ap (cast_signed w32) (little_number-4 (slice_range c.args.bytes.now c.args.place (c.args.place + 4))))
