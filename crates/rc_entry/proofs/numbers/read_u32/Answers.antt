use Rattle.std.proofs.Common.{◌+◌, slice_range, ◌∙◌}
use Rattle.rc_entry.specs.Spelling.{u32_at}
use Rattle.rc_entry.proofs.Bytes.{little_number-4}
use Rattle.rc_entry.proofs.numbers.read_u32.Goals as goal

pub returns : goal.returns
unfolding u32_at
returns c = c.read_u32.ensures ∙ little_number-4 (slice_range c.args.bytes.now c.args.place (c.args.place + 4))
