use Rattle.std.proofs.Common.{◌+◌, slice_range, ◌∙◌}
use Rattle.rc_entry.specs.Spelling.{u64_at}
use Rattle.rc_entry.proofs.Bytes.{little_number-8}
use Rattle.rc_entry.proofs.numbers.read_u64.Goals as goal

pub returns : goal.returns
unfolding u64_at
returns c = c.read_u64.ensures ∙ little_number-8 (slice_range c.args.bytes.now c.args.place (c.args.place + 8))
