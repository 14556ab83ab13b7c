use Rattle.std.proofs.Common.{ap, map, ◌∙◌}
use Rattle.std.specs.Prelude.{is_some}
use Rattle.rc_lang.specs.Parts.{view_buffer}
use Rattle.rc_read.proofs.Sizes.{some_shares}
use Rattle.rc_read.proofs.names.has_buffer.Goals as goal

pub returns : goal.returns
returns c = c.is_some.ensures ∙ ap is_some c.find_buffer.ensures.shares ∙ some_shares (map view_buffer c.args.buffers.now) c.args.word.now
