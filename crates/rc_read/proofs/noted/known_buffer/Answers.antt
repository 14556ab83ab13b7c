use Rattle.std.proofs.Common.{Bool, ◌||◌, List, ap, map, ◌∙◌}
use Rattle.rc_lang.specs.Parts.{view_buffer}
use Rattle.rc_lang.specs.declared.program.Buffer.{Buffer}
use Rattle.rc_read.specs.declared.noted.Wrong.{Wrong}
use Rattle.rc_read.proofs.Sizes.{undeclared}
use Rattle.rc_read.proofs.noted.known_buffer.Goals as goal

abbrev with_unknown : Wrong → Bool → Wrong
with_unknown wrong unknown = record wrong { unknown = unknown || wrong.unknown }

pub returns-clause-wrong : goal.returns-clause-wrong
returns-clause-wrong c =
    let found = map view_buffer c.deref.result.now in
    let declared = map view_buffer c.args.parts.now.buffers.items in
    let same = ap (λ (bs : List Buffer). map view_buffer bs) c.deref.ensures.value in
    c.lack.ensures.wrong ∙ ap (with_unknown c.args.noted.now.wrong) (undeclared c.is_none.result c.find_buffer-buffer.result.1 found declared c.args.word.now c.is_none.ensures c.find_buffer-buffer.ensures.shares same)
