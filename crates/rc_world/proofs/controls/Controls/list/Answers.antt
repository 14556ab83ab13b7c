use Rattle.std.proofs.Common.{◌<◌, length, rules, sym, ◌∙◌}
use Rattle.rc_lang.proofs.Reading.{list_alone}
use Rattle.rc_world.specs.Changes.{standing_at}
use Rattle.rc_world.proofs.Pooling.{part_is, within_parts}
use Rattle.rc_world.proofs.controls.Controls.list.Goals as goal

pub bounds-lists_of-k : goal.bounds-lists_of-k
bounds-lists_of-k c = within_parts c.lists_of.result.now _ c.args.k c.lists_of.ensures.value c.requires

pub offset_bounds-lists_of-k : goal.offset_bounds-lists_of-k
offset_bounds-lists_of-k c =
    let lt : c.args.k < length c.lists_of.result.now = within_parts c.lists_of.result.now _ c.args.k c.lists_of.ensures.value c.requires in
    search rules

pub returns : goal.returns
returns c =
    part_is c.lists_of.result.now _ c.args.k c.index-lists_of-k.result c.lists_of.ensures.value c.requires c.index-lists_of-k.is
    ∙ sym (list_alone c.args.program.now c.lists_of.ensures.made c.args.thread (standing_at c.args.self.now c.args.thread).variables c.args.k)
