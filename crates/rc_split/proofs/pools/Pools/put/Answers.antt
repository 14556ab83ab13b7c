use Rattle.rc_lang.specs.Parts.{view_items}
use Rattle.rc_split.proofs.AllPools.{can_add}
use Rattle.rc_split.proofs.pools.Pools.put.Goals as goal

pub add-requires : goal.add-requires
add-requires c = can_add c.args.program.now c.entries.ensures.made c.args.self.now c.args.name (view_items c.args.items.now) c.requires
