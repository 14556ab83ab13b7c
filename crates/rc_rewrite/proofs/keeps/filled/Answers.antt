use Rattle.rc_rewrite.proofs.keeps.filled.Goals as goal

pub read_filled-requires : goal.read_filled-requires
read_filled-requires c = (c.args.program.now, c.requires)

pub unchanged-requires : goal.unchanged-requires
unchanged-requires c = (c.args.program.now, c.requires)
