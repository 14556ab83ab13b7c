use Rattle.std.proofs.Common.{refl}
use Rattle.rc_verify.proofs.Joining.{breaks, fits_with}
use Rattle.rc_verify.proofs.loops.leave_loop.Goals as goal

pub join_top-requires-clause-fits : goal.join_top-requires-clause-fits
join_top-requires-clause-fits c = λ s e. fits_with s c.args.state.now c.args.state.now c.carry_out.new.self c.args.releases refl (c.requires.fits s e) c.in_ok-may_break.ensures c.carry_out.ensures

pub returns-clause-kept : goal.returns-clause-kept
returns-clause-kept c = λ s e. breaks s c.args.state.now c.args.state.now c.carry_out.new.self c.args.releases c.args.loops.now c.join_top.new.self refl c.carry_out.ensures (c.join_top.ensures s e)
