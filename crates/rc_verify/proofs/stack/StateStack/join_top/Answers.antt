use Rattle.std.proofs.Common.{refl}
use Rattle.rc_verify.proofs.Joining.{break_joins}
use Rattle.rc_verify.proofs.Keeping.{last_room, none_kept, room_written}
use Rattle.rc_verify.proofs.stack.StateStack.join_top.Goals as goal

pub meet-requires-clause-of : goal.meet-requires-clause-of
meet-requires-clause-of c = (c.requires.fits c.in-Some.exits (last_room _ _ _ _ _ _ c.self.view_is c.self.invariant c.requires.kept c.as_mut_slice.ensures.value c.in-Some.is)).of

pub meet-requires-clause-alike : goal.meet-requires-clause-alike
meet-requires-clause-alike c = (c.requires.fits c.in-Some.exits (last_room _ _ _ _ _ _ c.self.view_is c.self.invariant c.requires.kept c.as_mut_slice.ensures.value c.in-Some.is)).alike

pub unreachable-requires : goal.unreachable-requires
unreachable-requires c = none_kept _ c.requires.kept (last_room _ _ _ _ _ _ c.self.view_is c.self.invariant c.requires.kept c.as_mut_slice.ensures.value c.in-None.is)

pub returns : goal.returns
returns c = λ s e. break_joins s c.in-Some.exits c.meet.new.self c.args.end.now _ _ _ c.meet.result (last_room _ _ _ _ _ _ c.self.view_is c.self.invariant c.requires.kept c.as_mut_slice.ensures.value c.in-Some.is) e (c.requires.fits s e) c.meet.ensures refl (room_written _ _ _ _ _ c.self.view_is c.self.invariant c.requires.kept c.as_mut_slice.ensures.value)
