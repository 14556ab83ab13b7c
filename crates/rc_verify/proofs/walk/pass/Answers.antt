use Rattle.std.proofs.Common.{ap, arith, map}
use Rattle.rc_lang.specs.declared.lines.Stmt.TheVariants.{Put, Loop, EndLoop}
use Rattle.rc_lang.specs.Parts.{view_items}
use Rattle.rc_lang.proofs.Closing.{opens_case, opens_nothing, opens_other}
use Rattle.rc_verify.proofs.Arming.{arm_stays, case_declared, case_passes, case_some, none_passes, none_some, other_passes, other_some}
use Rattle.rc_verify.proofs.Branching.{else_passes, else_some, end_alike, end_of, end_passes, end_some, end_stays, if_passes, may_test, room_here}
use Rattle.rc_verify.proofs.Breaking.{break_passes, break_some, may_leave}
use Rattle.rc_verify.proofs.Ending.{arm_alike, arm_end_passes, arm_of, arm_some, end_peek_passes, end_peek_some}
use Rattle.rc_verify.proofs.Looping.{end_loop_passes, end_loop_some, loop_list, loop_passes, loop_room}
use Rattle.rc_verify.proofs.Peeking.{peek_passes}
use Rattle.rc_verify.proofs.Placing.{at, items_here, loop_there}
use Rattle.rc_verify.proofs.Plainly.{do_passes, free_here, held_here, lock_passes, put_passes, release_passes, small_here}
use Rattle.rc_verify.proofs.Standing.{gives_stays}
use Rattle.rc_verify.proofs.walk.pass.Goals as goal

pub transfer-requires-clause-small : goal.transfer-requires-clause-small
transfer-requires-clause-small c = small_here _ _ _ _ c.requires.reaches _ c.requires.here

pub returns-in-Do-clause-passes : goal.returns-in-Do-clause-passes
returns-in-Do-clause-passes c = do_passes _ _ _ _ c.requires.reaches c.in-Do.field-0 c.transfer.new.state c.transfer.result (at c.requires.here c.in-Do.is) (c.transfer.ensures c.in-Do.field-0 c.in-Do.is)

pub index-requires : goal.index-requires
index-requires c = omega (arith, c.args.thread.now.lists.ok.0, loop_there c.args.thread.now.lists.items c.in-Put.k (c.requires.reaches.thread.resolved c.args.place (Put c.in-Put.pool c.in-Put.k) (at c.requires.here c.in-Put.is)).1)

pub returns-in-Put-clause-passes : goal.returns-in-Put-clause-passes
returns-in-Put-clause-passes c = put_passes _ _ _ _ c.requires.reaches c.in-Put.pool c.in-Put.k _ c.put.new.self c.put.result (at c.requires.here c.in-Put.is) (items_here c.args.thread.now.lists.items c.in-Put.k c.index.result.now (c.requires.reaches.thread.resolved c.args.place (Put c.in-Put.pool c.in-Put.k) (at c.requires.here c.in-Put.is)).1 c.index.ensures) c.put.ensures

pub enter_lock-requires : goal.enter_lock-requires
enter_lock-requires c = free_here _ _ _ _ c.requires.reaches c.in-Lock.takes (at c.requires.here c.in-Lock.is)

pub returns-in-Lock-clause-passes : goal.returns-in-Lock-clause-passes
returns-in-Lock-clause-passes c = lock_passes _ _ _ _ c.requires.reaches c.in-Lock.takes c.enter_lock.new.self c.enter_lock.result (at c.requires.here c.in-Lock.is) c.enter_lock.ensures

pub release-requires : goal.release-requires
release-requires c = held_here _ _ _ _ c.requires.reaches c.in-EndLock.field-0 c.in-EndLock.releases (at c.requires.here c.in-EndLock.is)

pub returns-in-EndLock-clause-passes : goal.returns-in-EndLock-clause-passes
returns-in-EndLock-clause-passes c = release_passes _ _ _ _ c.requires.reaches c.in-EndLock.field-0 c.in-EndLock.releases c.release.new.self c.release.result (at c.requires.here c.in-EndLock.is) c.release.ensures

pub enter_if-requires-clause-test : goal.enter_if-requires-clause-test
enter_if-requires-clause-test c = may_test _ _ _ _ c.requires.reaches c.in-If.test _ (at c.requires.here c.in-If.is) (ap (map view_items) c.deref.ensures.value)

pub enter_if-requires-clause-few : goal.enter_if-requires-clause-few
enter_if-requires-clause-few c = room_here _ _ _ _ c.requires.reaches c.in-If.test (at c.requires.here c.in-If.is)

pub enter_if-requires-clause-small : goal.enter_if-requires-clause-small
enter_if-requires-clause-small c = small_here _ _ _ _ c.requires.reaches _ c.requires.here

pub returns-in-If-clause-passes : goal.returns-in-If-clause-passes
returns-in-If-clause-passes c = if_passes _ _ _ _ c.requires.reaches c.in-If.test _ c.enter_if.new.state c.enter_if.new.branches c.enter_if.result (at c.requires.here c.in-If.is) (ap (map view_items) c.deref.ensures.value) c.enter_if.ensures.gives c.enter_if.ensures.kept

pub begin_else-requires : goal.begin_else-requires
begin_else-requires c = else_some _ _ _ _ c.requires.reaches c.in-Else.field-0 (at c.requires.here c.in-Else.is)

pub returns-in-Else-clause-passes : goal.returns-in-Else-clause-passes
returns-in-Else-clause-passes c = else_passes _ _ _ _ c.requires.reaches c.in-Else.field-0 c.begin_else.new.state c.begin_else.new.branches (at c.requires.here c.in-Else.is) c.begin_else.ensures.state c.begin_else.ensures.kept

pub end_if-requires-clause-kept : goal.end_if-requires-clause-kept
end_if-requires-clause-kept c = end_some _ _ _ _ c.requires.reaches c.in-EndIf.field-0 (at c.requires.here c.in-EndIf.is)

pub end_if-requires-clause-of : goal.end_if-requires-clause-of
end_if-requires-clause-of c = λ s q. end_of _ _ _ _ c.requires.reaches c.in-EndIf.field-0 s (at c.requires.here c.in-EndIf.is) q

pub end_if-requires-clause-alike : goal.end_if-requires-clause-alike
end_if-requires-clause-alike c = λ s q. end_alike _ _ _ _ c.requires.reaches c.in-EndIf.field-0 s (at c.requires.here c.in-EndIf.is) q

pub returns-in-EndIf-clause-passes : goal.returns-in-EndIf-clause-passes
returns-in-EndIf-clause-passes c = end_passes _ _ _ _ c.requires.reaches c.in-EndIf.field-0 c.end_if.new.state c.end_if.new.branches c.end_if.result (at c.requires.here c.in-EndIf.is) c.end_if.ensures.gives c.end_if.ensures.rest

pub returns-in-Peek-clause-passes : goal.returns-in-Peek-clause-passes
returns-in-Peek-clause-passes c = peek_passes _ _ _ _ c.requires.reaches c.in-Peek.variable c.open_peek.new.state c.open_peek.new.peek c.open_peek.result (at c.requires.here c.in-Peek.is) c.open_peek.ensures.opens

pub arms_of-requires : goal.arms_of-requires
arms_of-requires c = case_some _ _ _ _ c.requires.reaches c.in-Case.field-0 c.in-Case.user_data (at c.requires.here c.in-Case.is)

pub enter_case-requires : goal.enter_case-requires
enter_case-requires c = case_declared _ _ _ _ c.requires.reaches c.in-Case.field-0 c.in-Case.user_data c.arms_of.result.now (at c.requires.here c.in-Case.is) c.arms_of.ensures

pub returns-in-Case-clause-passes : goal.returns-in-Case-clause-passes
returns-in-Case-clause-passes c = case_passes _ _ _ _ c.requires.reaches c.in-Case.field-0 c.in-Case.user_data c.arms_of.result.now c.enter_case.new.state c.enter_case.result (at c.requires.here c.in-Case.is) c.arms_of.ensures c.enter_case.ensures

pub arms_of-requires-in-Other : goal.arms_of-requires-in-Other
arms_of-requires-in-Other c = other_some _ _ _ _ c.requires.reaches c.in-Other.field-0 (at c.requires.here c.in-Other.is)

pub returns-in-Other-clause-passes : goal.returns-in-Other-clause-passes
returns-in-Other-clause-passes c = other_passes _ _ _ _ c.requires.reaches c.in-Other.field-0 c.arms_of-in-Other.result.now c.enter_other.new.state c.enter_other.result (at c.requires.here c.in-Other.is) c.arms_of-in-Other.ensures c.enter_other.ensures

pub arms_of-requires-in-Nothing : goal.arms_of-requires-in-Nothing
arms_of-requires-in-Nothing c = none_some _ _ _ _ c.requires.reaches c.in-Nothing.field-0 (at c.requires.here c.in-Nothing.is)

pub returns-in-Nothing-clause-passes : goal.returns-in-Nothing-clause-passes
returns-in-Nothing-clause-passes c = none_passes _ _ _ _ c.requires.reaches c.in-Nothing.field-0 c.arms_of-in-Nothing.result.now c.enter_none.new.state c.enter_none.result (at c.requires.here c.in-Nothing.is) c.arms_of-in-Nothing.ensures c.enter_none.ensures

pub end_arms-requires-clause-kept : goal.end_arms-requires-clause-kept
end_arms-requires-clause-kept c = arm_some _ _ _ _ c.requires.reaches c.in-EndArm.field-0 (at c.requires.here c.in-EndArm.is)

pub end_arms-requires-clause-of : goal.end_arms-requires-clause-of
end_arms-requires-clause-of c = arm_of _ _ _ _ c.requires.reaches c.in-EndArm.field-0 (at c.requires.here c.in-EndArm.is)

pub end_arms-requires-clause-alike : goal.end_arms-requires-clause-alike
end_arms-requires-clause-alike c = arm_alike _ _ _ _ c.requires.reaches c.in-EndArm.field-0 (at c.requires.here c.in-EndArm.is)

pub returns-in-EndArm-clause-passes : goal.returns-in-EndArm-clause-passes
returns-in-EndArm-clause-passes c = arm_end_passes _ _ _ _ c.requires.reaches c.in-EndArm.field-0 c.end_arms.new.state c.end_arms.new.peek c.end_arms.result (at c.requires.here c.in-EndArm.is) c.end_arms.ensures.gives c.end_arms.ensures.ends

pub close_peek-requires : goal.close_peek-requires
close_peek-requires c = end_peek_some _ _ _ _ c.requires.reaches c.in-EndPeek.field-0 (at c.requires.here c.in-EndPeek.is)

pub returns-in-EndPeek-clause-passes : goal.returns-in-EndPeek-clause-passes
returns-in-EndPeek-clause-passes c = end_peek_passes _ _ _ _ c.requires.reaches c.in-EndPeek.field-0 c.close_peek.new.state c.close_peek.new.peek c.close_peek.result (at c.requires.here c.in-EndPeek.is) c.close_peek.ensures.closes c.close_peek.ensures.none

pub index-requires-in-Loop : goal.index-requires-in-Loop
index-requires-in-Loop c = omega (arith, c.args.thread.now.lists.ok.0, loop_there c.args.thread.now.lists.items c.in-Loop.k (c.requires.reaches.thread.resolved c.args.place (Loop c.in-Loop.k) (at c.requires.here c.in-Loop.is)))

pub open_loop-requires-clause-few : goal.open_loop-requires-clause-few
open_loop-requires-clause-few c = loop_room _ _ _ _ c.requires.reaches c.in-Loop.k (at c.requires.here c.in-Loop.is)

pub open_loop-requires-clause-list : goal.open_loop-requires-clause-list
open_loop-requires-clause-list c = loop_list _ _ _ _ c.requires.reaches c.in-Loop.k _ (c.requires.reaches.thread.resolved c.args.place (Loop c.in-Loop.k) (at c.requires.here c.in-Loop.is)) (items_here c.args.thread.now.lists.items c.in-Loop.k c.index-in-Loop.result.now (c.requires.reaches.thread.resolved c.args.place (Loop c.in-Loop.k) (at c.requires.here c.in-Loop.is)) c.index-in-Loop.ensures)

pub returns-in-Loop-clause-passes : goal.returns-in-Loop-clause-passes
returns-in-Loop-clause-passes c = loop_passes _ _ _ _ c.requires.reaches c.in-Loop.k _ c.open_loop.new.state c.open_loop.new.loops c.open_loop.result (at c.requires.here c.in-Loop.is) (items_here c.args.thread.now.lists.items c.in-Loop.k c.index-in-Loop.result.now (c.requires.reaches.thread.resolved c.args.place (Loop c.in-Loop.k) (at c.requires.here c.in-Loop.is)) c.index-in-Loop.ensures) c.open_loop.ensures.gives c.open_loop.ensures.kept

pub index-requires-in-EndLoop : goal.index-requires-in-EndLoop
index-requires-in-EndLoop c = omega (arith, c.args.thread.now.lists.ok.0, loop_there c.args.thread.now.lists.items c.in-EndLoop.k (c.requires.reaches.thread.resolved c.args.place (EndLoop c.in-EndLoop.field-0 c.in-EndLoop.k) (at c.requires.here c.in-EndLoop.is)))

pub close_loop-requires : goal.close_loop-requires
close_loop-requires c = end_loop_some _ _ _ _ c.requires.reaches c.in-EndLoop.field-0 c.in-EndLoop.k (at c.requires.here c.in-EndLoop.is)

pub returns-in-EndLoop-clause-passes : goal.returns-in-EndLoop-clause-passes
returns-in-EndLoop-clause-passes c = end_loop_passes _ _ _ _ c.requires.reaches c.in-EndLoop.field-0 c.in-EndLoop.k _ c.close_loop.new.state c.close_loop.new.loops c.close_loop.result (at c.requires.here c.in-EndLoop.is) (items_here c.args.thread.now.lists.items c.in-EndLoop.k c.index-in-EndLoop.result.now (c.requires.reaches.thread.resolved c.args.place (EndLoop c.in-EndLoop.field-0 c.in-EndLoop.k) (at c.requires.here c.in-EndLoop.is)) c.index-in-EndLoop.ensures) c.close_loop.ensures.closes

pub leave_loop-requires-clause-kept : goal.leave_loop-requires-clause-kept
leave_loop-requires-clause-kept c = break_some _ _ _ _ c.requires.reaches c.in-Break.field-0 c.in-Break.releases c.in-Break.field-2 (at c.requires.here c.in-Break.is)

pub leave_loop-requires-clause-fits : goal.leave_loop-requires-clause-fits
leave_loop-requires-clause-fits c = may_leave _ _ _ _ c.requires.reaches c.in-Break.field-0 c.in-Break.releases c.in-Break.field-2 (at c.requires.here c.in-Break.is)

pub returns-in-Break-clause-passes : goal.returns-in-Break-clause-passes
returns-in-Break-clause-passes c = break_passes _ _ _ _ c.requires.reaches c.in-Break.field-0 c.in-Break.releases c.in-Break.field-2 (at c.requires.here c.in-Break.is) c.leave_loop.new.state c.leave_loop.new.loops c.leave_loop.result c.leave_loop.ensures.gives c.leave_loop.ensures.kept

-- ---- where a line is refused the state stays

pub returns-in-Do-clause-stays : goal.returns-in-Do-clause-stays
returns-in-Do-clause-stays c = gives_stays _ _ _ _ _ (c.transfer.ensures c.in-Do.field-0 c.in-Do.is)

pub returns-in-Put-clause-stays : goal.returns-in-Put-clause-stays
returns-in-Put-clause-stays c = gives_stays _ _ _ _ _ c.put.ensures

pub returns-in-Lock-clause-stays : goal.returns-in-Lock-clause-stays
returns-in-Lock-clause-stays c = gives_stays _ _ _ _ _ c.enter_lock.ensures

pub returns-in-EndLock-clause-stays : goal.returns-in-EndLock-clause-stays
returns-in-EndLock-clause-stays c = gives_stays _ _ _ _ _ c.release.ensures

pub returns-in-If-clause-stays : goal.returns-in-If-clause-stays
returns-in-If-clause-stays c = gives_stays _ _ _ _ _ c.enter_if.ensures.gives

pub returns-in-Loop-clause-stays : goal.returns-in-Loop-clause-stays
returns-in-Loop-clause-stays c = gives_stays _ _ _ _ _ c.open_loop.ensures.gives

pub returns-in-EndArm-clause-stays : goal.returns-in-EndArm-clause-stays
returns-in-EndArm-clause-stays c = gives_stays _ _ _ _ _ c.end_arms.ensures.gives

pub returns-in-Break-clause-stays : goal.returns-in-Break-clause-stays
returns-in-Break-clause-stays c = gives_stays _ _ _ _ _ c.leave_loop.ensures.gives

pub returns-in-EndIf-clause-stays : goal.returns-in-EndIf-clause-stays
returns-in-EndIf-clause-stays c = end_stays _ _ _ _ c.requires.reaches c.in-EndIf.field-0 c.end_if.new.state c.end_if.result (at c.requires.here c.in-EndIf.is) c.end_if.ensures.gives

pub returns-in-Case-clause-stays : goal.returns-in-Case-clause-stays
returns-in-Case-clause-stays c = arm_stays _ _ _ _ c.requires.reaches c.in-Case.field-0 c.arms_of.result.now c.enter_case.new.state c.enter_case.result _ (opens_case _ c.requires.reaches.thread.nested.each _ _ _ (at c.requires.here c.in-Case.is)) c.arms_of.ensures c.enter_case.ensures

pub returns-in-Other-clause-stays : goal.returns-in-Other-clause-stays
returns-in-Other-clause-stays c = arm_stays _ _ _ _ c.requires.reaches c.in-Other.field-0 c.arms_of-in-Other.result.now c.enter_other.new.state c.enter_other.result _ (opens_other _ c.requires.reaches.thread.nested.each _ _ (at c.requires.here c.in-Other.is)) c.arms_of-in-Other.ensures c.enter_other.ensures

pub returns-in-Nothing-clause-stays : goal.returns-in-Nothing-clause-stays
returns-in-Nothing-clause-stays c = arm_stays _ _ _ _ c.requires.reaches c.in-Nothing.field-0 c.arms_of-in-Nothing.result.now c.enter_none.new.state c.enter_none.result _ (opens_nothing _ c.requires.reaches.thread.nested.each _ _ (at c.requires.here c.in-Nothing.is)) c.arms_of-in-Nothing.ensures c.enter_none.ensures
