use Rattle.std.proofs.Common.{◌≡◌, ◌+◌, ◌∙◌, arith, drop, sym}
use Rattle.rc_world.specs.Trace.{trace_from}
use Rattle.rc_report.proofs.Pieces.{memory_stops, write_stops}
use Rattle.rc_report.proofs.Traces.{end_here, event_here, so_far_began, so_far_count, so_far_end, so_far_fails, so_far_more, so_far_world, so_far_written}
use Rattle.rc_report.proofs.stepping.write_events.Goals as goal

pub returns-in_err-event-clause-text : goal.returns-in_err-event-clause-text
returns-in_err-event-clause-text g c =
    memory_stops _ _ _ c.from_residual.result c.from_residual.ensures.1
    (so_far_began _ _ _ _ _ c.loop-index.count c.loop-index.invariant.so_far)

pub returns-in_err-write_event_line-in-Event-clause-text : goal.returns-in_err-write_event_line-in-Event-clause-text
returns-in_err-write_event_line-in-Event-clause-text g c =
    let program : c.program.result.now ≡ c.args.world.now.program = c.program.ensures ∙ c.in_ok-event.ensures.program ∙ c.loop-index.invariant.program in
    let began = rw program at c.in_err-write_event_line-in-Event.ensures in
    let here = event_here c.loop-index.world c.make_item.new.world c.args.items.now c.loop-index.index _ c.in_ok-event.field-0 c.in-Event.event c.loop-index-test.true c.in-Event.is c.in_ok-event.ensures.made in
    write_stops _ _ _ _ c.from_residual-in_err-write_event_line-in-Event.result c.from_residual-in_err-write_event_line-in-Event.ensures.1 began.0
    (so_far_fails c.args.world.now.program _ _ _ _ _ (trace_from c.make_item.new.world (c.loop-index.index + 1 + 1) (drop (c.loop-index.index + 1) c.args.items.now)) c.loop-index.count c.in-Event.event _ c.loop-index.invariant.so_far here began.1)

pub loop-index-preserved : goal.loop-index-preserved
loop-index-preserved g c =
    let program : c.program.result.now ≡ c.args.world.now.program = c.program.ensures ∙ c.in_ok-event.ensures.program ∙ c.loop-index.invariant.program in
    let written = rw program at c.in_ok-write_event_line-in-Event.ensures in
    let here = event_here c.loop-index.world c.make_item.new.world c.args.items.now c.loop-index.index _ c.in_ok-event.field-0 c.in-Event.event c.loop-index-test.true c.in-Event.is c.in_ok-event.ensures.made in
    record {
      program = c.in_ok-event.ensures.program ∙ c.loop-index.invariant.program;
      made = omega (arith, c.in_ok-event.ensures.grows, c.loop-index.invariant.made);
      count = omega (arith, c.loop-index.invariant.count);
      so_far = so_far_more c.args.world.now.program _ _ _ _ _ (trace_from c.make_item.new.world (c.loop-index.index + 1 + 1) (drop (c.loop-index.index + 1) c.args.items.now)) c.loop-index.count c.in-Event.event c.loop-index.invariant.so_far here written;
    }

pub returns-in-Last-clause-text : goal.returns-in-Last-clause-text
returns-in-Last-clause-text g c =
    let here = end_here c.loop-index.world c.make_item.new.world c.args.items.now c.loop-index.index _ c.in_ok-event.field-0 c.in-Last.end c.loop-index-test.true c.in-Last.is c.in_ok-event.ensures.made in
    so_far_written _ _ _ _ _ c.loop-index.count c.loop-index.invariant.so_far here.0

pub returns-in-Last-clause-count : goal.returns-in-Last-clause-count
returns-in-Last-clause-count g c =
    let here = end_here c.loop-index.world c.make_item.new.world c.args.items.now c.loop-index.index _ c.in_ok-event.field-0 c.in-Last.end c.loop-index-test.true c.in-Last.is c.in_ok-event.ensures.made in
    so_far_count _ _ _ _ _ c.loop-index.count c.loop-index.invariant.so_far here.0

pub returns-in-Last-clause-end : goal.returns-in-Last-clause-end
returns-in-Last-clause-end g c =
    let here = end_here c.loop-index.world c.make_item.new.world c.args.items.now c.loop-index.index _ c.in_ok-event.field-0 c.in-Last.end c.loop-index-test.true c.in-Last.is c.in_ok-event.ensures.made in
    sym here.1 ∙ so_far_end _ _ _ _ _ c.loop-index.count c.loop-index.invariant.so_far

pub returns-in-Last-clause-world : goal.returns-in-Last-clause-world
returns-in-Last-clause-world g c =
    let here = end_here c.loop-index.world c.make_item.new.world c.args.items.now c.loop-index.index _ c.in_ok-event.field-0 c.in-Last.end c.loop-index-test.true c.in-Last.is c.in_ok-event.ensures.made in
    sym here.2 ∙ so_far_world _ _ _ _ _ c.loop-index.count c.loop-index.invariant.so_far
