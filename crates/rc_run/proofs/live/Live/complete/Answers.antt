use Rattle.std.proofs.Common.{◌<◌, ℤ, length, w32, to_z, of_z, rules, sym, ap, subst, ◌∙◌}
use Rattle.std.specs.Arc.{arc_value}
use Rattle.std.proofs.lemmas.Int.{to_z-of_z}
use Rattle.rc_run.specs.Calm.{IsCalm}
use Rattle.rc_run.specs.LiveParts.{view_live}
use Rattle.rc_run.specs.Lives.{IsOut, Live}
use Rattle.rc_run.specs.Machine.{completed_by, world_of}
use Rattle.rc_run.proofs.Posting.{posted_leads, room}
use Rattle.rc_run.proofs.live.Live.complete.Goals as goal

pub complete-event-requires-clause-ring : goal.complete-event-requires-clause-ring
complete-event-requires-clause-ring c =
    let s = view_live c.self.inside in
    let calm = subst (λ (l : Live). IsCalm l.world) (sym c.self.view_is) c.look.ensures in
    let out = subst (λ (l : Live). IsOut l c.args.job.request c.args.place c.args.number) (sym c.self.view_is) c.requires.out in
    subst (λ n. length c.self.inside.machine.ring.completions < n) (sym c.self.invariant.sized.completion_entries)
    (room s calm c.args.place c.args.number c.args.job c.into_parts-bytes.ensures.job out)

pub invariant_of-self : goal.invariant_of-self
invariant_of-self c =
    let a = c.self.inside in
    let w = world_of a.machine in
    let calm = subst (λ (l : Live). IsCalm l.world) (sym c.self.view_is) c.look.ensures in
    let out = subst (λ (l : Live). IsOut l c.args.job.request c.args.place c.args.number) (sym c.self.view_is) c.requires.out in
    let bytes = c.deref.ensures.value ∙ c.into_parts-bytes.ensures.bytes in
    let read = to_z-of_z w32 c.args.res c.ranges.res in
    let step = ap (λ (z : ℤ). completed_by w c.args.place z c.args.job.bytes) (sym read) ∙ ap (completed_by w c.args.place (to_z w32 (of_z w32 c.args.res))) (sym bytes) ∙ c.complete-event.ensures.step in
    record {
      leads = posted_leads (view_live a) calm c.args.place c.args.number c.args.job c.into_parts-bytes.ensures.job out
          (arc_value a.machine.admitted) (arc_value c.complete-event.new.self.admitted) (world_of c.complete-event.new.self) a.history.items c.push_reserved.new.self.items c.args.res c.complete-event.result
          c.self.invariant.leads step (ap arc_value c.complete-event.ensures.admitted) (search rules);
      sized = c.complete-event.ensures.sized;
      counted = search rules;
      room = search rules;
      space = search rules;
    }
