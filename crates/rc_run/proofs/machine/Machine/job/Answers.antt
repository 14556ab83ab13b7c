use Rattle.std.proofs.Common.{sym, subst}
use Rattle.rc_run.specs.Jobs.{Job}
use Rattle.rc_run.specs.Lives.{IsJobOf}
use Rattle.rc_run.specs.Machine.{pending_of, world_of}
use Rattle.rc_run.proofs.Completes.{view_at}
use Rattle.rc_run.proofs.Lending.{fed, fed_of, starved_of, starves}
use Rattle.rc_run.proofs.machine.Machine.job.Goals as goal

pub new-requires : goal.new-requires
new-requires c =
    let m = c.args.self.now in
    let p = c.index.result.now in
    let here = view_at m.pending.items c.args.place p c.requires.place c.index.ensures in
    fed (world_of m) c.requires.calm c.args.place (pending_of p) here c.in-Ok.bytes.items (c.in-Ok.ensures (pending_of p) here)

pub returns-in-Ok : goal.returns-in-Ok
returns-in-Ok c q at =
    let m = c.args.self.now in
    let p = c.index.result.now in
    let here = view_at m.pending.items c.args.place p c.requires.place c.index.ensures in
    subst (λ (j : Job). IsJobOf (world_of m) q j) (sym c.new.ensures)
    (fed_of (world_of m) c.requires.calm c.args.place (pending_of p) here c.in-Ok.bytes.items (c.in-Ok.ensures (pending_of p) here) q at)

pub new-requires-in-Write-2 : goal.new-requires-in-Write-2
new-requires-in-Write-2 c =
    let m = c.args.self.now in
    let p = c.index.result.now in
    let here = view_at m.pending.items c.args.place p c.requires.place c.index.ensures in
    starves (world_of m) c.requires.calm c.args.place (pending_of p) here c.in-Write.is c.new-in-Write.result.items c.new-in-Write.ensures.items

pub returns-in-Write : goal.returns-in-Write
returns-in-Write c q at =
    let m = c.args.self.now in
    let p = c.index.result.now in
    let here = view_at m.pending.items c.args.place p c.requires.place c.index.ensures in
    subst (λ (j : Job). IsJobOf (world_of m) q j) (sym c.new-in-Write-2.ensures)
    (starved_of (world_of m) c.requires.calm c.args.place (pending_of p) here c.in-Write.is c.new-in-Write.result.items c.new-in-Write.ensures.items q at)
