use Rattle.std.proofs.Common.{◌≤◌, ◌≡◌, length, ap, sym, subst, ◌∙◌}
use Rattle.rc_world.proofs.Bytes.{as_long, written}
use Rattle.rc_world.specs.Parts.{refilled}
use Rattle.rc_world.proofs.world.bytes.Bytes.refill.Goals as goal

pub returns : goal.returns
returns c =
    let b = c.self.inside in
    let long : length c.args.self.now ≡ b.len = ap length (sym c.self.view_is) ∙ as_long b.len b.rest b.first.items c.self.invariant in
    let le : c.args.count ≤ b.len = subst (λ n. c.args.count ≤ n) long c.requires in
    written b.len c.args.count c.args.fill b.rest b.first.items c.grow.new.first.items c.fill_first.new.bytes.items le c.in_ok-grow.ensures c.fill_first.ensures
    ∙ ap (refilled c.args.count c.args.fill) c.self.view_is
