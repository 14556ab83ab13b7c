use Rattle.std.proofs.Common.{◌<◌, ◌≡◌, ℕ, List, length, slice_set, ap, sym, subst, ◌∙◌}
use Rattle.rc_world.proofs.Bytes.{as_long, stored}
use Rattle.rc_world.proofs.world.bytes.Bytes.store.Goals as goal

pub returns : goal.returns
returns c =
    let b = c.self.inside in
    let long : length c.args.self.now ≡ b.len = ap length (sym c.self.view_is) ∙ as_long b.len b.rest b.first.items c.self.invariant in
    let lt : c.args.i < b.len = subst (λ n. c.args.i < n) long c.requires in
    stored b.len c.args.i b.rest c.args.byte b.first.items c.grow.new.first.items lt c.in_ok-grow.ensures
    ∙ ap (λ (xs : List ℕ). slice_set xs c.args.i c.args.byte) c.self.view_is
