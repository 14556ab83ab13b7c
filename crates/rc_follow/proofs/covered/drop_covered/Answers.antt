use Rattle.std.specs.Prelude.{◌-◌, Contains}
use Rattle.std.proofs.lemmas.List.Elements.{All-contains_itself}
use Rattle.rc_follow.proofs.Added.{all_without}
use Rattle.rc_follow.proofs.covered.drop_covered.Goals as goal

pub loop-at-init : goal.loop-at-init
loop-at-init c = All-contains_itself c.args.worlds.now.items

pub loop-at-preserved-in-Continue-1 : goal.loop-at-preserved-in-Continue-1
loop-at-preserved-in-Continue-1 c =
    all_without (Contains c.args.worlds.now.items) c.loop-at.worlds.items c.remove-covered.new.self.items (c.loop-at.at - 1) c.remove-covered.ensures.items c.loop-at.invariant
