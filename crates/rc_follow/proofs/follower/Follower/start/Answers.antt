use Rattle.std.proofs.Common.{List, ◌∷◌, [], ◌++◌, ◌∙◌, ap, sym}
use Rattle.rc_follow.specs.Ways.{Way, start_way}
use Rattle.rc_follow.specs.Followed.{start_noted}
use Rattle.rc_follow.proofs.Followed.{first_ways, has_one}
use Rattle.rc_follow.proofs.follower.Follower.start.Goals as goal

pub returns-clause-follows : goal.returns-clause-follows
returns-clause-follows c = record {
  some = has_one c.in_ok-start.field-0 c.push.new.self.items (c.in_ok-push.ensures.items ∙ ap (λ (ws : List Way). ws ++ c.in_ok-start.field-0 ∷ []) c.new-worlds.ensures.items);
  noted = c.in_ok-start-2.ensures ∙ ap start_noted (sym c.new-4.ensures);
  ways = first_ways c.new-4.result c.in_ok-start.field-0 c.push.new.self.items (c.in_ok-start.ensures ∙ ap start_way (sym c.new-4.ensures)) (c.in_ok-push.ensures.items ∙ ap (λ (ws : List Way). ws ++ c.in_ok-start.field-0 ∷ []) c.new-worlds.ensures.items);
}
