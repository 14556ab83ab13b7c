use Rattle.std.proofs.Common.{List, ◌∷◌, [], ◌++◌, ◌∙◌, ap}
use Rattle.rc_follow.specs.Ways.{Way, start_way}
use Rattle.rc_follow.specs.Followed.{start_noted}
use Rattle.rc_follow.proofs.Followed.{first_ways, has_one}
use Rattle.rc_follow.proofs.follower.Follower.begin.Goals as goal

pub returns-clause-follows : goal.returns-clause-follows
returns-clause-follows c = record {
  some = has_one c.in_ok-start.start c.push.new.self.items (c.in_ok-push.ensures.items ∙ ap (λ (ws : List Way). ws ++ c.in_ok-start.start ∷ []) c.clear.ensures.items);
  noted = c.in_ok-self-inside.ensures ∙ ap start_noted c.program-program.ensures;
  ways = first_ways c.self.inside.rights c.in_ok-start.start c.push.new.self.items (c.in_ok-start.ensures ∙ ap start_way c.program-program.ensures) (c.in_ok-push.ensures.items ∙ ap (λ (ws : List Way). ws ++ c.in_ok-start.start ∷ []) c.clear.ensures.items);
}
