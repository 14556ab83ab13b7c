use Rattle.std.proofs.Common.{[], ◌∷◌, ◌++◌}
use Rattle.std.proofs.lemmas.List.Elements.{All-push, All-same}
use Rattle.rc_follow.specs.RightsKnown.{IsHeld}
use Rattle.rc_follow.proofs.rights.know.Goals as goal

pub returns-in_err-push : goal.returns-in_err-push
returns-in_err-push c P a h = All-same (IsHeld P) c.push.new.self.items c.args.known.now.items c.in_err-push.ensures.items a

pub returns : goal.returns
returns c P a h = All-same (IsHeld P) c.push.new.self.items (c.args.known.now.items ++ c.args.held ∷ []) c.in_ok-push.ensures.items (All-push (IsHeld P) c.args.known.now.items c.args.held a h)
