use Rattle.rc_runs.proofs.Sames.{like_world}
use Rattle.rc_runs.proofs.stuck.same.is_same.Goals as goal

pub returns-then-has_same_parts : goal.returns-then-has_same_parts
returns-then-has_same_parts c = λ same. like_world c.args.kept.now c.args.a.now c.args.b.now c.requires (c.has_same_parts.ensures c.if-has_same_parts.true) (c.are_same_threads.ensures same)
