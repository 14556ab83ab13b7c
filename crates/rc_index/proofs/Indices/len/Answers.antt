use Rattle.rc_index.proofs.Counters.{law, len_is}
use Rattle.rc_index.proofs.Indices.len.Goals as goal

pub returns-clause-value : goal.returns-clause-value
returns-clause-value c = len_is _ _ _ _ c.self.invariant c.self.view_is

pub returns-clause-law : goal.returns-clause-law
returns-clause-law c = law _ _ _ _ c.self.invariant c.self.view_is
