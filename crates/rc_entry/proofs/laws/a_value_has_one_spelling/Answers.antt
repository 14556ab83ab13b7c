use Rattle.rc_entry.proofs.OneSpelling.{same-entry, same-cqe}
use Rattle.rc_entry.proofs.laws.a_value_has_one_spelling.Goals as goal

pub returns-clause-entries : goal.returns-clause-entries
returns-clause-entries c = same-entry

pub returns-clause-completions : goal.returns-clause-completions
returns-clause-completions c = same-cqe
