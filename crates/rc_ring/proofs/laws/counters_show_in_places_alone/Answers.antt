use Rattle.rc_ring.proofs.Alike.{stay_alike, answer_alike, preps_alike, runs_alike}
use Rattle.rc_ring.proofs.laws.counters_show_in_places_alone.Goals as goal

pub returns-clause-runs : goal.returns-clause-runs
returns-clause-runs c = runs_alike

pub returns-clause-answers : goal.returns-clause-answers
returns-clause-answers c = answer_alike

pub returns-clause-stays : goal.returns-clause-stays
returns-clause-stays c = stay_alike

pub returns-clause-preps : goal.returns-clause-preps
returns-clause-preps c = preps_alike
