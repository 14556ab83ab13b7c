use Rattle.rc_runs.proofs.why.thread_reason.Goals as goal

pub returns-in-TakenLock : goal.returns-in-TakenLock
returns-in-TakenLock c = c.lock_reason.ensures c.args.take
