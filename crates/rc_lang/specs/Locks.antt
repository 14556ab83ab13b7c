-- Some of a program's two locks: of the submission side and of the completion side.
use Rattle.std.specs.Prelude.{Bool, true, false, ◌||◌, ◌&&◌, not}
use Rattle.rc_lang.specs.declared.lines.Locks.{Locks}

abbrev pub no_lock : Locks
no_lock = record { sq = false; cq = false }

abbrev pub both_locks : Locks
both_locks = record { sq = true; cq = true }

abbrev pub is_some_lock : Locks → Bool
is_some_lock l = l.sq || l.cq

-- these locks and those, and these without those
abbrev pub with_locks : Locks → Locks → Locks
with_locks l m = record { sq = l.sq || m.sq; cq = l.cq || m.cq }

abbrev pub without_locks : Locks → Locks → Locks
without_locks l m = record { sq = l.sq && not m.sq; cq = l.cq && not m.cq }
