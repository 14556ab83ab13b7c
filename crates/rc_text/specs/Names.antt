-- The names of a program's parts, as they are printed.
use Rattle.std.specs.Prelude.{ℕ, cond, List, [], codes, Option, Some, None, slice_get}
use Rattle.rc_lang.specs.declared.lines.Locks.{Locks}
use Rattle.rc_lang.specs.Program.{Buffer, Program, Thread}

-- the name of a thread
abbrev pub name_in : Option Thread → List ℕ
name_in None = []
name_in (Some thread) = thread.name

abbrev pub thread_name : Program → ℕ → List ℕ
thread_name program i = name_in (slice_get program.threads i)

-- the name of a buffer
abbrev pub name_of_buffer : Option Buffer → List ℕ
name_of_buffer None = []
name_of_buffer (Some buffer) = buffer.name

abbrev pub buffer_name : Program → ℕ → List ℕ
buffer_name program b = name_of_buffer (slice_get program.buffers b)

-- the name of a pool
abbrev pub name_of_pool : Option (List ℕ) → List ℕ
name_of_pool None = []
name_of_pool (Some name) = name

abbrev pub pool_name : Program → ℕ → List ℕ
pool_name program n = name_of_pool (slice_get program.pools n)

-- the side of some locks, after a blank, and nothing of both
abbrev pub side_text : Locks → List ℕ
side_text l = cond l.sq (cond l.cq [] (codes " sq")) (cond l.cq (codes " cq") [])
