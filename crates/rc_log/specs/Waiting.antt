-- What is kept of a log between two lines.
use Rattle.std.specs.Prelude.{ℕ, ◌≡◌, ◌+◌, ◌-◌, ◌<◌, Bool, true, false, List, length, take, drop, Option, Result, Ok, Err}
use Rattle.std.specs.Io.KnownBytes.{IsAtEnd, Keeps, prepend_known}
use Rattle.rc_log.specs.declared.pending.Pending.{Pending}
use Rattle.rc_log.specs.declared.pending.Seen.{Seen}
use Rattle.rc_log.specs.declared.pending.Seen.TheVariants.{Line}
use Rattle.rc_log.specs.declared.reader.LogFault.{LogFault}
use Rattle.rc_log.specs.declared.reader.LogFault.TheVariants.{TooLong}
use Rattle.rc_log.specs.declared.reader.LogReader.{LogReader}

-- The bytes that wait, and the line that was given last.
abbrev pub waiting : Pending → List ℕ
waiting p = drop p.at p.bytes.items

abbrev pub given : Pending → List ℕ
given p = take (p.end - p.start) (drop p.start p.bytes.items)

-- A line that was seen is given, and else the same bytes wait.
abbrev pub Gave : Pending → Pending → Seen → Type 0
Gave old new (Line n) = (given new ≡ take n (waiting old)) × (waiting new ≡ drop (n + 1) (waiting old))
Gave old new _ = waiting new ≡ waiting old

-- The bytes that a reader has left, where they are known: those that wait, and those not read.
abbrev pub left : {R : Type 0} → (R → Option (List ℕ)) → LogReader R → Option (List ℕ)
left remaining r = prepend_known (waiting r.pending) (remaining r.reader)

abbrev pub is_too_long : LogFault → Bool
is_too_long TooLong = true
is_too_long _ = false

-- Some bytes more wait, and those that are left are the same; or those that wait are all.
abbrev pub ReadsMore : {R : Type 0} → (R → Option (List ℕ)) → LogReader R → LogReader R → Result Bool LogFault → Type 0
ReadsMore remaining old new (Ok more) =
    Keeps (left remaining old) (left remaining new)
    × (more ≡ true → length (waiting old.pending) < length (waiting new.pending))
    × (more ≡ false → (waiting new.pending ≡ waiting old.pending) × IsAtEnd (remaining new.reader))
ReadsMore remaining old new (Err e) = is_too_long e ≡ false
