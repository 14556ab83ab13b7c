-- What may be done next in a world, as it is listed for a schedule.
use Rattle.std.specs.Prelude.{ℕ, Bool, true, false, ◌&&◌, if◌then◌else◌, zero, suc, List, [], ◌++◌, length, Option, Some, None, nat_eq, nat_le, option_to_list, slice_get, ℤ, pos, negsuc}
use Rattle.std.specs.List.{list_any}
use Rattle.rc_lang.specs.declared.lines.Op.TheVariants as op
use Rattle.rc_lang.specs.declared.lines.Stmt.{Stmt}
use Rattle.rc_lang.specs.declared.lines.Stmt.TheVariants as stmt
use Rattle.rc_lang.specs.declared.lines.Test.TheVariants as test
use Rattle.rc_lang.specs.Requests.{largest}
use Rattle.rc_world.specs.declared.controls.Next.{Next}
use Rattle.rc_world.specs.declared.controls.Next.TheVariants.{Ready, TakenLock, Ended}
use Rattle.rc_world.specs.declared.event.Item.{Item}
use Rattle.rc_world.specs.declared.event.Item.TheVariants.{Thread, Kernel}
use Rattle.rc_world.specs.Items.{next_of, pending_place}
use Rattle.rc_world.specs.Machine.{Pending, World}
use Rattle.rc_runs.specs.declared.choices.Choice.{Choice}
use Rattle.rc_runs.specs.declared.choices.Choice.TheVariants.{Step, Take, Complete}

-- The largest answer that an item may give a statement, if it may give one: a submit takes up to what is queued, and an
-- `if any` goes to its second branch by 0 and into its first by 1.
abbrev pub most_answer : World → Stmt → Option ℕ
most_answer w (stmt.Do (op.Submit x)) = Some (length w.queued)
most_answer w (stmt.Do (op.SubmitAndWait x n)) = Some (length w.queued)
most_answer w (stmt.If test.Any) = Some 1
most_answer w _ = None

-- the choice of a thread that has this next
abbrev pub choice_up_to : ℕ → Option ℕ → Choice
choice_up_to i None = Step i
choice_up_to i (Some most) = Take i most

abbrev pub choice_by : World → ℕ → Next → Option Choice
choice_by w i (Ready l) = Some (choice_up_to i (most_answer w l.stmt))
choice_by w i (TakenLock wanted) = None
choice_by w i Ended = None

abbrev pub thread_choice : World → ℕ → Option Choice
thread_choice w i = choice_by w i (next_of w.program w.controls i)

-- the choice of the pending request at place k: of several with one user data the first has one
abbrev pub is_place : ℕ → Option ℕ → Bool
is_place k None = false
is_place k (Some j) = nat_eq j k

abbrev pub completion_choice : World → ℕ → Option Pending → Option Choice
completion_choice w k None = None
completion_choice w k (Some p) =
    if is_place k (pending_place w p.request.user_data) then Some (Complete p.request.user_data (largest p.request.len p.request.kind)) else None

abbrev pub pending_choice : World → ℕ → Option Choice
pending_choice w k = completion_choice w k (slice_get w.pending k)

-- what f gives for 0 to n - 1, where it gives something
abbrev pub choices_below : ℕ → (ℕ → Option Choice) → List Choice
choices_below zero f = []
choices_below (suc n) f = choices_below n f ++ option_to_list (f n)

-- What may be chosen in a world, faults aside: of the threads, and then of the pending requests.
abbrev pub choices_in : World → List Choice
choices_in w = choices_below (length w.program.threads) (thread_choice w) ++ choices_below (length w.pending) (pending_choice w)

-- ---- which items a choice stands for

-- a result from 0 to the most
abbrev pub is_within : ℕ → ℤ → Bool
is_within most (pos n) = nat_le n most
is_within most (negsuc n) = false

abbrev pub takes_within : ℕ → Option ℤ → Bool
takes_within most None = true
takes_within most (Some r) = is_within most r

abbrev pub is_unsaid : Option ℤ → Bool
is_unsaid None = true
is_unsaid (Some r) = false

abbrev pub stands_for : Choice → Item → Bool
stands_for (Step i) (Thread j take) = nat_eq i j && is_unsaid take
stands_for (Step i) (Kernel u res fill) = false
stands_for (Take i most) (Thread j take) = nat_eq i j && takes_within most take
stands_for (Take i most) (Kernel u res fill) = false
stands_for (Complete u most) (Thread j take) = false
stands_for (Complete u most) (Kernel v res fill) = nat_eq u v && is_within most res

-- An item is listed where one of the choices stands for it.
abbrev pub is_listed : List Choice → Item → Bool
is_listed choices item = list_any (λ choice. stands_for choice item) choices
