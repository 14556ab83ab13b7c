use Rattle.rc_world.specs.Machine.{start_world}
use Rattle.rc_admit.specs.Worlds.{CallsUnderLock, DataIsFresh, EachReapsOne, EntrySuits, FindsEntry, HasRoom, NoKernelClash, NoneReapedTwice, NoReadOfFilling, NoThreadRace, NothingPutTwice, NoWriteOfPending, StaysWithinBuffers}
use Rattle.rc_admit.proofs.Plain.{agree_without_gets}
use Rattle.rc_admit.proofs.Reaping.{each_reaps_one, none_reaped_twice}
use Rattle.rc_admit.proofs.Safe.{completions_agree}
use Rattle.rc_admit.proofs.Flights.{one_of_each, run_tidy, start_tidy}
use Rattle.rc_admit.proofs.Worlds.{calls_under_lock, data_is_fresh, entry_suits, finds_entry, has_room, no_kernel_clash, no_read_of_filling, no_thread_race, nothing_put_twice, no_write_of_pending, of_safe, stays_within_buffers}
use Rattle.rc_admit.proofs.laws.safe_worlds.Goals as goal

pub returns-clause-no_write_of_pending : goal.returns-clause-no_write_of_pending
returns-clause-no_write_of_pending c = of_safe NoWriteOfPending (λ w none. no_write_of_pending w none)

pub returns-clause-no_read_of_filling : goal.returns-clause-no_read_of_filling
returns-clause-no_read_of_filling c = of_safe NoReadOfFilling (λ w none. no_read_of_filling w none)

pub returns-clause-no_kernel_clash : goal.returns-clause-no_kernel_clash
returns-clause-no_kernel_clash c = of_safe NoKernelClash (λ w none. no_kernel_clash w none)

pub returns-clause-no_thread_race : goal.returns-clause-no_thread_race
returns-clause-no_thread_race c = of_safe NoThreadRace (λ w none. no_thread_race w none)

pub returns-clause-within_buffers : goal.returns-clause-within_buffers
returns-clause-within_buffers c = of_safe StaysWithinBuffers (λ w none. stays_within_buffers w none)

pub returns-clause-under_lock : goal.returns-clause-under_lock
returns-clause-under_lock c = of_safe CallsUnderLock (λ w none. calls_under_lock w none)

pub returns-clause-finds_entry : goal.returns-clause-finds_entry
returns-clause-finds_entry c = of_safe FindsEntry (λ w none. finds_entry w none)

pub returns-clause-entry_suits : goal.returns-clause-entry_suits
returns-clause-entry_suits c = of_safe EntrySuits (λ w none. entry_suits w none)

pub returns-clause-has_room : goal.returns-clause-has_room
returns-clause-has_room c = of_safe HasRoom (λ w none. has_room w none)

pub returns-clause-data_is_fresh : goal.returns-clause-data_is_fresh
returns-clause-data_is_fresh c = of_safe DataIsFresh (λ w none. data_is_fresh w none)

pub returns-clause-reaps_one : goal.returns-clause-reaps_one
returns-clause-reaps_one c = of_safe EachReapsOne (λ w none. each_reaps_one w none)

pub returns-clause-none_twice : goal.returns-clause-none_twice
returns-clause-none_twice c = of_safe NoneReapedTwice (λ w none. none_reaped_twice w none)

pub returns-clause-put_once : goal.returns-clause-put_once
returns-clause-put_once c = of_safe NothingPutTwice (λ w none. nothing_put_twice w none)

pub returns-clause-data_is_one : goal.returns-clause-data_is_one
returns-clause-data_is_one c P safe events w r = one_of_each w (run_tidy events (start_world P) w (start_tidy P) r)

pub returns-clause-completions_agree : goal.returns-clause-completions_agree
returns-clause-completions_agree c = completions_agree

pub returns-clause-agree_without_gets : goal.returns-clause-agree_without_gets
returns-clause-agree_without_gets c = agree_without_gets
