-- What holds of each world of a run of a program that is safe.
use Rattle.std.proofs.Common.{◌<◌, List, subst}
use Rattle.rc_admit.specs.Worlds.{CallsUnderLock, DataIsFresh, DataIsOne, EntrySuits, HasRoom, NoKernelClash, OfSafeWorlds}
use Rattle.rc_lang.specs.Kept.{IsProgram}
use Rattle.rc_world.specs.declared.event.Event.{Event}
use Rattle.rc_world.specs.Laws.{NoDeadlock}
use Rattle.rc_world.specs.Machine.{World, start_world}
use Rattle.rc_world.specs.Runs.{IsRun, IsSafe}
use Rattle.rc_world.proofs.LawGoes.{no_harm_hides}
use Rattle.rc_world.proofs.LawRuns.{run_sound, sound_at_start}
use Rattle.rc_run.specs.Calm.{IsCalm}
use Rattle.rc_run.proofs.LockWaits.{holders_go}
use Rattle.rc_run.proofs.Orders.{orderly_in_order, orderly_plain, run_orderly, start_orderly}

pub calm : (events : List Event) (w : World) → IsProgram w.program → IsSafe w.program → IsRun (start_world w.program) events w
    → OfSafeWorlds CallsUnderLock → OfSafeWorlds EntrySuits → OfSafeWorlds HasRoom → OfSafeWorlds DataIsFresh → OfSafeWorlds DataIsOne → OfSafeWorlds NoKernelClash → NoDeadlock → IsCalm w
calm events w made safe run lock suits room fresh one clash deadlock =
    let P = w.program in
    let none = safe events w run in
    let harm = no_harm_hides P events w made run none in
    let sound = run_sound P events (start_world P) w (sound_at_start P made) run in
    let orderly = run_orderly events (start_world P) w (start_orderly P) run in
    record {
      kept = sound.kept;
      no_fault = none;
      goes_on = λ i lt. harm.0 i (subst (λ n. i < n) sound.rest.as_many lt);
      completes = harm.1;
      under_lock = lock P safe events w run;
      entry_suits = suits P safe events w run;
      has_room = room P safe events w run;
      data_is_fresh = fresh P safe events w run;
      data_is_one = one P safe events w run;
      plain = orderly_plain w orderly;
      in_order = orderly_in_order w orderly;
      no_clash = clash P safe events w run;
      holders_go = holders_go deadlock events w made run none;
    }
