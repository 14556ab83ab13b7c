-- What the calls that change a world answer, and what they leave.
use Rattle.std.specs.Prelude.{◌≡◌, Result, Ok, Err, Option, Some, None, true, false}
use Rattle.std.specs.declared.alloc.AllocError.{AllocError}
use Rattle.rc_world.specs.declared.event.Event.{Event}
use Rattle.rc_world.specs.declared.event.Item.{Item}
use Rattle.rc_world.specs.declared.world.Stop.{Stop}
use Rattle.rc_world.specs.declared.world.Stop.TheVariants.{Fault, OutOfMemory}
use Rattle.rc_world.specs.Faults.{fault_of}
use Rattle.rc_world.specs.Harm.{does_harm}
use Rattle.rc_world.specs.Items.{item_step}
use Rattle.rc_world.specs.Machine.{World}

-- The world without a fault makes exactly the step that the item names; a fault is the world's least. A refusal leaves
-- the world as it was.
abbrev pub Applies : World → Item → World → Result Event Stop → Type 0
Applies old item new (Ok e) = (fault_of old ≡ None) × (item_step old item ≡ Some (e, new))
Applies old item new (Err (Fault f)) = (fault_of old ≡ Some f) × (new ≡ old)
Applies old item new (Err OutOfMemory) = (fault_of old ≡ None) × (new ≡ old)

-- The same step, or nothing where that step does harm itself, whatever faults other threads have. A refusal leaves the
-- world as it was.
abbrev pub Advances : World → Item → World → Result (Option Event) AllocError → Type 0
Advances old item new (Ok (Some e)) = (does_harm old item ≡ false) × (item_step old item ≡ Some (e, new))
Advances old item new (Ok None) = (does_harm old item ≡ true) × (new ≡ old)
Advances old item new (Err refused) = (does_harm old item ≡ false) × (new ≡ old)
