-- What is listed and what is enabled is the same.
use Rattle.std.specs.Prelude.{◌≡◌, List, Option, Some, None, ℤ, pos, negsuc}
use Rattle.rc_world.specs.declared.event.Item.{Item}
use Rattle.rc_world.specs.declared.event.Item.TheVariants.{Thread, Kernel}
use Rattle.rc_world.specs.Items.{is_enabled}
use Rattle.rc_world.specs.Machine.{World}
use Rattle.rc_runs.specs.declared.choices.Choice.{Choice}
use Rattle.rc_runs.specs.Choices.{choices_in, is_listed}

abbrev pub IsCount : ℤ → Type 0
IsCount (pos n) = Unit {0}
IsCount (negsuc n) = ⊥

abbrev pub IsCountIfAny : Option ℤ → Type 0
IsCountIfAny None = Unit {0}
IsCountIfAny (Some r) = IsCount r

-- The item answers no errno, and fills with 0.
abbrev pub HasPlainAnswer : Item → Type 0
HasPlainAnswer (Thread i take) = IsCountIfAny take
HasPlainAnswer (Kernel u res fill) = IsCount res × (fill ≡ 0)

-- Such an item is enabled exactly where one of these choices stands for it.
abbrev pub AreEnabled : World → List Choice → Type 0
AreEnabled w choices = (item : Item) → HasPlainAnswer item → is_enabled w item ≡ is_listed choices item

-- Of each world that holds of what may be chosen in it.
abbrev pub ListedIsEnabled : Type 0
ListedIsEnabled = (w : World) → AreEnabled w (choices_in w)
