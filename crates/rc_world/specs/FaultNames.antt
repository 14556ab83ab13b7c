-- The numbers and the names of faults, as they are printed.
use Rattle.std.specs.Prelude.{ℕ, List, codes}
use Rattle.rc_world.specs.declared.fault.FaultKind.{FaultKind}
use Rattle.rc_world.specs.declared.fault.FaultKind.TheVariants.{WriteOfPending, ReadOfFilling, KernelClash, ThreadRace, RingFull, Overflow, AmbiguousData, UnknownReap, NoLock, RawEntry, OutOfBuffer, DoublePut}

abbrev pub number_of_fault : FaultKind → ℕ
number_of_fault WriteOfPending = 1
number_of_fault ReadOfFilling = 2
number_of_fault KernelClash = 3
number_of_fault ThreadRace = 4
number_of_fault RingFull = 5
number_of_fault Overflow = 6
number_of_fault AmbiguousData = 7
number_of_fault UnknownReap = 8
number_of_fault NoLock = 9
number_of_fault RawEntry = 10
number_of_fault OutOfBuffer = 11
number_of_fault DoublePut = 12

abbrev pub name_of_fault : FaultKind → List ℕ
name_of_fault WriteOfPending = codes "WriteOfPending"
name_of_fault ReadOfFilling = codes "ReadOfFilling"
name_of_fault KernelClash = codes "KernelClash"
name_of_fault ThreadRace = codes "ThreadRace"
name_of_fault RingFull = codes "RingFull"
name_of_fault Overflow = codes "Overflow"
name_of_fault AmbiguousData = codes "AmbiguousData"
name_of_fault UnknownReap = codes "UnknownReap"
name_of_fault NoLock = codes "NoLock"
name_of_fault RawEntry = codes "RawEntry"
name_of_fault OutOfBuffer = codes "OutOfBuffer"
name_of_fault DoublePut = codes "DoublePut"
