-- The numbers and names of causes.
use Rattle.std.specs.Prelude.{ℕ, List, codes}
use Rattle.rc_rules.specs.declared.cause.Cause.{Cause}
use Rattle.rc_rules.specs.declared.cause.Cause.TheVariants.{Unlocked, NoCredit, QueueFull, SlotOpen, NoSlot, WrongKind, NotWhole, NoShare, OutOfBuffer, NoToken, NoEntry, QueueLeft, LoopEntry, LoopBody, JoinMismatch, OverShares, TokenTwice, OverCredits, NotHeld, NotSeen}

abbrev pub premise_number : Cause → ℕ
premise_number Unlocked = 1
premise_number NoCredit = 2
premise_number QueueFull = 3
premise_number SlotOpen = 4
premise_number NoSlot = 5
premise_number WrongKind = 6
premise_number NotWhole = 7
premise_number NoShare = 8
premise_number OutOfBuffer = 9
premise_number NoToken = 10
premise_number NoEntry = 11
premise_number QueueLeft = 12
premise_number LoopEntry = 13
premise_number LoopBody = 14
premise_number JoinMismatch = 15
premise_number OverShares = 16
premise_number TokenTwice = 17
premise_number OverCredits = 18
premise_number NotHeld = 19
premise_number NotSeen = 20

abbrev pub name_of : Cause → List ℕ
name_of Unlocked = codes "Unlocked"
name_of NoCredit = codes "NoCredit"
name_of QueueFull = codes "QueueFull"
name_of SlotOpen = codes "SlotOpen"
name_of NoSlot = codes "NoSlot"
name_of WrongKind = codes "WrongKind"
name_of NotWhole = codes "NotWhole"
name_of NoShare = codes "NoShare"
name_of OutOfBuffer = codes "OutOfBuffer"
name_of NoToken = codes "NoToken"
name_of NoEntry = codes "NoEntry"
name_of QueueLeft = codes "QueueLeft"
name_of LoopEntry = codes "LoopEntry"
name_of LoopBody = codes "LoopBody"
name_of JoinMismatch = codes "JoinMismatch"
name_of OverShares = codes "OverShares"
name_of TokenTwice = codes "TokenTwice"
name_of OverCredits = codes "OverCredits"
name_of NotHeld = codes "NotHeld"
name_of NotSeen = codes "NotSeen"
