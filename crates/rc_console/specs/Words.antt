-- What the words of the command line ask for.
use Rattle.std.specs.Global.{Vec}
use Rattle.std.specs.Prelude.{ℕ, ◌≤◌, Bool, true, false, Option, Some, None}
use Rattle.rc_report.specs.declared.script.Script.TheVariants.{Moves}
use Rattle.rc_console.specs.declared.command.Command.{Command}
use Rattle.rc_console.specs.declared.command.Drafting.{Drafting}
use Rattle.rc_console.specs.declared.command.Following.{Following}
use Rattle.rc_console.specs.declared.inputs.Extent.{Extent}
use Rattle.rc_console.specs.declared.inputs.Extent.TheVariants.{Whole, Enough}
use Rattle.rc_console.specs.declared.command.Command.TheVariants.{Check, Explain, Keeps, Step, Find, Run, Emit, Follow, Draft, Format, Serve, Show}

-- The numbers of a search and of a run are in their ranges; the seed's is that of its type.
abbrev pub HasRanges : Command → Type 0
HasRanges (Check json) = Unit {0}
HasRanges (Explain form) = Unit {0}
HasRanges Keeps = Unit {0}
HasRanges (Step stepping) = Unit {0}
HasRanges (Find asked) = (1 ≤ asked.walks) × (asked.walks ≤ 1000000)
HasRanges (Run seed limit summary) = (1 ≤ limit) × (limit ≤ 1000000)
HasRanges Emit = Unit {0}
HasRanges (Follow asked) = Unit {0}
HasRanges (Draft asked) = Unit {0}
HasRanges Format = Unit {0}
HasRanges Serve = Unit {0}
HasRanges (Show text) = Unit {0}

abbrev pub is_server : Command → Bool
is_server Serve = true
is_server command = false

-- what `follow` is asked for
abbrev pub following : Command → Option Following
following (Follow asked) = Some asked
following command = None

-- what `draft` is asked for
abbrev pub drafting : Command → Option Drafting
drafting (Draft asked) = Some asked
drafting command = None

-- `keeps` and `fmt` print the model, so they need all of it; the others as much as its answer depends on.
abbrev pub extent : Command → Extent
extent Keeps = Whole
extent Format = Whole
extent command = Enough

-- The command with these moves, where it steps a program.
abbrev pub with_moves : Command → Vec ℕ → Command
with_moves (Step stepping) moves = Step (record { script = Moves moves; show = stepping.show })
with_moves command moves = command
