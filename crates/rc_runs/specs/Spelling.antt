-- The schedule that moves spell in a program, step by step from its start world.
use Rattle.std.specs.Prelude.{ℕ, zero, suc, ◌≡◌, Bool, true, false, if◌then◌else◌, List, [], ◌∷◌, length, map, flat_map, Option, Some, None, nat_eq, option_and_then}
use Rattle.rc_lang.specs.declared.lines.Line.{Line}
use Rattle.rc_lang.specs.Program.{Program}
use Rattle.rc_world.specs.declared.event.Event.{Event}
use Rattle.rc_world.specs.declared.event.Item.{Item}
use Rattle.rc_world.specs.declared.event.Item.TheVariants.{Thread}
use Rattle.rc_world.specs.declared.fault.Fault.{Fault}
use Rattle.rc_world.specs.Controls.{next_line}
use Rattle.rc_world.specs.Faults.{fault_of}
use Rattle.rc_world.specs.Items.{is_enabled, item_step}
use Rattle.rc_world.specs.Machine.{World, start_world}
use Rattle.rc_runs.specs.declared.moves.Move.{Move}
use Rattle.rc_runs.specs.declared.moves.Move.TheVariants.{One, Steps, Until}
use Rattle.rc_runs.specs.declared.spelling.Spelled.{Spelled}

-- ---- one step

-- The world after the step of an item, where it can be made: the world has no fault, and the item is enabled.
abbrev pub made_step : Option Fault → Bool → Option (Event × World) → Option World
made_step (Some f) enabled step = None
made_step None false step = None
made_step None true None = None
made_step None true (Some (e, next)) = Some next

abbrev pub after_step : World → Item → Option World
after_step w item = made_step (fault_of w) (is_enabled w item) (item_step w item)

-- the world after the steps of items, where each can be made
abbrev pub world_after : World → List Item → Option World
world_after w [] = Some w
world_after w (item ∷ items) = option_and_then (λ next. world_after next items) (after_step w item)

-- ---- what a move spells

-- A thread stands at a line if its next line has this number.
abbrev pub has_number : ℕ → Option Line → Bool
has_number n None = false
has_number n (Some l) = nat_eq l.number n

abbrev pub is_at : ℕ → ℕ → World → Bool
is_at i n w = has_number n (next_line w.program w.controls i)

-- a thread's item: at a submit, all that is queued is taken
abbrev pub step_of : ℕ → Item
step_of i = Thread i None

abbrev pub in_next : (World → List Item) → Option World → List Item
in_next spells None = []
in_next spells (Some next) = spells next

-- An item again and again, at most n times, until the world is such. A step that can't be made is the last.
unfoldable pub steps_until : (World → Bool) → Item → ℕ → World → List Item
steps_until is_end item zero w = []
steps_until is_end item (suc n) w = if is_end w then [] else item ∷ in_next (steps_until is_end item n) (after_step w item)

abbrev pub never : World → Bool
never w = false

-- The items that a move spells in a world. Steps up to a line are at most 65,536.
abbrev pub items_of_move : World → Move → List Item
items_of_move w (One item) = item ∷ []
items_of_move w (Steps i n) = steps_until never (step_of i) n w
items_of_move w (Until i n) = steps_until (is_at i n) (step_of i) 65536 w

-- ---- what moves spell

-- What a move spells where the items before it lead to this world, and the world after its own items. After a step that
-- can't be made it spells nothing.
abbrev pub items_in : Option World → Move → List Item
items_in None move = []
items_in (Some w) move = items_of_move w move

abbrev pub after_move : Option World → Move → Option World
after_move None move = None
after_move (Some w) move = world_after w (items_of_move w move)

-- the items of each move
abbrev pub spelled_from : Option World → List Move → List (List Item)
spelled_from w [] = []
spelled_from w (move ∷ moves) = items_in w move ∷ spelled_from (after_move w move) moves

abbrev pub spelled : Program → List Move → List (List Item)
spelled program moves = spelled_from (Some (start_world program)) moves

-- The schedule that moves spell, and how many of its items each move spells.
abbrev pub schedule_of : Program → List Move → List Item
schedule_of program moves = flat_map (λ items. items) (spelled program moves)

abbrev pub counts_of : Program → List Move → List ℕ
counts_of program moves = map (λ items. length items) (spelled program moves)

pub record IsSpelled (program : Program) (moves : List Move) (s : Spelled) : Type 0 where
  pub items : s.items.items ≡ schedule_of program moves
  pub counts : s.counts.items ≡ counts_of program moves
