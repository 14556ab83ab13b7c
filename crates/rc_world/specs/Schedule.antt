-- Schedules as text: items with commas between them. Each item is `NAME`, `NAME=R`, `k:U=R` or `k:U=R:H`.
use Rattle.std.specs.Prelude.{ℕ, ◌≡◌, ◌+◌, ◌-◌, ◌^◌, Bool, false, ◌&&◌, ◌==◌, if◌then◌else◌, List, [], ◌∷◌, take, drop, filter_map, position, Option, Some, None, is_none, option_map, option_and_then, Result, Ok, Err, ℤ, pos, negsuc}
use Rattle.std.specs.Global.{Vec}
use Rattle.std.specs.List.{slice_split}
use Rattle.std.specs.Str.{bytes_eq}
use Rattle.rc_lang.specs.Numbers.{number_of, signed_number_of}
use Rattle.rc_lang.specs.Program.{Program, Thread as ThreadOf}
use Rattle.rc_world.specs.declared.event.Item.{Item}
use Rattle.rc_world.specs.declared.event.Item.TheVariants.{Thread, Kernel}
use Rattle.rc_world.specs.declared.schedule.ScheduleFault.{ScheduleFault}
use Rattle.rc_world.specs.declared.schedule.ScheduleFault.TheVariants.{Unreadable, OutOfMemory}

-- The pieces between commas. The empty text has none.
abbrev pub pieces_of : List ℕ → List (List ℕ)
pieces_of [] = []
pieces_of (b ∷ bytes) = slice_split (λ c. c == 44) (b ∷ bytes)

-- what is before the first byte c and what is after it, where there is one
abbrev pub halves_at : Option ℕ → List ℕ → Option (List ℕ × List ℕ)
halves_at None bytes = None
halves_at (Some place) bytes = Some (take place bytes, drop (place + 1) bytes)

abbrev pub halves : ℕ → List ℕ → Option (List ℕ × List ℕ)
halves c bytes = halves_at (position (λ b. b == c) bytes) bytes

-- the number of the first thread with this name
abbrev pub thread_named : Program → List ℕ → Option ℕ
thread_named program name = position (λ (t : ThreadOf). bytes_eq t.name name) program.threads

-- a submit's answer or a completion's result, R
abbrev pub result_of : List ℕ → Option ℤ
result_of word = signed_number_of (negsuc 4094) (pos 4096) word

-- `NAME` or `NAME=R`, cut at its first `=`
abbrev pub thread_halves : Program → List ℕ → Option (List ℕ × List ℕ) → Option Item
thread_halves program piece None = option_map (λ thread. Thread thread None) (thread_named program piece)
thread_halves program piece (Some (name, answer)) =
    option_and_then (λ r. option_map (λ thread. Thread thread (Some r)) (thread_named program name)) (result_of answer)

abbrev pub item_of_thread : Program → List ℕ → Option Item
item_of_thread program piece = thread_halves program piece (halves 61 piece)

-- `U=R` or `U=R:H`, cut at its first `=`, and after that at the first `:`
abbrev pub completion_item : Option ℕ → Option ℤ → Option ℕ → Option Item
completion_item (Some u) (Some r) (Some h) = Some (Kernel u r h)
completion_item _ _ _ = None

abbrev pub completion_by : List ℕ → List ℕ → Option (List ℕ × List ℕ) → Option Item
completion_by u r None = completion_item (number_of 0 (2 ^ 64 - 1) u) (result_of r) (Some 0)
completion_by u r (Some (s, h)) = completion_item (number_of 0 (2 ^ 64 - 1) u) (result_of s) (number_of 0 255 h)

abbrev pub kernel_halves : Option (List ℕ × List ℕ) → Option Item
kernel_halves None = None
kernel_halves (Some (u, r)) = completion_by u r (halves 58 r)

abbrev pub item_of_kernel : List ℕ → Option Item
item_of_kernel words = kernel_halves (halves 61 words)

-- the piece begins with `k:`
abbrev pub is_kernel_item : List ℕ → Bool
is_kernel_item [] = false
is_kernel_item (a ∷ []) = false
is_kernel_item (a ∷ b ∷ bytes) = a == 107 && b == 58

-- The item that a piece names, if it names one. A piece that begins with `k:` is the kernel's.
abbrev pub item_of : Program → List ℕ → Option Item
item_of program [] = None
item_of program (b ∷ bytes) = if is_kernel_item (b ∷ bytes) then item_of_kernel (drop 2 (b ∷ bytes)) else item_of_thread program (b ∷ bytes)

-- The items of a schedule, or the number of the first piece that isn't one, from 1.
abbrev pub items_or : {A : Type 0} → Option ℕ → List A → Result (List A) ℕ
items_or None items = Ok items
items_or (Some place) items = Err (place + 1)

abbrev pub items_of : Program → List ℕ → Result (List Item) ℕ
items_of program text = items_or (position (λ piece. is_none (item_of program piece)) (pieces_of text)) (filter_map (item_of program) (pieces_of text))

-- what reading a schedule answers
abbrev pub ReadsSchedule : Program → List ℕ → Result (Vec Item) ScheduleFault → Type 0
ReadsSchedule program text (Ok items) = items_of program text ≡ Ok items.items
ReadsSchedule program text (Err (Unreadable n)) = items_of program text ≡ Err n
ReadsSchedule program text (Err OutOfMemory) = Unit {0}
