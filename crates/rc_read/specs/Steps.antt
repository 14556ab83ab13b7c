-- What a step of the code does to the parts, unless memory ran out.
use Rattle.std.specs.Prelude.{◌≡◌, ◌++◌, ◌∷◌, ℕ, List, [], Option, Result, IfOk, IfSome, OnOk, is_none}
use Rattle.std.specs.Borrow.{Bor}
use Rattle.std.specs.Global.{Vec}
use Rattle.rc_lang.specs.Program.{Items}
use Rattle.rc_lang.specs.declared.program.Items.{Items as ItemsPart}
use Rattle.rc_read.specs.Adds.{added, counted, held, second_of, stock_of, thread_name}
use Rattle.rc_read.specs.Judging.{JudgesRow, JudgesWords, wrong_in}
use Rattle.rc_read.specs.Pieces.{ReadsMore}
use Rattle.rc_read.specs.Sheets.{Sheet, headed, with_names}
use Rattle.rc_read.specs.Spots.{Spot}
use Rattle.rc_read.specs.Texts.{texts_of, view_spots}
use Rattle.rc_read.specs.Values.{any_lacks, items_in, start, values_of}
use Rattle.rc_read.specs.View.{view_draft, view_lists, view_sheet}
use Rattle.rc_read.specs.declared.fault.ReadCause.{ReadCause}
use Rattle.rc_read.specs.declared.fault.ReadFault.{ReadFault}
use Rattle.rc_read.specs.declared.noted.Wrong.{Wrong}
use Rattle.rc_read.specs.declared.parts.Draft.{Draft as DraftPart}
use Rattle.rc_read.specs.declared.parts.Parts.{Parts}
use Rattle.rc_read.specs.declared.says.Says.{Says}
use Rattle.rc_read.specs.declared.spots.Spot.{Spot as SpotPart}
use Rattle.rc_read.specs.declared.table.Part.{Part}
use Rattle.rc_read.specs.declared.table.Row.{Row}
use Rattle.rc_read.specs.declared.values.Item.{Item}
use Rattle.rc_read.specs.declared.values.Value.{Value}

-- ---- what is added

abbrev pub Becomes : {X E : Type 0} → Result X E → Parts → Sheet → Type 0
Becomes r parts s = OnOk r (view_sheet parts ≡ s)

-- A line with these words and items that says this, and the same where it is counted.
abbrev pub AddsLine : {X E : Type 0} → Result X E → Parts → List (Bor (List ℕ)) → List Item → Says → Parts → Type 0
AddsLine r old words items what new = Becomes r new (added (view_sheet old) (texts_of words) items what)

abbrev pub CountsLine : {X E : Type 0} → Result X E → Parts → List (Bor (List ℕ)) → List Item → Says → Parts → Type 0
CountsLine r old words items what new = Becomes r new (counted (added (view_sheet old) (texts_of words) items what))

abbrev pub AddsStock : {X E : Type 0} → Result X E → Parts → Option ℕ → List Item → Parts → Type 0
AddsStock r old pool items new = Becomes r new (record (view_sheet old) { stock = (view_sheet old).stock ++ stock_of (view_sheet old) pool items ∷ [] })

abbrev pub OpensThread : {E : Type 0} → Result DraftPart E → List (Bor (List ℕ)) → Option ℕ → ℕ → List Item → Type 0
OpensThread r words copies line items = IfOk r (λ d. view_draft d ≡ headed (thread_name copies (second_of (texts_of words))) copies line (held items []))

abbrev pub AddsList : {X E : Type 0} → Result X E → Vec ItemsPart → Vec ItemsPart → Items → Type 0
AddsList r old new items = OnOk r (view_lists new ≡ view_lists old ++ items ∷ [])

-- ---- what is noted of a line's places

-- The word is added if it is a variable's.
abbrev pub AddsName : {X E : Type 0} → Result X E → Parts → Part → List ℕ → Parts → Type 0
AddsName r old part word new = Becomes r new (with_names (view_sheet old) (record { part = part; word = word } ∷ []))

-- A number is wrong where there is no answer; else the variables of the line are added, its places have these values
-- and items, and this is wrong with their names.
abbrev pub TellsLack : {X E : Type 0} → Result (Option X) E → Sheet → List Spot → Type 0
TellsLack r s spots = IfOk r (λ o. is_none o ≡ any_lacks (with_names s spots) start spots)

abbrev pub PutsNames : {X E : Type 0} → Result (Option X) E → Parts → List SpotPart → Parts → Type 0
PutsNames r old spots new = IfOk r (λ o. IfSome o (λ _. view_sheet new ≡ with_names (view_sheet old) (view_spots spots)))

abbrev pub PutsValues : {X E : Type 0} → Result (Option X) E → Parts → List SpotPart → Vec Value → Type 0
PutsValues r old spots vs = IfOk r (λ o. IfSome o (λ _. vs.items ≡ values_of (with_names (view_sheet old) (view_spots spots)) start (view_spots spots)))

abbrev pub PutsItems : {X E : Type 0} → Result (Option X) E → Parts → List SpotPart → Vec Item → Type 0
PutsItems r old spots is = IfOk r (λ o. IfSome o (λ _. is.items ≡ items_in (values_of (with_names (view_sheet old) (view_spots spots)) start (view_spots spots))))

abbrev pub TellsWrong : {E : Type 0} → Result (Option Wrong) E → Sheet → List Spot → Type 0
TellsWrong r s spots = IfOk r (λ o. IfSome o (λ wrong. wrong ≡ wrong_in (with_names s spots) spots))

-- ---- lines and pieces

abbrev pub JudgesForm : {E : Type 0} → Parts → List ℕ → List (Bor (List ℕ)) → Row → Parts → Result (Option ReadCause) E → Type 0
JudgesForm old line words row new r = JudgesRow (view_sheet old) line (texts_of words) row (view_sheet new) r

abbrev pub JudgesAny : {E : Type 0} → Parts → List ℕ → List (Bor (List ℕ)) → Parts → Result (Option ReadCause) E → Type 0
JudgesAny old line words new r = JudgesWords (view_sheet old) line (texts_of words) (view_sheet new) r

abbrev pub ReadsPiece : {X : Type 0} → Parts → Vec ℕ → List ℕ → Parts → Vec ℕ → Result X ReadFault → Type 0
ReadsPiece old pending piece new left r = ReadsMore (view_sheet old) pending.items piece (view_sheet new) left.items r

abbrev pub ReadsLine : {X : Type 0} → Parts → Vec ℕ → List ℕ → Parts → Vec ℕ → Result X ReadFault → Type 0
ReadsLine old pending front new left r = ReadsPiece old pending (front ++ 10 ∷ []) new left r
