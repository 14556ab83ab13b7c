-- What slices of a line are, and the places among them.
use Rattle.std.specs.Prelude.{◌≡◌, ◌++◌, ℕ, List, [], Bool, Option, Result, IfOk, IfSome, OnOk, if◌then◌else◌, map}
use Rattle.std.specs.Borrow.{Bor}
use Rattle.std.specs.Global.{Vec}
use Rattle.rc_read.specs.Spots.{Spot, spots_of}
use Rattle.rc_read.specs.Table.{parts_of}
use Rattle.rc_read.specs.declared.table.Part.{Part}
use Rattle.rc_read.specs.declared.table.Row.{Row}
use Rattle.rc_read.specs.declared.spots.Spot.{Spot as SpotPart}

abbrev pub texts_of : List (Bor (List ℕ)) → List (List ℕ)
texts_of words = map (λ w. w.now) words

abbrev pub view_spot : SpotPart → Spot
view_spot p = record { part = p.part; word = p.word.now }

abbrev pub view_spots : List SpotPart → List Spot
view_spots spots = map view_spot spots

-- These places were added: in each case, where the answer is yes, and where there is one.
abbrev pub Adds : {X E : Type 0} → Result X E → Vec SpotPart → Vec SpotPart → List Spot → Type 0
Adds r old new spots = OnOk r (view_spots new.items ≡ view_spots old.items ++ spots)

abbrev pub AddsIfSo : {E : Type 0} → Result Bool E → Vec SpotPart → Vec SpotPart → List Spot → Type 0
AddsIfSo r old new spots = IfOk r (λ b. view_spots new.items ≡ view_spots old.items ++ (if b then spots else []))

abbrev pub AddsSome : {X E : Type 0} → Result (Option X) E → Vec SpotPart → Vec SpotPart → List Spot → Type 0
AddsSome r old new spots = IfOk r (λ o. IfSome o (λ _. view_spots new.items ≡ view_spots old.items ++ spots))

-- These are the places of a line with these words: where they are those of the parts, and where it has a form.
abbrev pub HasSpots : Vec SpotPart → List Part → List (Bor (List ℕ)) → Type 0
HasSpots spots parts words = view_spots spots.items ≡ spots_of parts (texts_of words)

abbrev pub HasSpotsOfRow : {E : Type 0} → Result (Option Row) E → Vec SpotPart → List (Bor (List ℕ)) → Type 0
HasSpotsOfRow r spots words = IfOk r (λ o. IfSome o (λ row. HasSpots spots (parts_of row) words))

abbrev pub AddsWords : {X E : Type 0} → Result X E → Vec (Bor (List ℕ)) → Vec (Bor (List ℕ)) → List (List ℕ) → Type 0
AddsWords r old new words = OnOk r (texts_of new.items ≡ texts_of old.items ++ words)
