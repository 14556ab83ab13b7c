-- What is done at a report.
use Rattle.std.proofs.Common.{◌≡◌, ℕ, Bool, true, false, List, [], ◌++◌, ◌||◌, Option, Some, None, Result, Ok, Err, if◌then◌else◌, ap, ◌∙◌}
use Rattle.std.specs.Prelude.{OnOk, is_some}
use Rattle.std.specs.Global.{Vec}
use Rattle.rc_report.specs.Text.{PutsSome}
use Rattle.rc_report.specs.declared.verdict.Verdict.{Verdict}
use Rattle.rc_lsp.specs.declared.documents.Documents.{Documents}
use Rattle.rc_lsp.specs.Documents.{IsChanged, Shows}
use Rattle.rc_lsp.specs.Reactions.{Edits, IsShown, Opens, Saves}

-- what is added after nothing is of another kind too
pub puts_after_nothing : {X E : Type 0} (K L : List ℕ → Type 0) (start old new : Vec ℕ) (r : Result X E) → old.items ≡ start.items → ((text : List ℕ) → K text → L text) → PutsSome K old new r → PutsSome L start new r
puts_after_nothing K L start old new (Ok x) same f (text, k, e) = (text, f text k, e ∙ ap (λ t. t ++ text) same)
puts_after_nothing K L start old new (Err x) same f p = tt

-- with what holds where it is added
pub puts_with : {X E : Type 0} (P : Type 0) (K : List ℕ → Type 0) (old new : Vec ℕ) (r : Result X E) → OnOk r P → PutsSome K old new r → PutsSome (λ text. P × K text) old new r
puts_with P K old new (Ok x) holds (text, k, e) = (text, (holds, k), e)
puts_with P K old new (Err x) holds p = tt

pub opened_as : (room : Bool) (uri bytes : List ℕ) (old new : Documents) (verdict : Verdict) (text : List ℕ) → IsChanged room uri bytes old new
    → Shows uri (if room then Some bytes else None) (Some verdict) text → Opens room uri bytes old new text
opened_as true uri bytes old new verdict text changed shows = (changed, (verdict, shows))
opened_as false uri bytes old new verdict text changed shows = let no = shows.0 in absurd cc

pub not_opened : (room : Bool) (uri bytes : List ℕ) (old new : Documents) (text : List ℕ) → IsChanged room uri bytes old new
    → Shows uri (if room then Some bytes else None) None text → (text ≡ []) × ((shown : List ℕ) → IsShown shown → Opens room uri bytes old new shown)
not_opened true uri bytes old new text changed shows = absurd shows
not_opened false uri bytes old new text changed shows = (shows.1, λ shown is. (changed, is))

pub edited_as : (was : Option (List ℕ)) (more : Bool) (uri bytes : List ℕ) (old new : Documents) (answer : Option Verdict) (text : List ℕ) → is_some was ≡ true
    → IsChanged (is_some was || more) uri bytes old new → Shows uri (if is_some was || more then Some bytes else None) answer text → Edits (is_some was) uri bytes old new text
edited_as None more uri bytes old new answer text is_open changed shows = absurd cc
edited_as (Some before) more uri bytes old new None text is_open changed shows = absurd shows
edited_as (Some before) more uri bytes old new (Some verdict) text is_open changed shows = (changed, (verdict, shows))

pub saved_as : (was : Option (List ℕ)) (uri : List ℕ) (answer : Option Verdict) (text : List ℕ) → Shows uri was answer text → Saves uri was text
saved_as None uri answer text shows = shows.1
saved_as (Some bytes) uri None text shows = absurd shows
saved_as (Some bytes) uri (Some verdict) text shows = (verdict, shows)
