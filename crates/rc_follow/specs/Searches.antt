-- What a search leaves.
use Rattle.std.specs.Prelude.{ℕ, ◌≡◌, ◌⊎◌, ◌++◌, [], ◌∷◌, All, List, ℤ, pos}
use Rattle.rc_lang.specs.Program.{Program}
use Rattle.rc_log.specs.declared.call.Call.{Call}
use Rattle.rc_log.specs.declared.call.Call.TheVariants.{Peek}
use Rattle.rc_world.specs.Machine.{World}
use Rattle.rc_follow.specs.declared.kept.Found.{Found}
use Rattle.rc_follow.specs.Followed.{Asks, Noted, scaled_peek}
use Rattle.rc_follow.specs.Follower.{Adds, ComesBy, LeadsBy}
use Rattle.rc_follow.specs.Ways.{Leads, Way}

-- the way is added, or one that is like it is there
abbrev pub MayAdd : Way → List Way → List Way → Type 0
MayAdd w old new = (new ≡ old) ⊎ (new ≡ old ++ w ∷ [])

-- The line leads to each way that is added to those found, and hidden steps lead to each that is still to be looked at.
abbrev pub Visits : Program → Noted → Way → ℕ → Call → Found → Found → Type 0
Visits P n w i call old new =
    Adds (LeadsBy P n w i call) old.worlds.items new.worlds.items × Adds (Leads n w) old.todo.items new.todo.items

-- The line asks what is so in the world.
abbrev pub AsksIn : Program → Noted → ℕ → Call → Way → Type 0
AsksIn P n i call w = Asks P n w.world i call

-- The line leads to each way that is found.
abbrev pub Finds : Program → Noted → List Way → ℕ → Call → List Way → Type 0
Finds P n ws i call found = All (ComesBy P n ws i call) found

-- the result that the text's peek finds, where C's is this call
abbrev pub wanted_res : Noted → World → Call → ℤ
wanted_res n w (Peek u r) = (scaled_peek n w u r).res
wanted_res n w _ = pos 0
