-- Controls whose threads have changed.
use Rattle.std.proofs.Common.{ℕ, ℤ, Bool, ◌≡◌, ◌+◌, ◌<◌, List, length, map, set, get_or, Some, if◌then◌else◌, slice_index_or, slice_set, sym, ap, ◌∙◌, subst}
use Rattle.std.proofs.lemmas.List.{get_or-map, get_or-set_same, length-map, map-set, set-set}
use Rattle.rc_lang.specs.Program.{Program}
use Rattle.rc_split.specs.Pools.{Pools}
use Rattle.rc_world.specs.declared.controls.Control.{Control}
use Rattle.rc_world.specs.declared.controls.Holders.{Holders}
use Rattle.rc_world.specs.declared.controls.Look.{Look}
use Rattle.rc_world.specs.declared.controls.Look.TheVariants.{Unseen}
use Rattle.rc_world.specs.declared.event.Action.{Action}
use Rattle.rc_world.specs.Changes.{gone_to, nowhere, standing_at, with_variable}
use Rattle.rc_world.specs.Controls.{Controls, Standing, goes_on, made, moved, passes_arm, rest_at, sets_variable}
use Rattle.rc_world.specs.Parts.{view_control}

pub standing_is : (items : List Control) (i : ℕ) (r : Control) → i < length items → r ≡ get_or items i r → slice_index_or (map view_control items) i nowhere ≡ view_control r
standing_is items i r lt e = get_or-map view_control items i r nowhere lt ∙ ap view_control (sym e)

-- a thread that changes where it is
pub put_is : (items : List Control) (i : ℕ) (r x : Control) (f : Standing → Standing) → i < length items → r ≡ get_or items i r → view_control x ≡ f (view_control r)
    → map view_control (set items i x) ≡ set (map view_control items) i (f (slice_index_or (map view_control items) i nowhere))
put_is items i r x f lt e q =
    map-set view_control items i x ∙ ap (λ (y : Standing). set (map view_control items) i y) (q ∙ ap f (sym (standing_is items i r lt e)))

-- ---- a step without another value of a variable

pub passes : (P : Program) (c new : Controls) (i j : ℕ) (action : Action) → (standing_at c i).place ≡ j → new ≡ gone_to P c i (j + 1) → made P c i (Some (goes_on c (standing_at c i) action)) ≡ Some (action, new)
passes P c new i j action e g = ap (λ (d : Controls). Some (action, d)) (ap (λ k. gone_to P c i (k + 1)) e ∙ sym g)

-- ---- a step with one

abbrev after_set : Controls → ℕ → ℕ → ℤ → Standing
after_set c i x v = record { place = (standing_at c i).place; variables = slice_set (standing_at c i).variables x v }

pub set_standing : (c : Controls) (i x : ℕ) (v : ℤ) → i < length c.threads → standing_at (with_variable c i x v) i ≡ after_set c i x v
set_standing c i x v lt = get_or-set_same c.threads i (after_set c i x v) nowhere lt

-- The thread goes to place j, once a variable is set, with other holders or another front.
pub set_then_gone : (P : Program) (c : Controls) (i j x : ℕ) (v : ℤ) (holders : Holders) (look : Look) (action : Action) → i < length c.threads
    → gone_to P (record { threads = (with_variable c i x v).threads; holders = holders; look = look; pools = c.pools }) i j
    ≡ moved P c i (record { action = action; holders = holders; look = look; pools = c.pools; place = j; variables = slice_set (standing_at c i).variables x v })
set_then_gone P c i j x v holders look action lt =
    ap (λ ts. record { threads = ts; holders = holders; look = if passes_arm P i j then Unseen else look; pools = c.pools })
    (set-set c.threads i (after_set c i x v) _ ∙ ap (λ (t : Standing). set c.threads i (record { place = rest_at P i j; variables = t.variables })) (set_standing c i x v lt))

pub sets_is : (P : Program) (c d : Controls) (i x : ℕ) (v : ℤ) (action : Action) → d ≡ with_variable c i x v → i < length c.threads
    → made P c i (Some (sets_variable c (standing_at c i) x v action)) ≡ made P d i (Some (goes_on d (standing_at d i) action))
sets_is P c d i x v action e lt =
    ap (λ k. Some (action, k))
    (sym (set_then_gone P c i ((standing_at c i).place + 1) x v c.holders c.look action lt)
    ∙ ap (λ k. gone_to P (with_variable c i x v) i (k + 1)) (sym (ap (λ (t : Standing). t.place) (set_standing c i x v lt)))
    ∙ ap (λ (k : Controls). moved P k i (goes_on k (standing_at k i) action)) (sym e))

-- ---- what the code has written

pub within_items : (items : List Control) (c : Controls) (i : ℕ) → map view_control items ≡ c.threads → i < length c.threads → i < length items
within_items items c i e lt = subst (λ n. i < n) (sym (sym (length-map items view_control) ∙ ap (λ ts. length ts) e)) lt

pub gone_is : (P : Program) (items : List Control) (holders : Holders) (look : Look) (pools : Pools) (i start place : ℕ) (ends : Bool) (after : Look) (r : Control) → i < length items → r ≡ get_or items i r
    → place ≡ rest_at P i start → ends ≡ passes_arm P i start → after ≡ (if ends then Unseen else look)
    → record { threads = map view_control (set items i (record { place = place; variables = r.variables })); holders = holders; look = after; pools = pools }
    ≡ gone_to P (record { threads = map view_control items; holders = holders; look = look; pools = pools }) i start
gone_is P items holders look pools i start place ends after r lt e p a q =
    let there : Control = record { place = place; variables = r.variables } in
    let threads = put_is items i r there (λ t. record { place = rest_at P i start; variables = t.variables }) lt e (ap (λ n. record { place = n; variables = r.variables }) p) in
    let front : after ≡ (if passes_arm P i start then Unseen else look) = q ∙ ap (λ x. if x then Unseen else look) a in
    ap (λ ts. controls ts after) threads ∙ ap (controls _) front
  where
    controls : List Standing → Look → Controls
    controls ts x = record { threads = ts; holders = holders; look = x; pools = pools }

-- A variable is set, holders and front are changed, and the thread goes to a place.
pub set_and_gone : (P : Program) (c d new : Controls) (i j k x : ℕ) (v : ℤ) (holders : Holders) (look : Look) (action : Action) → i < length c.threads
    → d ≡ record { threads = (with_variable c i x v).threads; holders = holders; look = look; pools = c.pools } → new ≡ gone_to P d i k → k ≡ j
    → made P c i (Some (record { action = action; holders = holders; look = look; pools = c.pools; place = j; variables = slice_set (standing_at c i).variables x v })) ≡ Some (action, new)
set_and_gone P c d new i j k x v holders look action lt e g q =
    ap (λ (n : Controls). Some (action, n))
    (sym (set_then_gone P c i j x v holders look action lt)
    ∙ ap (λ n. gone_to P (record { threads = (with_variable c i x v).threads; holders = holders; look = look; pools = c.pools }) i n) (sym q)
    ∙ ap (λ (n : Controls). gone_to P n i k) (sym e)
    ∙ sym g)
