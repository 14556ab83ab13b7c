-- The world in which a run starts.
use Rattle.std.proofs.Common.{◌≡◌, ℕ, List, [], Option, ap, ◌∙◌}
use Rattle.rc_lang.specs.declared.request.Request.{Request}
use Rattle.rc_lang.specs.Program.{Program}
use Rattle.rc_world.specs.Controls.{Controls, start_controls}
use Rattle.rc_world.specs.Machine.{Pending, World, start_world}
use Rattle.rc_run.specs.Requests.{RequestRing, empty_ring}

abbrev standing : Program → Controls → RequestRing → List Pending → List Request → List (Option (List ℕ)) → World
standing P c r ps rs bs = record { program = P; controls = c; slot = r.slot; queued = r.queued; pending = ps; completed = rs; completions = r.completions; made = r.made; buffers = bs }

pub starts : (P : Program) (c : Controls) (r : RequestRing) (ps : List Pending) (rs : List Request) (bs : List (Option (List ℕ))) (e f : ℕ)
    → c ≡ start_controls P → r ≡ empty_ring e f → ps ≡ [] → rs ≡ [] → bs ≡ (start_world P).buffers
    → ◌≡◌ {A = World} (record { program = P; controls = c; slot = r.slot; queued = r.queued; pending = ps; completed = rs; completions = r.completions; made = r.made; buffers = bs }) (start_world P)
starts P c r ps rs bs e f hc hr hp hs hb =
    ap (λ x. standing P x r ps rs bs) hc ∙ ap (λ x. standing P (start_controls P) x ps rs bs) hr
    ∙ ap (λ x. standing P (start_controls P) (empty_ring e f) x rs bs) hp
    ∙ ap (λ x. standing P (start_controls P) (empty_ring e f) [] x bs) hs
    ∙ ap (λ x. standing P (start_controls P) (empty_ring e f) [] [] x) hb
