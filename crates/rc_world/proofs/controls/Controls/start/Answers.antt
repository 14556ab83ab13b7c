use Rattle.std.proofs.Common.{◌≡◌, List, [], ◌∷◌, length, map, pos, replicate, refl, ap, ◌∙◌}
use Rattle.rc_lang.specs.declared.program.Thread.{Thread as ThreadPart}
use Rattle.rc_lang.specs.Parts.{view_thread}
use Rattle.rc_lang.specs.Program.{Thread}
use Rattle.rc_split.specs.Pools.{Pools, start_pools}
use Rattle.rc_world.specs.declared.controls.Control.{Control}
use Rattle.rc_world.specs.declared.controls.Look.TheVariants.{Unseen}
use Rattle.rc_world.specs.Controls.{Controls, Standing, nobody}
use Rattle.rc_world.specs.Parts.{view_control}
use Rattle.rc_world.proofs.controls.Controls.start.Goals as goal

begun : (x : Control) (parts : List ThreadPart) → map view_control (replicate (length parts) x) ≡ map (λ (t : Thread). view_control x) (map view_thread parts)
begun x [] = refl
begun x (part ∷ parts) = ap (λ ts. view_control x ∷ ts) (begun x parts)

pub returns-clause-start : goal.returns-clause-start
returns-clause-start c =
    let first : Control = record { place = 0; variables = replicate 64 (pos 0) } in
    let controls : List Standing → Pools → Controls = λ ts pools. record { threads = ts; holders = nobody; look = Unseen; pools = pools } in
    let e = ap (map view_control) c.in_ok-first_places.ensures ∙ begun first c.threads.result.now ∙ ap (map (λ (t : Thread). view_control first)) c.threads.ensures.value in
    ap (controls _) c.in_ok-start.ensures ∙ ap (λ ts. controls ts (start_pools c.args.program.now)) e
