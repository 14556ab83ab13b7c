use Rattle.std.proofs.Common.{◌≡◌, Some, option_map, slice_get, map, ap, sym, ◌∙◌}
use Rattle.std.proofs.lemmas.Option.{slice_get-get_or, slice_get-map}
use Rattle.rc_world.specs.Controls.{Controls, next_at}
use Rattle.rc_world.specs.Parts.{view_control}
use Rattle.rc_world.proofs.controls.Controls.line.Goals as goal

pub returns-clause-value : goal.returns-clause-value
returns-clause-value c =
    let P = c.args.program.now in
    let i = c.args.thread in
    let control = c.in_ok-control.control.now in
    let k = c.in_ok-control.ensures.lookup in
    let items = c.deref.result.now in
    let there : slice_get (map view_control items) i ≡ Some (view_control control) = slice_get-map view_control items i ∙ ap (option_map view_control) (slice_get-get_or items i control k.3.0 ∙ ap Some (sym (k.3.1 control))) in
    c.read_line_at.ensures.value
    ∙ sym (ap (λ (x : Controls). next_at P i (slice_get x.threads i)) (sym c.self.view_is) ∙ ap (λ xs. next_at P i (slice_get (map view_control xs) i)) (sym c.deref.ensures.value) ∙ ap (next_at P i) there)
