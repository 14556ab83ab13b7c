use Rattle.std.proofs.Common.{◌≡◌, ◌≤◌, ◌∙◌, ap, length, option_map, refl, slice_get, subst, sym, None, Some}
use Rattle.std.proofs.lemmas.Option.{slice_get_past, slice_get_read}
use Rattle.rc_world.specs.Controls.{Standing}
use Rattle.rc_world.specs.Harm.{harms_at, line_of}
use Rattle.rc_world.specs.Kept.{IsKept}
use Rattle.rc_world.specs.Machine.{World}
use Rattle.rc_world.proofs.Harmless.{line_at_place}
use Rattle.rc_world.proofs.world.World.harms_next.Goals as goal

pub returns-in-Some-get : goal.returns-in-Some-get
returns-in-Some-get c =
    let w = c.args.self.now in
    let line = c.in-Some-get.line.now in
    let found = c.in-Some-get.ensures.lookup in
    let here : slice_get c.args.lines.now c.in-Some.place ≡ Some line = slice_get_read c.args.lines.now _ c.in-Some.place line refl found.3.0 found.1 in
    let place = sym c.in-Some.is ∙ c.place.ensures ∙ ap (λ (w : World). option_map (λ (s : Standing). s.place) (slice_get w.controls.threads c.args.thread)) c.self.view_is in
    let next : Some line ≡ line_of w c.args.thread = sym here ∙ ap (λ lines. slice_get lines c.in-Some.place) c.requires.lines ∙ line_at_place w (subst IsKept c.self.view_is c.self.invariant.0).made c.args.thread c.in-Some.place place in
    c.is_harmful.ensures ∙ ap (harms_at w c.args.thread) next

pub returns-in-None : goal.returns-in-None
returns-in-None c =
    let w = c.args.self.now in
    let past : length c.args.lines.now ≤ c.in-Some.place = c.in-None.ensures.lookup.3 in
    let place = sym c.in-Some.is ∙ c.place.ensures ∙ ap (λ (w : World). option_map (λ (s : Standing). s.place) (slice_get w.controls.threads c.args.thread)) c.self.view_is in
    let none : line_of w c.args.thread ≡ None = sym (line_at_place w (subst IsKept c.self.view_is c.self.invariant.0).made c.args.thread c.in-Some.place place) ∙ ap (λ lines. slice_get lines c.in-Some.place) (sym c.requires.lines) ∙ slice_get_past c.args.lines.now c.in-Some.place past in
    sym (ap (harms_at w c.args.thread) none)
