use Rattle.std.proofs.Common.{Some, ap, refl, sym, ◌∙◌}
use Rattle.std.proofs.lemmas.Option.{slice_get_past, slice_get_read}
use Rattle.rc_runs.proofs.stuck.same.is_same_request.Goals as goal

pub returns-in-Some-Some : goal.returns-in-Some-Some
returns-in-Some-Some c = λ same.
    let first = c.in-Some-Some.ensures.lookup in
    let second = c.in-Some-Some.ensures'.lookup in
    slice_get_read c.args.a.now _ c.args.place c.in-Some-Some.a.now refl first.3.0 first.1
    ∙ ap Some (c.is_equal.ensures same)
    ∙ sym (slice_get_read c.args.b.now _ c.args.place c.in-Some-Some.b.now refl second.3.0 second.1)

pub returns-in-None-None : goal.returns-in-None-None
returns-in-None-None c = λ _. slice_get_past c.args.a.now c.args.place c.in-None-None.ensures.lookup.3 ∙ sym (slice_get_past c.args.b.now c.args.place c.in-None-None.ensures'.lookup.3)
