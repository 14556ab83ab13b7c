use Rattle.std.proofs.Common.{◌≡◌, ◌++◌, drop, length, refl, rules, take, ap, ◌∙◌}
use Rattle.rc_run.specs.Jobs.{Job}
use Rattle.rc_run.specs.Lending.{overwritten}
use Rattle.rc_run.proofs.job.Job.bytes.Goals as goal

pub returns : goal.returns
returns c =
    let a = c.self.inside in
    let many : a.bytes.len ≡ length a.bytes.items = search rules in (
      (
        refl,
        λ w.
            ap (λ n. record { request = a.request; bytes = take n (w ++ drop (length w) a.bytes.items); starved = a.starved }) many
            ∙ ap (λ (j : Job). record j { bytes = overwritten j.bytes w }) c.self.view_is,
      ),
      record { writes_back = tt; value = c.deref_mut.ensures.value ∙ ap (λ (j : Job). j.bytes) c.self.view_is },
    )
