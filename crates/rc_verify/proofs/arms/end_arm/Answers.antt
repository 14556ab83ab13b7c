use Rattle.rc_verify.proofs.Joining.{alike_same, above, below}
use Rattle.rc_verify.proofs.arms.end_arm.Goals as goal

pub join_end-requires-clause-alike : goal.join_end-requires-clause-alike
join_end-requires-clause-alike c = λ e y z.
    let g = c.forget_peeked.ensures.each z in
    alike_same _ _ _ (below _ _ g) (above _ _ g) (c.requires.alike e y z)

pub returns-clause-ends : goal.returns-clause-ends
returns-clause-ends c = record {
  before = c.join_end.ensures.before;
  end = _;
  forgets = c.forget_peeked.ensures.each;
  of = c.join_end.ensures.of;
  joins = c.join_end.ensures.joins;
}
