use Rattle.std.proofs.Common.{◌∙◌, ap, arith, nat_eq, rules, sym, w64}
use Rattle.std.proofs.lemmas.Nat.Bits.{bit_at_clear_same, bit_at_set_same, bit_at_set_other}
use Rattle.rc_split.proofs.Marks.{mark_written, other_bits}
use Rattle.rc_split.proofs.rows.mark.Goals as goal

pub returns-then-held : goal.returns-then-held
returns-then-held c = mark_written c.args.marks.now c.args.place _ c.args.held (omega (arith, c.requires, c.told-marks)) (ap (λ b. nat_eq b 1) (bit_at_set_same w64 _ _ (omega arith)) ∙ sym c.if-held.true) (λ i ne. bit_at_set_other w64 _ _ (omega arith) i ne)

pub returns-else-held : goal.returns-else-held
returns-else-held c = mark_written c.args.marks.now c.args.place _ c.args.held (omega (arith, c.requires, c.told-marks)) (ap (λ b. nat_eq b 1) (bit_at_clear_same w64 _ _ (omega arith)) ∙ sym c.if-held.false) (λ i ne. other_bits _ _ i (search rules) (omega arith) ne)
