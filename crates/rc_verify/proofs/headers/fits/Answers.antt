use Rattle.std.proofs.Common.{arith}
use Rattle.rc_verify.proofs.Sums.{few_product}
use Rattle.rc_verify.proofs.headers.fits.Goals as goal

pub overflow_mul-wanted : goal.overflow_mul-wanted
overflow_mul-wanted c = omega (arith, few_product c.from.result c.from-2.result (omega arith) (omega arith))

pub overflow_add-all : goal.overflow_add-all
overflow_add-all c = omega (arith, few_product c.from.result c.from-2.result (omega arith) (omega arith))
