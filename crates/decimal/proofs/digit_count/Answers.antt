use native.Mathlib.Omega.{arith}
use Rattle.decimal.proofs.Laws.{width_small, width-more, width_one, width-le}
use Rattle.decimal.proofs.digit_count.Goals as goal

pub overflow_add-count : goal.overflow_add-count
overflow_add-count c = omega (arith, width_one c.loop-rest.rest, width-le 9 c.args.n (omega arith))

pub loop-rest-preserved : goal.loop-rest-preserved
loop-rest-preserved c = (omega arith, omega (arith, width-more c.loop-rest.rest (omega arith)))

pub returns : goal.returns
returns c = omega (arith, width_small c.loop-rest.rest (omega arith))
