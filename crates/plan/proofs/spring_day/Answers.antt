-- `plan::spring_day` meets its contract.
-- Assumes nothing.
use native.Mathlib.Omega.{arith}
use Rattle.gregorian.proofs.Months.{month-start-in-range}
use Rattle.plan.specs.Plan.{spring_day, march_sunday, weeks}
use Rattle.plan.proofs.Laws.{spring-small}
use Rattle.plan.proofs.spring_day.Goals as goal

pub first_sunday-requires : goal.first_sunday-requires
first_sunday-requires c =
    rw c.month_start.ensures (month-start-in-range c.args.year.since_first 2 (omega arith) (omega arith))

pub overflow_mul-result : goal.overflow_mul-result
unfolding weeks
overflow_mul-result c = rw c.weeks_of.ensures (omega arith)

pub returns : goal.returns
unfolding spring_day march_sunday
returns c = rw (c.weeks_of.ensures, c.first_sunday.ensures, c.month_start.ensures)

pub overflow_add-result : goal.overflow_add-result
unfolding spring_day march_sunday
overflow_add-result c = omega (arith, returns c, spring-small c.args.row c.args.year.since_first (omega arith))
