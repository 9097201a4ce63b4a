-- `plan::autumn_day` meets its contract.
-- Assumes nothing.
use native.Mathlib.Omega.{arith}
use Rattle.gregorian.proofs.Months.{month-start-in-range}
use Rattle.plan.specs.Plan.{autumn_day, november_sunday, weeks}
use Rattle.plan.proofs.Laws.{autumn-small, november-late}
use Rattle.plan.proofs.autumn_day.Goals as goal

pub first_sunday-requires : goal.first_sunday-requires
first_sunday-requires c =
    rw c.month_start.ensures (month-start-in-range c.args.year.since_first 10 (omega arith) (omega arith))

pub overflow_sub-result : goal.overflow_sub-result
unfolding november_sunday
overflow_sub-result c =
    rw (c.first_sunday.ensures, c.month_start.ensures) (omega (arith, november-late c.args.year.since_first))

pub overflow_mul-result : goal.overflow_mul-result
unfolding weeks
overflow_mul-result c = rw c.weeks_of.ensures (omega arith)

pub returns : goal.returns
unfolding autumn_day november_sunday
returns c = rw (c.weeks_of.ensures, c.first_sunday.ensures, c.month_start.ensures)

pub overflow_add-result : goal.overflow_add-result
unfolding autumn_day november_sunday
overflow_add-result c = omega (arith, returns c, autumn-small c.args.row c.args.year.since_first (omega arith))
