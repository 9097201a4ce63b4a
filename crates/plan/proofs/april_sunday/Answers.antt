-- `plan::april_sunday` meets its contract.
-- Assumes nothing.
use mathlib.Core.Path.{ap, ◌∙◌}
use native.Mathlib.Omega.{arith}
use Rattle.gregorian.proofs.Months.{month-start-in-range}
use Rattle.plan.specs.Plan.{first_sunday, april_sunday}
use Rattle.plan.proofs.april_sunday.Goals as goal

pub first_sunday-requires : goal.first_sunday-requires
first_sunday-requires c =
    rw c.month_start.ensures (month-start-in-range c.args.year.since_first 3 (omega arith) (omega arith))

pub returns : goal.returns
unfolding april_sunday
returns c = c.first_sunday.ensures ∙ ap first_sunday c.month_start.ensures
