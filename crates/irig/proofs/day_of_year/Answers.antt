-- `irig::day_of_year` meets its contract.
-- Assumes nothing.
use Prim.Native.Nat.{◌/◌}
use native.Mathlib.Omega.{arith}
use Rattle.gregorian.proofs.Months.{Placed, placed, year-low, year-rest-is, year-index}
use Rattle.irig_rules.specs.Irig.{day_of_year}
use Rattle.irig.proofs.day_of_year.Goals as goal
use Rattle.irig.proofs.day_of_year.Goals.{Start}

place : (s : Start) → Placed (s.args.minute.index / 1440)
place s = placed (s.args.minute.index / 1440) (omega (arith, s.args.minute.within))

pub days_before-requires : goal.days_before-requires
days_before-requires c =
    omega (arith, c.of_day.ensures, year-index (c.args.minute.index / 1440) (place (goal.at.days_before-requires c).Start))

pub overflow_sub-result : goal.overflow_sub-result
overflow_sub-result c =
    rw (c.days_before.ensures, c.of_day.ensures) (year-low (c.args.minute.index / 1440) (place (goal.at.overflow_sub-result c).Start))

pub returns : goal.returns
unfolding day_of_year
returns c =
    rw (c.days_before.ensures, c.of_day.ensures, year-rest-is (c.args.minute.index / 1440) (place (goal.at.returns c).Start))
