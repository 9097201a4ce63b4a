-- `calendar::Date::at_minute` meets its contract: the parts of the packed day are those of the definition.
-- Assumes nothing.
use Prim.Native.Nat.{ℕ, ◌/◌, ◌<◌}
use native.Mathlib.Omega.{arith}
use Rattle.gregorian.specs.Gregorian.{day_count}
use Rattle.calendar.specs.Calendar.{date_from, date_at}
use Rattle.gregorian.proofs.Months.{placed, year-index}
use Rattle.calendar.proofs.Dates.{packed-year, packed-month, packed-rest}
use Rattle.calendar.proofs.Date.at_minute.Goals as goal
use Rattle.calendar.proofs.Date.at_minute.Goals.{After-packed_day-packed}

module _ (c : After-packed_day-packed) where
  abbrev day : ℕ
  day = c.args.minute / 1440

  real : day < day_count
  real = omega arith

pub overflow_add-result : goal.overflow_add-result
overflow_add-result c =
    record { fits = omega (arith, packed-year (day (goal.at.overflow_add-result c).After-packed_day-packed) _ (real (goal.at.overflow_add-result c).After-packed_day-packed) c.packed_day-packed.ensures, year-index (day (goal.at.overflow_add-result c).After-packed_day-packed) (placed (day (goal.at.overflow_add-result c).After-packed_day-packed) (real (goal.at.overflow_add-result c).After-packed_day-packed))) }

pub returns : goal.returns
unfolding date_at date_from
returns c =
    let e = c.packed_day-packed.ensures in
    rw (packed-year (day (goal.at.returns c).After-packed_day-packed) _ (real (goal.at.returns c).After-packed_day-packed) e, packed-month (day (goal.at.returns c).After-packed_day-packed) _ (real (goal.at.returns c).After-packed_day-packed) e, packed-rest (day (goal.at.returns c).After-packed_day-packed) _ (real (goal.at.returns c).After-packed_day-packed) e)
