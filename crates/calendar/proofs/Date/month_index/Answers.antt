-- `calendar::Date::month_index` meets its contract: the parts of the packed day are those of the definition.
-- Assumes nothing.
use Prim.Native.Nat.{ℕ, ◌/◌, ◌<◌}
use mathlib.Core.Path.{◌≡◌}
use native.Mathlib.Omega.{arith}
use borrow.Author.Tests.{lt-ltb, le-ltb}
use Rattle.gregorian.specs.Gregorian.{day_count, year_of_day}
use Rattle.calendar.specs.Calendar.{minute_count, date_from, date_at, month_index}
use Rattle.gregorian.proofs.Months.{placed, year-index}
use Rattle.calendar.proofs.Dates.{packed-year, packed-month}
use Rattle.calendar.proofs.Date.month_index.Goals as goal
use Rattle.calendar.proofs.Date.month_index.Goals.{After-packed_day-packed}

module _ (c : After-packed_day-packed) where
  abbrev day : ℕ
  day = c.args.minute / 1440

  real : day < day_count
  real = omega arith

  year : c.packed_day-packed.result / 512 ≡ (year_of_day day).index
  year = packed-year day _ real c.packed_day-packed.ensures

pub overflow_mul-result : goal.overflow_mul-result
overflow_mul-result c =
    record { fits = omega (arith, year (goal.at.overflow_mul-result c).After-packed_day-packed, year-index (day (goal.at.overflow_mul-result c).After-packed_day-packed) (placed (day (goal.at.overflow_mul-result c).After-packed_day-packed) (real (goal.at.overflow_mul-result c).After-packed_day-packed))) }

pub overflow_add-result : goal.overflow_add-result
overflow_add-result c =
    record { fits = omega (arith, year (goal.at.overflow_add-result c).After-packed_day-packed, year-index (day (goal.at.overflow_add-result c).After-packed_day-packed) (placed (day (goal.at.overflow_add-result c).After-packed_day-packed) (real (goal.at.overflow_add-result c).After-packed_day-packed))) }

pub returns-then-minute-lt-MINUTES : goal.returns-then-minute-lt-MINUTES
unfolding month_index date_at date_from
returns-then-minute-lt-MINUTES c =
    rw (lt-ltb c.args.minute minute_count c.if-minute-lt-MINUTES.true, year (goal.at.returns-then-minute-lt-MINUTES c).After-packed_day-packed, packed-month (day (goal.at.returns-then-minute-lt-MINUTES c).After-packed_day-packed) _ (real (goal.at.returns-then-minute-lt-MINUTES c).After-packed_day-packed) c.packed_day-packed.ensures) (omega arith)

pub returns-else-minute-lt-MINUTES : goal.returns-else-minute-lt-MINUTES
unfolding month_index
returns-else-minute-lt-MINUTES c = rw (le-ltb _ _ c.if-minute-lt-MINUTES.false)
