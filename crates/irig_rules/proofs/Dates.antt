-- The time of a second is that of the date of its minute.
-- Assumes nothing.
use Prim.Native.Nat.{ℕ, ◌/◌}
use mathlib.Core.Path.{refl}
use native.Mathlib.Nat.{add-sub_cancel}
use native.Mathlib.Omega.{arith}
use Rattle.gregorian.proofs.Months.{Placed, placed, year-place, month-place}
use Rattle.calendar.specs.Calendar.{date_from, date_at}
use Rattle.irig_rules.specs.Irig.{day_of_year, clock_at}
use Rattle.irig_rules.specs.Theorems.{ClockOfDate}

pub clock-of-date : ClockOfDate
unfolding clock_at day_of_year date_at date_from
clock-of-date t x h =
    let day : ℕ = t / 1440 in
    let p : Placed day = placed day (omega arith) in
    record {
      day = rw (month-place day p, year-place day p, add-sub_cancel p.month 1) (omega (arith, p.in_month.low));
      hour = refl;
      minute = refl;
      second = refl;
    }
