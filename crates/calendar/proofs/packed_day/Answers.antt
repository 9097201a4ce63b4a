-- `calendar::packed_day` meets its contract: the year, the month and the day are those of the definition.
-- Assumes nothing.
use Prim.Native.Nat.{ℕ, ◌-◌, ◌<◌}
use mathlib.Core.Path.{◌≡◌, sym, ap, ◌∙◌}
use native.Mathlib.Omega.{arith}
use borrow.Author.Tests.{lt-ltb, le-ltb}
use Rattle.gregorian.specs.Gregorian.{before, year_lengths, year_of_day, month_of_day}
use Rattle.gregorian.specs.declared.Place.{Place}
use Rattle.gregorian.proofs.Months.{Placed, placed, year-low, year-rest-is, rest-in-year, month-of-rest, year-index, month-index, month-rest}
use Rattle.calendar.proofs.packed_day.Goals as goal
use Rattle.calendar.proofs.packed_day.Goals.{After-days_before, After-month_of_day-m}

pub returns-then-day-ge-DAYS : goal.returns-then-day-ge-DAYS
returns-then-day-ge-DAYS c = rw (le-ltb _ _ c.if-day-ge-DAYS.true)

pub days_before-requires : goal.days_before-requires
days_before-requires c =
    let day = c.args.day in
    rw c.year_index-years.ensures (omega (arith, year-index day (placed day c.if-day-ge-DAYS.false)))

module _ (c : After-days_before) where
  abbrev day : ℕ
  day = c.args.day

  place : Placed day
  place = placed day c.if-day-ge-DAYS.false

  first : c.days_before.result ≡ before year_lengths (year_of_day day).index
  first = c.days_before.ensures ∙ ap (before year_lengths) c.year_index-years.ensures

  rest : day - c.days_before.result ≡ (year_of_day day).rest
  rest = ap (λ (n : ℕ). day - n) first ∙ sym (year-rest-is day place)

pub overflow_sub-day : goal.overflow_sub-day
overflow_sub-day c =
    rw (first (goal.at.overflow_sub-day c).After-days_before) (year-low (day (goal.at.overflow_sub-day c).After-days_before) (place (goal.at.overflow_sub-day c).After-days_before))

pub month_of_day-m-requires : goal.month_of_day-m-requires
month_of_day-m-requires c =
    rest-in-year (day (goal.at.month_of_day-m-requires c).After-days_before) (place (goal.at.month_of_day-m-requires c).After-days_before) c.year_index-years.result (day (goal.at.month_of_day-m-requires c).After-days_before - c.days_before.result) c.year_index-years.ensures (rest (goal.at.month_of_day-m-requires c).After-days_before)

module _ (c : After-month_of_day-m) where
  months : c.month_of_day-m.result ≡ month_of_day (year_of_day (day c.before))
  months =
      let d = day c.before in
      c.month_of_day-m.ensures
      ∙ month-of-rest d (place c.before) c.year_index-years.result (d - c.days_before.result) c.year_index-years.ensures (rest c.before)

  small : (c.year_index-years.result < 100) × (c.month_of_day-m.result.index < 12) × (c.month_of_day-m.result.rest < 31)
  small =
      let d = day c.before in
      let p = place c.before in
      let index = ap (λ (m : Place). m.index) months in
      let left = ap (λ (m : Place). m.rest) months in
      (omega (arith, c.year_index-years.ensures, year-index d p), omega (arith, index, month-index d p), omega (arith, left, month-rest d p))

pub overflow_mul-result : goal.overflow_mul-result
overflow_mul-result c =
    record { fits = omega (arith, small (goal.at.overflow_mul-result c).After-month_of_day-m) }

pub overflow_mul-result-2 : goal.overflow_mul-result-2
overflow_mul-result-2 c =
    record { fits = omega (arith, small (goal.at.overflow_mul-result-2 c).After-month_of_day-m) }

pub overflow_add-result : goal.overflow_add-result
overflow_add-result c =
    record { fits = omega (arith, small (goal.at.overflow_add-result c).After-month_of_day-m) }

pub overflow_add-result-2 : goal.overflow_add-result-2
overflow_add-result-2 c =
    record { fits = omega (arith, small (goal.at.overflow_add-result-2 c).After-month_of_day-m) }

pub overflow_add-result-3 : goal.overflow_add-result-3
overflow_add-result-3 c =
    record { fits = omega (arith, small (goal.at.overflow_add-result-3 c).After-month_of_day-m) }

pub returns : goal.returns
returns c =
    let m = months (goal.at.returns c).After-month_of_day-m in
    rw (lt-ltb _ _ c.if-day-ge-DAYS.false)
    (omega (arith, c.year_index-years.ensures, ap (λ (p : Place). p.index) m, ap (λ (p : Place). p.rest) m))
