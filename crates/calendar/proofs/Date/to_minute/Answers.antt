-- `calendar::Date::to_minute` meets its contract: the tests are those of a real date, and a real date's day is in the range.
-- Assumes nothing.
use Prim.Native.Nat.{◌+◌, ◌-◌, ◌≤◌, ◌<◌}
use mathlib.Core.List.{[], ◌∷◌}
use mathlib.Core.Path.{◌≡◌, sym, ap, ◌∙◌}
use mathlib.Core.Bool.{true}
use native.Mathlib.Omega.{arith}
use Rattle.gregorian.specs.Gregorian.{first_year, year_count, day_count, month_start}
use Rattle.questions.specs.Questions.{asked}
use Rattle.calendar.specs.Calendar.{real_date, day_number, minute_at}
use Rattle.calendar.specs.Answer.{found, minute_questions, minute_of_date}
use Rattle.calendar.specs.declared.Date.{Date}
use Rattle.calendar.proofs.Dates.{Real, month_test, real-month, real-parts, month-unreal, true-real, day-in-range}
use Rattle.calendar.proofs.Date.to_minute.Goals as goal
use Rattle.calendar.proofs.Date.to_minute.Goals.{After-has_real_day, After-month_start, After-struct_known-2-1, Else-not-has_real_day, Else-not-has_real_month}

pub returns-then-not-has_real_month : goal.returns-then-not-has_real_month
unfolding minute_of_date minute_questions asked
returns-then-not-has_real_month c =
    rw (month-unreal c.args.self (sym c.has_real_month.ensures ∙ c.if-not-has_real_month.true))

-- the year and the month are real
tested : (c : Else-not-has_real_month) → month_test c.args.self ≡ true
tested c = sym c.has_real_month.ensures ∙ c.if-not-has_real_month.false

pub overflow_sub-years : goal.overflow_sub-years
overflow_sub-years c =
    omega (arith, real-month c.args.self (tested (goal.at.overflow_sub-years c).Else-not-has_real_month))

pub overflow_sub-month : goal.overflow_sub-month
overflow_sub-month c =
    omega (arith, real-month c.args.self (tested (goal.at.overflow_sub-month c).Else-not-has_real_month))

module _ (c : After-struct_known-2-1) where
  abbrev date : Date
  date = c.args.self

  real : (first_year ≤ date.year) × (date.year < first_year + year_count) × (1 ≤ date.month) × (date.month ≤ 12)
  real = real-month date (tested c.before.before)

  same-year : first_year + (date.year - first_year) ≡ date.year
  same-year = omega (arith, real)

pub has_real_day-requires : goal.has_real_day-requires
has_real_day-requires c =
    omega (arith, real (goal.at.has_real_day-requires c).After-struct_known-2-1)

-- the answer to question 15
answer : (c : After-has_real_day) → real_date (date c.before) ≡ c.has_real_day.result
answer c =
    real-parts (date c.before) (tested c.before.before.before)
    ∙ sym (rw (same-year c.before) at c.has_real_day.ensures)

pub returns-then-not-has_real_day : goal.returns-then-not-has_real_day
unfolding minute_of_date minute_questions asked
returns-then-not-has_real_day c =
    rw (answer (goal.at.returns-then-not-has_real_day c).After-has_real_day ∙ c.if-not-has_real_day.true)

-- a date that passed the tests is real
passed : (c : Else-not-has_real_day) → Real (date c.before.before)
passed c = true-real (date c.before.before) (answer c.before ∙ c.if-not-has_real_day.false)

pub month_start-requires : goal.month_start-requires
month_start-requires c =
    omega (arith, passed (goal.at.month_start-requires c).Else-not-has_real_day)

-- the month's first day and the day make the day's number
module _ (c : After-month_start) where
  abbrev self : Date
  self = date c.before.before.before

  number : c.month_start.result + (self.day - 1) ≡ day_number self
  unfolding day_number month_start
  number = omega (arith, rw (same-year c.before.before.before) at c.month_start.ensures)

  small : day_number self < day_count
  small = day-in-range self (passed c.before)

pub overflow_sub-day : goal.overflow_sub-day
overflow_sub-day c = omega (arith, passed (goal.at.overflow_sub-day c).Else-not-has_real_day)

pub overflow_add-day : goal.overflow_add-day
overflow_add-day c =
    omega (arith, number (goal.at.overflow_add-day c).After-month_start, small (goal.at.overflow_add-day c).After-month_start)

pub overflow_mul-result : goal.overflow_mul-result
overflow_mul-result c =
    omega (arith, number (goal.at.overflow_mul-result c).After-month_start, small (goal.at.overflow_mul-result c).After-month_start)

pub overflow_add-result : goal.overflow_add-result
overflow_add-result c =
    omega (arith, number (goal.at.overflow_add-result c).After-month_start, small (goal.at.overflow_add-result c).After-month_start, passed (goal.at.overflow_add-result c).Else-not-has_real_day)

pub overflow_mul-result-2 : goal.overflow_mul-result-2
overflow_mul-result-2 c =
    omega (arith, number (goal.at.overflow_mul-result-2 c).After-month_start, small (goal.at.overflow_mul-result-2 c).After-month_start, passed (goal.at.overflow_mul-result-2 c).Else-not-has_real_day)

pub overflow_add-result-2 : goal.overflow_add-result-2
overflow_add-result-2 c =
    omega (arith, number (goal.at.overflow_add-result-2 c).After-month_start, small (goal.at.overflow_add-result-2 c).After-month_start, passed (goal.at.overflow_add-result-2 c).Else-not-has_real_day)

pub returns : goal.returns
unfolding minute_of_date minute_questions asked minute_at
returns c =
    rw (answer (goal.at.returns c).After-has_real_day ∙ c.if-not-has_real_day.false) (ap (λ t. found (t ∷ [])) (omega (arith, number (goal.at.returns c).After-month_start)))
