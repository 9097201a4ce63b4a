-- Kind 3 up to 2006: dst_on[1] of a minute by its date. And the first day of kinds 0 and 3.
-- Assumes nothing.
use Prim.Native.Nat.{ℕ, suc, ◌+◌, ◌-◌, ◌/◌, ◌%◌, ◌≤◌, ◌<◌}
use mathlib.Core.Bool.{Bool, true, false, ◌&&◌, ◌||◌}
use mathlib.Core.Logic.{inr}
use mathlib.Core.Path.{◌≡◌, refl, ap, ap₂, subst, ◌∙◌}
use native.Mathlib.Decide.{ℕ_discrete, dec_lt}
use native.Mathlib.Omega.{arith}
use lib.Dec.{leb, ltb, eqb, lit≤}
use borrow.Author.Tests.{le-leb, lt-leb, lt-ltb, le-ltb, eq-eqb, ne_eqb}
use Rattle.bits.specs.Bits.{pick}
use Rattle.gregorian.specs.Gregorian.{first_year, leap_year, month_lengths, before, months_of, year_length, lengths_from, year_lengths, walk, year_of_day, month_start}
use Rattle.gregorian.specs.declared.Place.{Place}
use Rattle.gregorian.proofs.Walk.{before-mono}
use Rattle.gregorian.proofs.Months.{Placed, placed, year-place, month-place}
use Rattle.calendar.specs.Calendar.{date_from, date_at}
use Rattle.codewords.specs.CodeWords.{daylight_number}
use Rattle.plan.specs.Plan.{has_changes, march_sunday, spring_day, autumn_day, spring_row, autumn_row, spring_day_of, autumn_day_of, within, changing, daylight_at}
use Rattle.plan.specs.Earlier.{LastSunday, from_april_sunday, before_october_sunday, EarlierStates, FirstDay}
use Rattle.plan.specs.Theorems.{FirstSunday}
use Rattle.plan.specs.declared.Plan.{Plan}
use Rattle.plan.proofs.Laws.{year-of, sunday, month-starts}
use Rattle.plan.proofs.Follows.{high_bit}
use Rattle.plan.proofs.Earlier.{with-changes, earlier-law}

start-mono : (y j k : ℕ) → j ≤ k → month_start y j ≤ month_start y k
unfolding month_start
start-mono y j k h = omega (arith, before-mono (months_of (first_year + y)) j k h)

-- day rest of a month, counted from 0: it is from the month's first Sunday on exactly if its own Sunday is of the month
from-first-sunday : (start sunday day rest : ℕ) → FirstSunday start sunday → start + rest ≡ day → leb sunday day ≡ ltb ((day % 7 + 6) % 7) (rest + 1)
from-first-sunday start sunday day rest f e =
    elim (dec_lt day sunday) [
      | yes g ↦ rw (lt-leb sunday day g, le-ltb ((day % 7 + 6) % 7) (rest + 1) (omega (arith, f)))
      | no g ↦ rw (le-leb sunday day (omega arith), lt-ltb ((day % 7 + 6) % 7) (rest + 1) (omega (arith, f)))
    ]

-- the same of a month of 31 days: it is before the last Sunday exactly if its own Sunday is before the last seven days
before-last-sunday : (start sunday day rest : ℕ) → LastSunday (start + 31) sunday → start + rest ≡ day → rest < 31
    → ltb day sunday ≡ ltb (rest + 1) (25 + (day % 7 + 6) % 7)
before-last-sunday start sunday day rest l e h =
    elim (dec_lt day sunday) [
      | yes g ↦ rw (lt-ltb day sunday g, lt-ltb (rest + 1) (25 + (day % 7 + 6) % 7) (omega (arith, l)))
      | no g ↦ rw (le-ltb day sunday (omega arith), le-ltb (rest + 1) (25 + (day % 7 + 6) % 7) (omega (arith, l)))
    ]

-- a day of a month, by the month and the day in it, both counted from 0
module _ (y day month rest : ℕ) (low : month_start y month + rest ≡ day) (high : day < month_start y (suc month)) where
  abbrev since : ℕ
  since = (day % 7 + 6) % 7

  in-spring : (sunday : ℕ) → FirstSunday (month_start y 3) sunday → leb sunday day ≡ (ltb 4 (month + 1) || (eqb (month + 1) 4 && ltb since (rest + 1)))
  in-spring sunday f =
      elim (dec_lt month 3) [
        | yes l ↦ rw (lt-leb sunday day (omega (arith, f.1, start-mono y (suc month) 3 l)), le-ltb 4 (month + 1) (omega arith), ne_eqb (month + 1) 4 (λ e. omega arith))
        | no l ↦
            elim (ℕ_discrete month 3) [
              | yes e ↦
                  let same : month_start y month ≡ month_start y 3 = ap (month_start y) e in
                  rw (le-ltb 4 (month + 1) (omega arith), eq-eqb (month + 1) 4 (omega arith))
                  (from-first-sunday (month_start y 3) sunday day rest f (omega (arith, same)))
              | no n ↦ rw (le-leb sunday day (omega (arith, f.2, (month-starts y).1, start-mono y 4 month (omega arith))), lt-ltb 4 (month + 1) (omega arith))
            ]
      ]

  in-autumn : (sunday : ℕ) → LastSunday (month_start y 10) sunday → ltb day sunday ≡ (ltb (month + 1) 10 || (eqb (month + 1) 10 && ltb (rest + 1) (25 + since)))
  in-autumn sunday l =
      elim (dec_lt month 9) [
        | yes h ↦ rw (lt-ltb day sunday (omega (arith, l.2, (month-starts y).2, start-mono y (suc month) 9 h)), lt-ltb (month + 1) 10 (omega arith))
        | no h ↦
            elim (ℕ_discrete month 9) [
              | yes e ↦
                  let same : month_start y month ≡ month_start y 9 = ap (month_start y) e in
                  let end : month_start y (suc month) ≡ month_start y 10 = ap (λ (k : ℕ). month_start y (suc k)) e in
                  let last : LastSunday (month_start y 9 + 31) sunday = subst (λ (n : ℕ). LastSunday n sunday) (month-starts y).2 l in
                  rw (le-ltb (month + 1) 10 (omega arith), eq-eqb (month + 1) 10 (omega arith))
                  (before-last-sunday (month_start y 9) sunday day rest last (omega (arith, same)) (omega (arith, same, end, (month-starts y).2)))
              | no n ↦
                  rw (
                    le-ltb day sunday (omega (arith, l.1, start-mono y 10 month (omega arith))),
                    le-ltb (month + 1) 10 (omega arith),
                    ne_eqb (month + 1) 10 (λ e. omega arith),
                  )
            ]
      ]

-- the tests of a date
module _ (t : ℕ) (q : Placed (t / 1440)) where
  abbrev in-year : ℕ
  in-year = t / 1440 - before year_lengths q.year

  abbrev in-month : ℕ
  in-month = in-year - before (months_of (first_year + q.year)) q.month

  low : month_start q.year q.month + in-month ≡ t / 1440
  unfolding month_start
  low = omega (arith, q.in_year.low, q.in_month.low)

  high : t / 1440 < month_start q.year (suc q.month)
  unfolding month_start
  high = omega (arith, q.in_year.low, q.in_month.high)

  from-april-sunday : (sunday : ℕ) → FirstSunday (month_start q.year 3) sunday → leb sunday (t / 1440) ≡ from_april_sunday (date_at t)
  unfolding date_at date_from
  from-april-sunday sunday f = rw (month-place (t / 1440) q) (in-spring q.year (t / 1440) q.month in-month low high sunday f)

  before-october-sunday : (sunday : ℕ) → LastSunday (month_start q.year 10) sunday → ltb (t / 1440) sunday ≡ before_october_sunday (date_at t)
  unfolding date_at date_from
  before-october-sunday sunday l = rw (month-place (t / 1440) q) (in-autumn q.year (t / 1440) q.month in-month low high sunday l)

-- dst_on[1] of kinds 0 and 3
on-between : (p : Plan) (t y : ℕ) → has_changes p.kind ≡ true → (year_of_day (t / 1440)).index ≡ y
    → daylight_number (daylight_at p t) / 2 ≡ pick (leb (spring_day_of p y) (t / 1440) && ltb (t / 1440) (autumn_day_of p y)) 1 0
unfolding daylight_at changing within
on-between p t y c e =
    rw (c, e) (high_bit (within (spring_day_of p y) (autumn_day_of p y) (t / 1440)) (within (spring_day_of p y + 1) (autumn_day_of p y + 1) (t / 1440)))

pub earlier-states : EarlierStates
unfolding spring_day_of autumn_day_of
earlier-states p t k h early =
    let q = placed (t / 1440) (omega arith) in
    let e : (year_of_day (t / 1440)).index ≡ q.year = ap (λ (x : Place). x.index) (year-place (t / 1440) q) in
    let law = earlier-law p q.year k (omega (arith, e, year-of t)) in
    let spring = from-april-sunday t q (spring_day (spring_row p q.year) q.year) law.1 in
    let autumn = before-october-sunday t q (autumn_day (autumn_row p q.year) q.year) law.4 in
    on-between p t q.year (with-changes p (inr k)) e ∙ ap (λ (b : Bool). pick b 1 0) (ap₂ ◌&&◌ spring autumn)

-- ---- the first day

march-late : (b : Bool) → 1 ≤ before (month_lengths b) 2
unfolding before month_lengths
march-late true = lit≤ tt
march-late false = lit≤ tt

after-first-day : (p : Plan) → 0 < spring_day_of p 0
unfolding spring_day_of spring_day march_sunday month_start months_of
after-first-day p = omega (arith, (sunday (month_start 0 2)).1, march-late (leap_year (first_year + 0)))

first-year : (year_of_day 0).index ≡ 0
unfolding year_of_day walk year_lengths lengths_from year_length months_of month_lengths before leap_year
first-year = refl

pub first-day : FirstDay
unfolding daylight_at changing within
first-day p t c h =
    let d : t / 1440 ≡ 0 = omega arith in
    rw (with-changes p c, d, first-year, lt-leb (spring_day_of p 0) 0 (after-first-day p), lt-leb (spring_day_of p 0 + 1) 0 (omega arith))
