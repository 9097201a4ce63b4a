-- Days that end a month: the last minute of a month lies on one, and on each of them ends a month of 2000 or 2001.
-- Assumes nothing.
use Prim.Native.Nat.{ℕ, suc, ◌+◌, ◌-◌, ◌/◌, ◌%◌, ◌≤◌, ◌<◌}
use mathlib.Core.Bool.{Bool, true, false, not, ◌&&◌, ◌||◌}
use mathlib.Core.Path.{◌≡◌}
use native.Mathlib.Omega.{arith}
use lib.Dec.{T, ltb, eqb}
use lib.ListN.{get_or}
use borrow.Author.Tests.{ltb-true, eqb-true}
use Rattle.bits.specs.Bits.{first}
use Rattle.bits.proofs.Tests.{upto, upto-at, both_true, is_true}
use Rattle.questions.specs.Questions.{one_of}
use Rattle.gregorian.specs.Gregorian.{first_year, leap_year, month_lengths, months_of, year_length, lengths_from, year_lengths, before, walk, year_of_day, month_of_day, month_start}
use Rattle.gregorian.proofs.Walk.{before-suc}
use Rattle.gregorian.proofs.Months.{Placed, placed, length-months, year-place, month-place}
use Rattle.calendar.specs.Calendar.{date_at, date_from, last_of_month, first_day, last_minute}
use Rattle.calendar.proofs.LastMinute.{last-minute-date}
use Rattle.irig_rules.specs.Irig.{day_of_year}
use Rattle.irig_rules.specs.Reading.{ends_month}
use Rattle.irig_rules.specs.Theorems.{last_days}

-- ---- from months to days

ends : Bool → ℕ → Bool
ends b k = ends_month (before (month_lengths b) (suc k))

ends-all : (b : Bool) → T (upto (ends b) 12)
unfolding ends ends_month before month_lengths one_of
ends-all true = tt
ends-all false = tt

month-ends : (y k : ℕ) → k < 12 → ends_month (before (months_of y) (suc k)) ≡ true
unfolding months_of ends
month-ends y k h = is_true (ends_month (before (month_lengths (leap_year y)) (suc k))) (upto-at (ends (leap_year y)) 12 (ends-all (leap_year y)) k h)

-- the last day of a month, by its place in the year
module _ (day : ℕ) (p : Placed day) where
  abbrev year : ℕ
  year = first_year + p.year

  rest_end : (month_of_day (year_of_day day)).rest + 1 ≡ get_or (months_of (first_year + (year_of_day day).index)) (month_of_day (year_of_day day)).index 0
      → (year_of_day day).rest + 1 ≡ before (months_of year) (suc p.month)
  rest_end e =
      let f : day - before year_lengths p.year - before (months_of year) p.month + 1 ≡ get_or (months_of year) p.month 0 = rw (month-place day p, year-place day p) at e in
      rw (year-place day p) (omega (arith, before-suc (months_of year) p.month p.in_month.inside, p.in_month.low))

-- the last minute of a month is 23:59 of such a day
pub last-day : (t : ℕ) → last_of_month t ≡ true → (ends_month (day_of_year t) ≡ true) × (t % 1440 ≡ 1439)
unfolding day_of_year date_at date_from
last-day t h =
    let d = (last-minute-date t).0 h in
    let day : ℕ = t / 1440 in
    let p : Placed day = placed day (omega (arith, d.0)) in
    let k : (month_of_day (year_of_day day)).index + 1 - 1 ≡ (month_of_day (year_of_day day)).index = omega arith in (
      rw (rest_end day p (rw k at d.1)) (month-ends (first_year + p.year) p.month (omega (arith, p.in_month.inside, length-months (first_year + p.year)))),
      omega (arith, d.2, d.3),
    )

-- ---- from days to months

-- the first month of 2000 and 2001 that ends on day d
month-for : ℕ → ℕ
month-for d = first (λ k. eqb (day_of_year (last_minute k)) d) 0 24

found : ℕ → Bool
found d =
    not (ends_month d)
    || (ltb (month-for d) 24 && eqb (day_of_year (last_minute (month-for d))) d && eqb (last_minute (month-for d) % 1440) 1439 && one_of last_days d)

found_all : T (upto found 367)
unfolding found month-for ends_month one_of first day_of_year last_minute first_day month_start before year_of_day year_lengths lengths_from year_length months_of month_lengths leap_year walk
found_all = tt

-- a month that ends on day d, at 23:59, and the day's place in the list
pub record Month (d : ℕ) : Type 0 where
  pub month : ℕ
  pub small : month < 24
  pub day : day_of_year (last_minute month) ≡ d
  pub minute : last_minute month % 1440 ≡ 1439
  pub listed : one_of last_days d ≡ true

pub month-of : (d : ℕ) → d ≤ 366 → ends_month d ≡ true → Month d
unfolding found
month-of d h e =
    let k = month-for d in
    let a = ltb k 24 in
    let b = eqb (day_of_year (last_minute k)) d in
    let c = eqb (last_minute k % 1440) 1439 in
    let t : T (a && b && c && one_of last_days d) = rw e at (upto-at found 367 found_all d (omega arith)) in
    let u = both_true (a && b && c) (one_of last_days d) (is_true (a && b && c && one_of last_days d) t) in
    let v = both_true (a && b) c u.0 in
    let w = both_true a b v.0 in
    record {
      month = k;
      small = ltb-true k 24 w.0;
      day = eqb-true (day_of_year (last_minute k)) d w.1;
      minute = eqb-true (last_minute k % 1440) 1439 v.1;
      listed = u.1;
    }
