-- `gregorian::Year::of_day` meets its contract: day / 366 is the year or one short, and the closed form tells which.
-- Assumes nothing.
use Prim.Native.Nat.{ℕ, ◌+◌, ◌/◌, ◌<◌}
use mathlib.Core.Path.{◌≡◌, ap, sym}
use native.Mathlib.Numerals.{add-one}
use native.Mathlib.Omega.{arith}
use Rattle.gregorian.specs.Gregorian.{year_count, year_of_day}
use Rattle.gregorian.specs.declared.Place.{Place}
use Rattle.gregorian.proofs.Years.{before-closed, year-at, guess-low, guess-high, in-range}
use Rattle.gregorian.proofs.Year.of_day.Goals as goal
use Rattle.gregorian.proofs.Year.of_day.Goals.{then-days_before-day, else-days_before-day, Joined-days_before-day}

-- a year of the range, and that of a day
IsYearOf : ℕ → ℕ → Type 0
IsYearOf day k = (k < year_count) × (k ≡ (year_of_day day).index)

chosen : (c : Joined-days_before-day) → IsYearOf c.args.day c.if-days_before-day.since_first
unfolding IsYearOf
chosen c =
    let day = c.args.day in
    let g = c.args.day / 366 in
    let e = c.days_before.ensures in
    let f = before-closed (g + 1) (omega arith) in
    elim c.if-days_before-day.branch [
      | then-days_before-day w ↦
          let k = in-range (g + 1) (omega arith) (omega arith) in
          let is = year-at day (g + 1) k (omega arith) (omega (arith, guess-high g (omega arith))) in
          rw w.since_first-is (k, sym (ap (λ (p : Place). p.index) is))
      | else-days_before-day w ↦
          let is = year-at day g (omega arith) (omega (arith, guess-low g (omega arith))) (rw (← add-one g) (omega arith)) in
          rw w.since_first-is (omega arith, sym (ap (λ (p : Place). p.index) is))
    ]

pub invariant_of-result : goal.invariant_of-result
unfolding IsYearOf
invariant_of-result c = record { within = (chosen (goal.at.invariant_of-result c).Joined-days_before-day).0 }

pub returns : goal.returns
unfolding IsYearOf
returns c = (chosen (goal.at.returns c).Joined-days_before-day).1
