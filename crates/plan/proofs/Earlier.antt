-- Kind 3: its legality, the law up to 2006, and the plan's own rows.
-- Assumes nothing.
use Prim.Native.Nat.{ℕ, ◌+◌, ◌≤◌, ◌<◌}
use mathlib.Core.Bool.{true, false, and-false}
use mathlib.Core.Logic.{◌⊎◌, inl, inr}
use mathlib.Core.Path.{◌≡◌, refl, sym, subst}
use native.Mathlib.Decide.{ℕ_discrete}
use native.Mathlib.Omega.{arith}
use lib.Dec.{eqb}
use borrow.Author.Tests.{le-leb, lt-leb, eq-eqb, ne_eqb}
use Rattle.gregorian.specs.Gregorian.{first_year, leap_year, month_lengths, before, months_of, year_length, lengths_from, year_lengths, walk, year_of_day, month_of_day, month_start}
use Rattle.calendar.specs.Calendar.{date_from, date_at}
use Rattle.plan.specs.Plan.{has_changes, legal_rows, legal_plan, first_sunday, march_sunday, november_sunday, weeks, spring_day, autumn_day, april_sunday, april_row, is_earlier, spring_row, autumn_row, spring_day_of, autumn_day_of}
use Rattle.plan.specs.Theorems.{FirstSunday}
use Rattle.plan.specs.Earlier.{of_kind, LegalKinds, change_hour, HoursOfRows, LastSunday, EarlierLaw, EarlierDatesOf, EarlierDates, OwnRows, WithChanges}
use Rattle.plan.specs.declared.Plan.{Plan}
use Rattle.plan.proofs.Laws.{sunday, month-starts, november-late}
use Rattle.plan.proofs.Changes.{first-sundays}

-- ---- the kinds

pub legal-kinds : LegalKinds
unfolding legal_plan legal_rows has_changes
legal-kinds p = (refl, λ h. rw (ne_eqb p.kind 0 (λ e. omega arith), ne_eqb p.kind 3 (λ e. omega arith), lt-leb p.kind 2 (omega arith)))

pub with-changes : (p : Plan) → WithChanges p → has_changes p.kind ≡ true
unfolding has_changes
with-changes p (inl e) = rw e
with-changes p (inr e) = rw e

-- ---- the earlier law

-- the 4th or the 5th Sunday since M is the first in April
four-or-five : (y : ℕ) → (spring_day 13 y ≡ april_sunday y) ⊎ (spring_day 14 y ≡ april_sunday y)
unfolding spring_day april_sunday march_sunday weeks
four-or-five y =
    let a = (month-starts y).0 in
    let m = sunday (month_start y 2) in
    let f = sunday (month_start y 3) in
    elim (ℕ_discrete (first_sunday (month_start y 2) + 28) (first_sunday (month_start y 3))) [
      | yes e ↦ inl e
      | no n ↦ inr (omega arith)
    ]

april : (y : ℕ) → ((april_row y ≡ 13) ⊎ (april_row y ≡ 14)) × (spring_day (april_row y) y ≡ april_sunday y)
unfolding april_row
april y =
    elim (ℕ_discrete (spring_day 13 y) (april_sunday y)) [
      | yes e ↦ rw (eq-eqb (spring_day 13 y) (april_sunday y) e) (inl refl, e)
      | no n ↦
          rw (ne_eqb (spring_day 13 y) (april_sunday y) n)
          (inr refl, elim (four-or-five y) [ inl e ↦ absurd (n e) | inr e ↦ e ])
    ]

april-first : (y : ℕ) → FirstSunday (month_start y 3) (april_sunday y)
unfolding april_sunday
april-first y = sunday (month_start y 3)

pub hours-of-rows : HoursOfRows
hours-of-rows group week g w = (omega arith, omega arith)

at-two : (row : ℕ) → (row ≡ 13) ⊎ (row ≡ 14) → change_hour 1 row ≡ 2
at-two row (inl e) = omega arith
at-two row (inr e) = omega arith

-- row 36 is the Sunday before N
october : (y : ℕ) → LastSunday (month_start y 10) (autumn_day 36 y)
unfolding autumn_day weeks
october y =
    let n = (first-sundays y).1 in
    let l = november-late y in
    (omega arith, omega arith, omega arith)

-- the days of a year, by its law
pub earlier-days : (p : Plan) (y : ℕ) → is_earlier p.kind y ≡ true
    → (spring_day_of p y ≡ april_sunday y) × (autumn_day_of p y ≡ autumn_day 36 y)
unfolding spring_day_of autumn_day_of spring_row autumn_row
earlier-days p y e = rw e ((april y).1, refl)

pub own-days : (p : Plan) (y : ℕ) → is_earlier p.kind y ≡ false
    → (spring_day_of p y ≡ spring_day p.spring y) × (autumn_day_of p y ≡ autumn_day p.autumn y)
unfolding spring_day_of autumn_day_of spring_row autumn_row
own-days p y e = rw e (refl, refl)

earlier-holds : (kind y : ℕ) → kind ≡ 3 → first_year + y ≤ 2006 → is_earlier kind y ≡ true
unfolding is_earlier
earlier-holds kind y e h = rw (eq-eqb kind 3 e, le-leb (first_year + y) 2006 h)

pub earlier-law : EarlierLaw
unfolding spring_row autumn_row
earlier-law p y e h =
    rw (earlier-holds p.kind y e h, (april y).1) ((april y).0, april-first y, at-two (april_row y) (april y).0, refl, october y, refl)

dates : (p : Plan) → EarlierDatesOf (of_kind 3 p)
unfolding spring_day_of autumn_day_of spring_row autumn_row is_earlier april_row april_sunday spring_day autumn_day march_sunday november_sunday weeks first_sunday month_start date_at date_from year_of_day month_of_day walk year_lengths lengths_from year_length months_of month_lengths before leap_year
dates p = (refl, refl)

pub earlier-dates : EarlierDates
earlier-dates p e = subst (λ (k : ℕ). EarlierDatesOf (of_kind k p)) (sym e) (dates p)

-- ---- the plan's own rows

pub not_earlier : (kind y : ℕ) → (kind ≡ 3 → ⊥) ⊎ (2006 < first_year + y) → is_earlier kind y ≡ false
unfolding is_earlier
not_earlier kind y (inl n) = rw (ne_eqb kind 3 n)
not_earlier kind y (inr l) = rw (lt-leb (first_year + y) 2006 l) (and-false (eqb kind 3))

pub own-rows : OwnRows
unfolding spring_row autumn_row
own-rows p y o = rw (not_earlier p.kind y o) (refl, refl)
