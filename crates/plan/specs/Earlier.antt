-- What holds of kind 3 (document 02, 6, "Daylight law before 2007"), and still of the others: the statements that proofs/ proves.
-- Assumes nothing.
use Rattle.std.specs.Prelude.{ℕ, ◌+◌, ◌-◌, ◌*◌, ◌/◌, ◌%◌, ◌≤◌, ◌<◌, Bool, false, ◌&&◌, ◌||◌, [], ◌∷◌, map, ◌⊎◌, ◌≢◌, ◌≡◌, ltb, eqb}
use Rattle.bits.specs.Bits.{pick}
use Rattle.gregorian.specs.Gregorian.{first_year, year_count, year_of_day, month_start}
use Rattle.calendar.specs.Calendar.{minute_count, date_at}
use Rattle.calendar.specs.declared.Date.{Date}
use Rattle.codewords.specs.CodeWords.{daylight_number}
use Rattle.codewords.specs.declared.DaylightState.TheVariants.{Standard, Daylight}
use Rattle.plan.specs.Plan.{legal_plan, spring_day, autumn_day, spring_row, autumn_row, spring_day_of, autumn_day_of, changing, daylight_at, next_row, row_at}
use Rattle.plan.specs.Theorems.{FirstSunday}
use Rattle.plan.specs.declared.Plan.{Plan}

-- ---- question 1

-- a plan with another kind
abbrev pub of_kind : ℕ → Plan → Plan
of_kind kind p =
    record { kind = kind; spring = p.spring; autumn = p.autumn; leap_month = p.leap_month; leap_sign = p.leap_sign; notice = p.notice }

-- "Question 1 takes kind 3 with kind 0's rows", and no kind above 3
abbrev pub LegalKinds : Type 0
LegalKinds = (p : Plan) → (legal_plan (of_kind 3 p) ≡ legal_plan (of_kind 0 p)) × (3 < p.kind → legal_plan p ≡ false)

-- ---- kind 3 up to 2006

-- a Sunday, and one of the seven days before a day
abbrev pub LastSunday : ℕ → ℕ → Type 0
LastSunday end day = (day % 7 ≡ 1) × (day < end) × (end ≤ day + 7)

-- the hour of a row of a season that begins at row first; the three groups of eight "change at 1, 2 and 3 o'clock local" (document 01,
-- "Next-change word")
abbrev pub change_hour : ℕ → ℕ → ℕ
change_hour first row = 1 + (row - first) / 8

abbrev pub HoursOfRows : Type 0
HoursOfRows =
    (group week : ℕ) → group < 3 → week < 8
    → (change_hour 1 (1 + group * 8 + week) ≡ group + 1) × (change_hour 25 (25 + group * 8 + week) ≡ group + 1)

-- as rows: 13 or 14, which falls on the first Sunday in April, and 36, which falls on the last Sunday in October; both at 2 o'clock
abbrev pub EarlierLaw : Type 0
EarlierLaw =
    (p : Plan) (y : ℕ) → p.kind ≡ 3 → first_year + y ≤ 2006
    → ((spring_row p y ≡ 13) ⊎ (spring_row p y ≡ 14))
    × FirstSunday (month_start y 3) (spring_day (spring_row p y) y)
    × (change_hour 1 (spring_row p y) ≡ 2)
    × (autumn_row p y ≡ 36)
    × LastSunday (month_start y 10) (autumn_day (autumn_row p y) y)
    × (change_hour 25 (autumn_row p y) ≡ 2)

-- as dates: 00:00 of a Sunday, and the days of the changes of 2000 to 2006
abbrev pub sunday_of : ℕ → ℕ → ℕ → Date
sunday_of year month day = record { year = year; month = month; day = day; hour = 0; minute = 0; weekday = 1 }

abbrev pub EarlierDatesOf : Plan → Type 0
EarlierDatesOf p =
    (map (λ y. date_at (spring_day_of p y * 1440)) (0 ∷ 1 ∷ 2 ∷ 3 ∷ 4 ∷ 5 ∷ 6 ∷ [])
    ≡ sunday_of 2000 4 2
    ∷ sunday_of 2001 4 1
    ∷ sunday_of 2002 4 7
    ∷ sunday_of 2003 4 6
    ∷ sunday_of 2004 4 4
    ∷ sunday_of 2005 4 3
    ∷ sunday_of 2006 4 2
    ∷ [])
    × (map (λ y. date_at (autumn_day_of p y * 1440)) (0 ∷ 1 ∷ 2 ∷ 3 ∷ 4 ∷ 5 ∷ 6 ∷ [])
    ≡ sunday_of 2000 10 29
    ∷ sunday_of 2001 10 28
    ∷ sunday_of 2002 10 27
    ∷ sunday_of 2003 10 26
    ∷ sunday_of 2004 10 31
    ∷ sunday_of 2005 10 30
    ∷ sunday_of 2006 10 29
    ∷ [])

abbrev pub EarlierDates : Type 0
EarlierDates = (p : Plan) → p.kind ≡ 3 → EarlierDatesOf p

-- the days since the Sunday on or before a date; weekday 0 is Saturday, 1 is Sunday
abbrev pub since_sunday : Date → ℕ
since_sunday d = (d.weekday + 6) % 7

-- a date from the first Sunday in April on: April is over, or the Sunday on or before the date is in April
abbrev pub from_april_sunday : Date → Bool
from_april_sunday d = ltb 4 d.month || (eqb d.month 4 && ltb (since_sunday d) d.day)

-- a date before the last Sunday in October, one of the days 25 to 31: October is to come, or the Sunday on or before the date is before the 25th
abbrev pub before_october_sunday : Date → Bool
before_october_sunday d = ltb d.month 10 || (eqb d.month 10 && ltb d.day (25 + since_sunday d))

-- as dates, of every minute: dst_on[1] is 1 from the first Sunday in April on and before the last Sunday in October
abbrev pub EarlierStates : Type 0
EarlierStates =
    (p : Plan) (t : ℕ) → p.kind ≡ 3 → t < minute_count → (date_at t).year ≤ 2006
    → daylight_number (daylight_at p t) / 2 ≡ pick (from_april_sunday (date_at t) && before_october_sunday (date_at t)) 1 0

-- ---- kind 3 from 2007 on

-- the rows of a year are the plan's own from 2007 on, and in every year of the other kinds
abbrev pub OwnRows : Type 0
OwnRows =
    (p : Plan) (y : ℕ) → (p.kind ≢ 3) ⊎ (2006 < first_year + y) → (spring_row p y ≡ p.spring) × (autumn_row p y ≡ p.autumn)

-- so kind 3 gives each minute from 2007 on the state and the row that kind 0 gives it
abbrev pub AsKind0From2007 : Type 0
AsKind0From2007 =
    (p : Plan) (t : ℕ) → 2006 < (date_at t).year
    → (daylight_at (of_kind 3 p) t ≡ daylight_at (of_kind 0 p) t) × (row_at (of_kind 3 p) t ≡ row_at (of_kind 0 p) t)

-- ---- kinds 0 and 3, with two changes in each year

abbrev pub WithChanges : Plan → Type 0
WithChanges p = (p.kind ≡ 0) ⊎ (p.kind ≡ 3)

-- in every year the spring day comes before the autumn day, by more than a day, and both lie in the year
abbrev pub ChangesOfYear : Type 0
ChangesOfYear =
    (p : Plan) (y : ℕ) → y < year_count
    → (spring_day_of p y + 1 < autumn_day_of p y)
    × ((year_of_day (spring_day_of p y)).index ≡ y)
    × ((year_of_day (autumn_day_of p y)).index ≡ y)

-- the first day of all has no change before it: its state is 00
abbrev pub FirstDay : Type 0
FirstDay = (p : Plan) (t : ℕ) → WithChanges p → t < 1440 → daylight_at p t ≡ Standard

-- the row sent: the year's spring row before its spring day, from then on its autumn row, and "from the autumn day on" the following
-- year's spring row
abbrev pub RowSent : Type 0
RowSent =
    (p : Plan) (t y : ℕ) → WithChanges p → (year_of_day (t / 1440)).index ≡ y
    → (t / 1440 < spring_day_of p y → row_at p t ≡ spring_row p y)
    × (spring_day_of p y ≤ t / 1440 → t / 1440 < autumn_day_of p y → row_at p t ≡ autumn_row p y)
    × (autumn_day_of p y ≤ t / 1440 → row_at p t ≡ spring_row p (y + 1))

-- so from the autumn day of 2006 on kind 3 sends the plan's own rows, and dst_on[1] picks
abbrev pub OwnRowsSent : Type 0
OwnRowsSent =
    (p : Plan) (t : ℕ) → p.kind ≡ 3 → t < minute_count → autumn_day_of p 6 ≤ t / 1440
    → row_at p t ≡ next_row p.spring p.autumn (daylight_at p t)

-- ---- kinds 0, 1 and 2 have the states and rows of document 01, "Plan"

-- kind 0: the states of the plan's own two days, and dst_on[1] picks the row
abbrev pub StatesOfKind0 : Type 0
StatesOfKind0 =
    (p : Plan) (t y : ℕ) → p.kind ≡ 0 → (year_of_day (t / 1440)).index ≡ y
    → (daylight_at p t ≡ changing (spring_day p.spring y) (autumn_day p.autumn y) (t / 1440))
    × (row_at p t ≡ next_row p.spring p.autumn (daylight_at p t))

-- kind 1: 00 and row 50; kind 2: 11 and row 51
abbrev pub StatesOfKinds1And2 : Type 0
StatesOfKinds1And2 =
    (p : Plan) (t : ℕ)
    → (p.kind ≡ 1 → (daylight_at p t ≡ Standard) × (row_at p t ≡ 50))
    × (p.kind ≡ 2 → (daylight_at p t ≡ Daylight) × (row_at p t ≡ 51))
