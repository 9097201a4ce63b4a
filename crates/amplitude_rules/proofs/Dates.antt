-- The fields of values are those of the date of their minute, and the seconds show them.
-- Assumes nothing.
use Prim.Native.Nat.{ℕ, ◌+◌, ◌/◌, ◌%◌, ◌^◌, ◌<◌}
use mathlib.Core.Bool.{true}
use mathlib.Core.List.{List}
use mathlib.Core.Path.{◌≡◌, refl, ◌∙◌}
use native.Mathlib.Nat.{add-sub_cancel}
use native.Mathlib.Omega.{arith}
use Rattle.bits.specs.Bits.{pick, bit, bits}
use Rattle.symbols.specs.Symbols.{fill}
use Rattle.gregorian.specs.Gregorian.{first_year, leap_year, year_of_day}
use Rattle.gregorian.proofs.Months.{Placed, placed, year-place, month-place, year-index}
use Rattle.calendar.specs.Calendar.{date_from, date_at}
use Rattle.amplitude_rules.specs.Amplitude.{table1, digits, sign_bits, leap_mark, legal_values, fields_of, symbols}
use Rattle.amplitude_rules.specs.Theorems.{FieldsOfDate, Shows, DigitsShown, DigitSeconds, FlagSeconds}
use Rattle.amplitude_rules.specs.declared.Fields.{Fields}
use Rattle.amplitude_rules.specs.declared.Values.{Values}
use Rattle.amplitude_rules.proofs.Digits.{next}
use Rattle.amplitude_rules.proofs.Facts.{legal, mark-small}

pub fields-of-date : FieldsOfDate
unfolding fields_of date_at date_from
fields-of-date r h =
    let day : ℕ = r.minute / 1440 in
    let p : Placed day = placed day (omega arith) in
    record {
      minute = refl;
      hour = refl;
      day = rw (month-place day p, year-place day p, add-sub_cancel p.month 1) (omega (arith, p.in_month.low));
      year = refl;
    }

-- ---- the digits of the date

-- the year of the range, by its last two digits
two_digits : (y : ℕ) → y < 100 → ((first_year + y) % 100 / 10 ≡ y / 10) × ((first_year + y) % 10 ≡ y % 10)
two_digits y h = (let e : (first_year + y) % 100 ≡ y = omega arith in rw e, omega arith)

module _ (r : Values) where
  abbrev x : Fields
  x = fields_of r

  abbrev s : List ℕ
  s = symbols r

  -- the seconds of each field
  seconds :
      (Shows s 1 3 (x.minute / 10) × Shows s 5 4 (x.minute % 10))
      × (Shows s 12 2 (x.hour / 10) × Shows s 15 4 (x.hour % 10))
      × (Shows s 22 2 (x.day / 100) × Shows s 25 4 (x.day / 10 % 10) × Shows s 30 4 (x.day % 10))
      × Shows s 36 3 x.sign
      × Shows s 40 4 x.tenths
      × (Shows s 45 4 (x.year / 10) × Shows s 50 4 (x.year % 10))
  unfolding symbols fill table1 digits bits
  seconds = ((refl, refl), (refl, refl), (refl, refl, refl), refl, refl, (refl, refl))

  shown : legal_values r ≡ true → DigitsShown s r (date_at r.minute)
  unfolding sign_bits
  shown h =
      let l = legal r h in
      let f = fields-of-date r l.minute in
      let p = placed (r.minute / 1440) (omega (arith, l.minute)) in
      let two = two_digits x.year (unfold fields_of in year-index (r.minute / 1440) p) in
      record {
        minute = rw (← f.minute) seconds.0;
        hour = rw (← f.hour) seconds.1;
        day = rw (← f.day) seconds.2;
        plus = λ e. seconds.3 ∙ unfold fields_of in rw e;
        minus = λ e. seconds.3 ∙ unfold fields_of in rw e;
        tenths = seconds.4 ∙ unfold fields_of in refl;
        year = rw (← f.year, two.0, two.1) seconds.5;
      }

pub digit-seconds : DigitSeconds
digit-seconds = shown

-- ---- the flags

one_bit : (x : ℕ) → x < 2 → x / 2 ^ 0 % 2 ≡ x
one_bit x h = omega arith

high_bit : (x : ℕ) → x < 4 → x / 2 ^ 1 % 2 ≡ x / 2
high_bit x h = omega arith

low_bit : (x : ℕ) → x / 2 ^ 0 % 2 ≡ x % 2
low_bit x = omega arith

pub flag-seconds : FlagSeconds
unfolding symbols fill table1 bits bit digits fields_of leap_mark
flag-seconds r h =
    let l = legal r h in
    let y = (year_of_day (r.minute / 1440)).index in
    let e : (date_at r.minute).year ≡ first_year + y = unfold date_at date_from in refl in
    rw e
    (next (one_bit (pick (leap_year (first_year + y)) 1 0) (mark-small (first_year + y)))
    (next (one_bit r.warning (omega (arith, l.warning)))
    (next (high_bit r.daylight (omega (arith, l.daylight)))
    (next (low_bit r.daylight) refl))))
