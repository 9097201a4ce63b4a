-- The symbols of values read back as these values.
-- Assumes nothing.
use Prim.Native.Nat.{ℕ, zero, suc, ◌+◌, ◌-◌, ◌*◌, ◌/◌, ◌%◌}
use mathlib.Core.Bool.{true}
use mathlib.Core.List.{List, ◌++◌}
use mathlib.Core.Path.{◌≡◌, refl, ap, ◌∙◌}
use native.Mathlib.Omega.{arith}
use lib.ListN.{length, take, replicate, length-append, length-replicate}
use lib.Seq.{take_at, drop_at}
use borrow.Author.Tests.{lt-ltb, le-leb, eq-eqb}
use Rattle.bits.specs.Bits.{bits, all}
use Rattle.bits.proofs.Tests.{and-true}
use Rattle.questions.specs.Questions.{asked}
use Rattle.symbols.specs.Symbols.{marker, fill, numbers}
use Rattle.symbols.proofs.Laws.{filled-reads}
use Rattle.gregorian.specs.Gregorian.{first_year, months_of, year_length, year_lengths, before, year_of_day}
use Rattle.gregorian.proofs.Months.{Placed, placed, months-short, year-index, year-rest, year-low, year-rest-is}
use Rattle.calendar.specs.Calendar.{last_of_month}
use Rattle.plan.specs.Plan.{min_frame}
use Rattle.amplitude_rules.specs.declared.Values.{Values}
use Rattle.amplitude_rules.specs.Amplitude.{table1, digits, leap_mark, fields_of, symbols}
use Rattle.amplitude_rules.specs.Reading.{is_mark, layout_fits, numbers_in, values_of, decimal_digits, real_fields, numbers_fit, fields_fit, read_questions, accepted, read_amplitude}
use Rattle.amplitude_rules.proofs.Digits.{Small, digits-within, fields-digits}
use Rattle.amplitude_rules.proofs.Facts.{Legal, lengths, sign-back, sign-real, sign_small, mark-small, layout-fits}

all-marks : (n : ℕ) → all is_mark (replicate n marker) ≡ true
all-marks zero = refl
all-marks (suc n) = all-marks n

pub length-row : (v : List ℕ) → length (fill table1 v) ≡ min_frame
unfolding fill table1 bits
length-row v = refl

module _ (r : Values) (l : Legal r) where
  abbrev at : Placed (r.minute / 1440)
  at = placed (r.minute / 1440) (omega (arith, l.minute))

  pub small : Small (fields_of r)
  unfolding fields_of
  small =
      record {
        minute = omega arith;
        hour = omega arith;
        day = omega (arith, year-rest (r.minute / 1440) at, months-short (first_year + (year_of_day (r.minute / 1440)).index) 12 (omega arith));
        sign = sign_small r.sign;
        tenths = l.tenths;
        year = year-index (r.minute / 1440) at;
        leap = mark-small (first_year + (year_of_day (r.minute / 1440)).index);
        warning = omega (arith, l.warning);
        daylight = omega (arith, l.daylight);
      }

  abbrev row : List ℕ
  row = fill table1 (digits (fields_of r))

  abbrev tail : List ℕ
  tail = replicate (r.seconds - min_frame) marker

  front : take min_frame (row ++ tail) ≡ row
  front = take_at row tail min_frame (length-row (digits (fields_of r)))

  length_symbols : length (row ++ tail) ≡ r.seconds
  length_symbols =
      let n = lengths (last_of_month r.minute) r.warning r.seconds l.length in
      omega (arith, length-append row tail, length-row (digits (fields_of r)), length-replicate {A = ℕ} (r.seconds - min_frame) marker)

  fits-symbols : layout_fits (symbols r) ≡ true
  unfolding symbols
  fits-symbols =
      let n = lengths (last_of_month r.minute) r.warning r.seconds l.length in
      layout-fits (row ++ tail)
      (record {
        low = omega (arith, length_symbols, n.0);
        high = omega (arith, length_symbols, n.1);
        row = rw front (filled-reads table1 (digits (fields_of r)) (digits-within (fields_of r) small)).0;
        rest = rw (drop_at row tail min_frame (length-row (digits (fields_of r)))) (all-marks (r.seconds - min_frame));
      })

  numbers-back : numbers_in (symbols r) ≡ digits (fields_of r)
  unfolding symbols numbers_in
  numbers-back = ap (numbers table1) front ∙ (filled-reads table1 (digits (fields_of r)) (digits-within (fields_of r) small)).1

  values-back : values_of (fields_of r) r.seconds ≡ r
  unfolding values_of fields_of
  values-back =
      let t = r.minute in
      let e : (before year_lengths (year_of_day (t / 1440)).index + ((year_of_day (t / 1440)).rest + 1 - 1)) * 1440 + t % 1440 / 60 * 60 + t % 60 ≡ t = omega (
        arith,
        year-low (t / 1440) at,
        year-rest-is (t / 1440) at,
      ) in
      rw (e, sign-back r.sign l.sign)

  decimals-back : decimal_digits (digits (fields_of r)) ≡ true
  unfolding decimal_digits digits
  decimals-back =
      let x = fields_of r in
      let s = small in
      simp (
        le-leb (x.minute % 10) 9 (omega arith),
        le-leb (x.hour % 10) 9 (omega arith),
        le-leb (x.day / 10 % 10) 9 (omega arith),
        le-leb (x.day % 10) 9 (omega arith),
        le-leb x.tenths 9 s.tenths,
        le-leb (x.year / 10) 9 (omega arith),
        le-leb (x.year % 10) 9 (omega arith),
      )

  real-back : real_fields (fields_of r) ≡ true
  unfolding real_fields fields_of year_length
  real-back =
      let y = year_of_day (r.minute / 1440) in
      simp (
        sign-real r.sign,
        lt-ltb (r.minute % 60) 60 (omega arith),
        lt-ltb (r.minute % 1440 / 60) 24 (omega arith),
        le-leb 1 (y.rest + 1) (omega arith),
        le-leb (y.rest + 1) (before (months_of (first_year + y.index)) 12) (omega (arith, year-rest (r.minute / 1440) at)),
        eq-eqb (leap_mark (first_year + y.index)) (leap_mark (first_year + y.index)) refl,
      )

  pub length-of : length (symbols r) ≡ r.seconds
  unfolding symbols
  length-of = length_symbols

  fields_fit_lem : fields_fit (symbols r) ≡ true
  unfolding numbers_fit fields_of
  fields_fit_lem = rw (numbers-back, fields-digits (fields_of r), length-of, values-back) (and-true (and-true decimals-back real-back) l.length)

  pub read-values : read_amplitude (symbols r) ≡ accepted r
  unfolding read_amplitude read_questions asked
  read-values = rw (fits-symbols, fields_fit_lem, numbers-back, fields-digits (fields_of r), length-of, values-back)
