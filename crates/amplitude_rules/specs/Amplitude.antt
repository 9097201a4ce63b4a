-- The amplitude code: one minute in 59 to 61 symbols (document 02, 5, "The amplitude code as well"; its layout is Table 1 of source document 000).
-- Assumes nothing.
use Rattle.std.specs.Prelude.{ℕ, ◌+◌, ◌-◌, ◌/◌, ◌%◌, Bool, ◌&&◌, ◌||◌, List, [], ◌∷◌, ◌++◌, leb, ltb, eqb, ℤ, pos, negsuc, replicate}
use Rattle.bits.specs.Bits.{pick}
use Rattle.symbols.specs.Symbols.{Part, marker, mark, blank, high, fill}
use Rattle.gregorian.specs.Gregorian.{first_year, leap_year, year_of_day}
use Rattle.calendar.specs.Calendar.{minute_count, last_of_month}
use Rattle.plan.specs.Plan.{min_frame, usual_frame, max_frame}
use Rattle.amplitude_rules.specs.declared.Fields.{Fields}
use Rattle.amplitude_rules.specs.declared.Values.{Values}

-- ---- the layout

-- seconds 0 to 58, ten to a line: the minute; the hour; the day of the year, hundreds and tens; its units, and the UT1 sign;
-- UT1 tenths, and the year's tens; its units, leap-year mark (55), leap warning (56) and daylight state (57, 58)
unfoldable pub table1 : List Part
table1 =
    mark ∷ high 3 ∷ blank ∷ high 4 ∷ mark
    ∷ blank ∷ blank ∷ high 2 ∷ blank ∷ high 4 ∷ mark
    ∷ blank ∷ blank ∷ high 2 ∷ blank ∷ high 4 ∷ mark
    ∷ high 4 ∷ blank ∷ blank ∷ high 3 ∷ mark
    ∷ high 4 ∷ blank ∷ high 4 ∷ mark
    ∷ high 4 ∷ blank ∷ high 1 ∷ high 1 ∷ high 2
    ∷ []

-- the fields' numbers in the layout's order, each decimal digit a number
unfoldable pub digits : Fields → List ℕ
digits x =
    x.minute / 10 ∷ x.minute % 10
    ∷ x.hour / 10 ∷ x.hour % 10
    ∷ x.day / 100 ∷ x.day / 10 % 10 ∷ x.day % 10
    ∷ x.sign ∷ x.tenths
    ∷ x.year / 10 ∷ x.year % 10
    ∷ x.leap ∷ x.warning ∷ x.daylight
    ∷ []

-- ---- the values of a minute

-- the bits of the UT1 sign: 101 plus, 010 minus
abbrev pub plus_bits : ℕ
plus_bits = 0b101

abbrev pub minus_bits : ℕ
minus_bits = 0b010

unfoldable pub sign_bits : ℤ → ℕ
sign_bits (pos n) = plus_bits
sign_bits (negsuc n) = minus_bits

-- the UT1 sign is +1 or -1
unfoldable pub legal_sign : ℤ → Bool
legal_sign (pos n) = eqb n 1
legal_sign (negsuc n) = eqb n 0

-- and its tenths are 0 to 9; minus 0 tenths is legal too, and differs from plus 0 tenths
unfoldable pub legal_ut1 : ℤ → ℕ → Bool
legal_ut1 sign tenths = legal_sign sign && leb tenths 9

-- the leap-year mark of a year
unfoldable pub leap_mark : ℕ → ℕ
leap_mark year = pick (leap_year year) 1 0

-- whether a minute may have n seconds: a month's last minute with the warning 59 or 61, any other 60
unfoldable pub length_fits : Bool → ℕ → ℕ → Bool
length_fits last warning n = pick (last && eqb warning 1) (eqb n min_frame || eqb n max_frame) (eqb n usual_frame)

-- values that fit each other: a minute of the range, a legal UT1, a warning of 0 or 1, a daylight state of 0 to 3, and a length that fits
unfoldable pub legal_values : Values → Bool
legal_values r =
    ltb r.minute minute_count && legal_ut1 r.sign r.tenths && leb r.warning 1 && leb r.daylight 3
    && length_fits (last_of_month r.minute) r.warning r.seconds

-- the fields of values: the day of the year is counted from 1, the year from 2000
unfoldable pub fields_of : Values → Fields
fields_of r =
    let y = year_of_day (r.minute / 1440) in
    record {
      minute = r.minute % 60;
      hour = r.minute % 1440 / 60;
      day = y.rest + 1;
      sign = sign_bits r.sign;
      tenths = r.tenths;
      year = y.index;
      leap = leap_mark (first_year + y.index);
      warning = r.warning;
      daylight = r.daylight;
    }

-- the symbols of values, with markers at seconds 59 and 60 if they are there
unfoldable pub symbols : Values → List ℕ
symbols r = fill table1 (digits (fields_of r)) ++ replicate (r.seconds - min_frame) marker
