-- Reading a minute of the amplitude code: questions 17 and 18, in this order, and the values (document 02, 5, "The amplitude code as well").
-- Assumes nothing.
use Rattle.std.specs.Prelude.{ℕ, ◌+◌, ◌-◌, ◌*◌, Bool, ◌&&◌, ◌||◌, List, [], ◌∷◌, leb, ltb, eqb, ℤ, pos, negsuc, length, take, drop, get_or}
use Rattle.bits.specs.Bits.{pick, all}
use Rattle.questions.specs.Questions.{Question, asked}
use Rattle.symbols.specs.Symbols.{marker, fits, numbers}
use Rattle.gregorian.specs.Gregorian.{first_year, year_length, year_lengths, before}
use Rattle.calendar.specs.Calendar.{last_of_month}
use Rattle.plan.specs.Plan.{min_frame, max_frame}
use Rattle.amplitude_rules.specs.declared.Fields.{Fields}
use Rattle.amplitude_rules.specs.declared.Values.{Values}
use Rattle.amplitude_rules.specs.Amplitude.{table1, plus_bits, minus_bits, leap_mark, length_fits}

-- ---- question 17

-- a marker
abbrev pub is_mark : ℕ → Bool
is_mark x = eqb x marker

-- 59 to 61 symbols; in seconds 0 to 58 a marker, 0, or one of 0 and 1 as the layout has it; markers after them
unfoldable pub layout_fits : List ℕ → Bool
layout_fits s = leb min_frame (length s) && leb (length s) max_frame && fits table1 (take min_frame s) && all is_mark (drop min_frame s)

-- ---- the fields

-- the numbers in the places of the layout
unfoldable pub numbers_in : List ℕ → List ℕ
numbers_in s = numbers table1 (take min_frame s)

-- the fields of such numbers, decimal digits put together
unfoldable pub fields_from : List ℕ → Fields
fields_from v =
    record {
      minute = get_or v 0 0 * 10 + get_or v 1 0;
      hour = get_or v 2 0 * 10 + get_or v 3 0;
      day = get_or v 4 0 * 100 + get_or v 5 0 * 10 + get_or v 6 0;
      sign = get_or v 7 0;
      tenths = get_or v 8 0;
      year = get_or v 9 0 * 10 + get_or v 10 0;
      leap = get_or v 11 0;
      warning = get_or v 12 0;
      daylight = get_or v 13 0;
    }

abbrev pub fields_in : List ℕ → Fields
fields_in s = fields_from (numbers_in s)

-- the UT1 sign of its three bits
unfoldable pub sign_of : ℕ → ℤ
sign_of b = pick (eqb b plus_bits) (pos 1) (negsuc 0)

-- the values of fields in a minute of n seconds; the day of the year is counted from 1
unfoldable pub values_of : Fields → ℕ → Values
values_of x n =
    record {
      minute = (before year_lengths x.year + (x.day - 1)) * 1440 + x.hour * 60 + x.minute;
      sign = sign_of x.sign;
      tenths = x.tenths;
      warning = x.warning;
      daylight = x.daylight;
      seconds = n;
    }

abbrev pub values_in : List ℕ → Values
values_in s = values_of (fields_in s) (length s)

-- ---- question 18

-- digits of four bits are 0 to 9; those of two and three bits cannot be above 9
unfoldable pub decimal_digits : List ℕ → Bool
decimal_digits v =
    leb (get_or v 1 0) 9 && leb (get_or v 3 0) 9 && leb (get_or v 5 0) 9 && leb (get_or v 6 0) 9
    && leb (get_or v 8 0) 9 && leb (get_or v 9 0) 9 && leb (get_or v 10 0) 9

-- a UT1 sign, a minute, an hour and a day of the year that are real, and the year's leap-year mark
unfoldable pub real_fields : Fields → Bool
real_fields x =
    (eqb x.sign plus_bits || eqb x.sign minus_bits)
    && ltb x.minute 60 && ltb x.hour 24
    && leb 1 x.day && leb x.day (year_length (first_year + x.year))
    && eqb x.leap (leap_mark (first_year + x.year))

-- numbers of n symbols: decimal digits, real fields, and a length that fits the date and the warning
unfoldable pub numbers_fit : List ℕ → ℕ → Bool
numbers_fit v n =
    decimal_digits v && real_fields (fields_from v)
    && length_fits (last_of_month (values_of (fields_from v) n).minute) (values_of (fields_from v) n).warning n

-- question 18 of symbols
abbrev pub fields_fit : List ℕ → Bool
fields_fit s = numbers_fit (numbers_in s) (length s)

-- ---- the call

-- the questions, in their order: 17 is asked of the whole minute before 18
unfoldable pub read_questions : List ℕ → List Question
read_questions s = (17, layout_fits s) ∷ (18, fields_fit s) ∷ []

-- the answer: the values, or the refusal alone
pub data Answer : Type 0 where
  refused : ℕ → Answer
  accepted : Values → Answer

unfoldable pub read_amplitude : List ℕ → Answer
read_amplitude s = asked refused (read_questions s) (accepted (values_in s))
