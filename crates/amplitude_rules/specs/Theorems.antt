-- What is proved of the amplitude code (document 02, 5, "The amplitude code as well").
-- Assumes nothing.
use Rattle.std.specs.Prelude.{ℕ, ◌+◌, ◌-◌, ◌/◌, ◌%◌, ◌≤◌, ◌<◌, Bool, true, false, List, [], ◌∷◌, ◌++◌, ◌↔◌, ◌⊎◌, ◌≢◌, ◌≡◌, leb, eqb, ℤ, pos, negsuc, length, take, drop, get_or, set}
use Rattle.bits.specs.Bits.{pick, bits}
use Rattle.bits.specs.Numbers.{found, refused as refusedWriting}
use Rattle.questions.specs.Questions.{AllYes, FirstNo, numbers_of, one_of}
use Rattle.gregorian.specs.Gregorian.{first_year, leap_year, months_of, before}
use Rattle.calendar.specs.Calendar.{minute_count, date_at, month_index, last_of_month}
use Rattle.calendar.specs.declared.Date.{Date}
use Rattle.plan.specs.Plan.{legal_plan, length_at}
use Rattle.plan.specs.declared.Plan.{Plan}
use Rattle.messages.specs.Message.{Schedule, legal_schedule}
use Rattle.format.specs.Message.{content_at, TimeAt, frame_of}
use Rattle.format.specs.Entry.{Entry, entry_size, entry_bytes}
use Rattle.format.specs.Received.{Reception, is_reception, received}
use Rattle.format.specs.Questions.{start}
use Rattle.format.specs.Next.{OneOutcome, read_one}
use Rattle.sequence.specs.Demand.{SpaceEnough}
use Rattle.sequence.specs.Bench.{rows10_and37}
use Rattle.amplitude_rules.specs.declared.Values.{Values}
use Rattle.amplitude_rules.specs.Amplitude.{legal_ut1, legal_values, fields_of, symbols}
use Rattle.amplitude_rules.specs.Reading.{layout_fits, values_in, fields_fit, read_questions, refused, accepted, read_amplitude}
use Rattle.amplitude_rules.specs.Writing.{warning_at, values_at, write_questions, write_amplitude, symbols_written}

-- ---- symbols and values

-- symbols are accepted with the values r exactly when these fit each other and the symbols are theirs
abbrev pub ReadExactly : Type 0
ReadExactly = (s : List ℕ) (r : Values) → read_amplitude s ≡ accepted r ↔ ((legal_values r ≡ true) × (s ≡ symbols r))

-- different values that fit each other have different symbols
abbrev pub SymbolsApart : Type 0
SymbolsApart = (q r : Values) → legal_values q ≡ true → legal_values r ≡ true → q ≢ r → symbols q ≢ symbols r

-- the day of the year of a date, counted from 1
abbrev pub day_of_year : Date → ℕ
day_of_year d = before (months_of d.year) (d.month - 1) + d.day

-- the fields are those of the minute's date: its minute, its hour, its day of the year, and its year from 2000
pub record DateFields (r : Values) : Type 0 where
  pub minute : (fields_of r).minute ≡ (date_at r.minute).minute
  pub hour : (fields_of r).hour ≡ (date_at r.minute).hour
  pub day : (fields_of r).day ≡ day_of_year (date_at r.minute)
  pub year : first_year + (fields_of r).year ≡ (date_at r.minute).year

abbrev pub FieldsOfDate : Type 0
FieldsOfDate = (r : Values) → r.minute < minute_count → DateFields r

-- the n symbols of s from second k on are the bits of x, the highest first
abbrev pub Shows : List ℕ → ℕ → ℕ → ℕ → Type 0
Shows s k n x = take n (drop k s) ≡ bits n x

-- the symbols s of values r with the date d, second by second: decimal digits, and the UT1 sign
pub record DigitsShown (s : List ℕ) (r : Values) (d : Date) : Type 0 where
  pub minute : Shows s 1 3 (d.minute / 10) × Shows s 5 4 (d.minute % 10)
  pub hour : Shows s 12 2 (d.hour / 10) × Shows s 15 4 (d.hour % 10)
  pub day : Shows s 22 2 (day_of_year d / 100) × Shows s 25 4 (day_of_year d / 10 % 10) × Shows s 30 4 (day_of_year d % 10)
  pub plus : r.sign ≡ pos 1 → Shows s 36 3 0b101
  pub minus : r.sign ≡ negsuc 0 → Shows s 36 3 0b010
  pub tenths : Shows s 40 4 r.tenths
  pub year : Shows s 45 4 (d.year % 100 / 10) × Shows s 50 4 (d.year % 10)

abbrev pub DigitSeconds : Type 0
DigitSeconds = (r : Values) → legal_values r ≡ true → DigitsShown (symbols r) r (date_at r.minute)

-- the last four seconds of the layout: the leap-year mark at 55, the warning at 56, dst_on[1] at 57 and dst_on[0] at 58
abbrev pub FlagSeconds : Type 0
FlagSeconds =
    (r : Values) → legal_values r ≡ true
    → take 4 (drop 55 (symbols r)) ≡ pick (leap_year (date_at r.minute).year) 1 0 ∷ r.warning ∷ r.daylight / 2 ∷ r.daylight % 2 ∷ []

-- a month's last minute that is accepted with the warning has 59 or 61 seconds, and every other that is accepted has 60
pub record LengthOf (r : Values) : Type 0 where
  pub warned : last_of_month r.minute ≡ true → r.warning ≡ 1 → (r.seconds ≡ 59) ⊎ (r.seconds ≡ 61)
  pub other : (last_of_month r.minute ≡ false) ⊎ (r.warning ≢ 1) → r.seconds ≡ 60

abbrev pub AcceptedLengths : Type 0
AcceptedLengths = (s : List ℕ) (r : Values) → read_amplitude s ≡ accepted r → LengthOf r

-- UT1 is legal exactly when its sign is +1 or -1 and its tenths are at most 9
abbrev pub UT1Limits : Type 0
UT1Limits = (sign : ℤ) (tenths : ℕ) → legal_ut1 sign tenths ≡ true ↔ (((sign ≡ pos 1) ⊎ (sign ≡ negsuc 0)) × (tenths ≤ 9))

-- ---- question 17, second by second

-- the seconds of the markers, and those that are always 0
abbrev pub markers : List ℕ
markers = 0 ∷ 9 ∷ 19 ∷ 29 ∷ 39 ∷ 49 ∷ 59 ∷ 60 ∷ []

abbrev pub zeros : List ℕ
zeros = 4 ∷ 10 ∷ 11 ∷ 14 ∷ 20 ∷ 21 ∷ 24 ∷ 34 ∷ 35 ∷ 44 ∷ 54 ∷ []

-- symbol x is right at second k: 2 at a marker, 0 where it is always 0, else 0 or 1
unfoldable pub right_at : ℕ → ℕ → Bool
right_at k x = pick (one_of markers k) (eqb x 2) (pick (one_of zeros k) (eqb x 0) (leb x 1))

-- question 17 is answered yes exactly when there are 59 to 61 symbols and each is right at its second
abbrev pub LayoutSeconds : Type 0
LayoutSeconds =
    (s : List ℕ)
    → layout_fits s ≡ true
    ↔ ((59 ≤ length s) × (length s ≤ 61) × ((k : ℕ) → k < length s → right_at k (get_or s k 0) ≡ true))

-- ---- a plan's minute

-- what a legal plan gives a minute reads back: date, UT1, warning, daylight state and length
abbrev pub SentReads : Type 0
SentReads =
    (p : Plan) (t : ℕ) (sign : ℤ) (tenths : ℕ) → legal_plan p ≡ true → t < minute_count → legal_ut1 sign tenths ≡ true
    → read_amplitude (symbols (values_at p t sign tenths)) ≡ accepted (values_at p t sign tenths)

-- the warning is 1 in every minute of the month with a leap second, and in no other
abbrev pub WarnedMonth : Type 0
WarnedMonth =
    (p : Plan) (t : ℕ) → legal_plan p ≡ true
    → warning_at p t ≡ 1 ↔ ((p.leap_sign ≢ pos 0) × (month_index t ≡ p.leap_month))

-- the values r and the entry e have the date of minute t, and the same daylight state and length
pub record SameMinute (t : ℕ) (r : Values) (e : Entry) : Type 0 where
  pub date : date_at r.minute ≡ date_at t
  pub entry_date : date_at e.minute ≡ date_at t
  pub daylight : r.daylight ≡ e.daylight
  pub length : r.seconds ≡ e.seconds

-- for one plan and minute both codes read to the same date, daylight state and length, whatever the frame's reception (document 02, 2);
-- "slip 5 compares no message's minute" (document 02, 7), so that a time frame is sent in this one
abbrev pub BothCodes : Type 0
BothCodes =
    (p : Schedule) (t : ℕ) (sign : ℤ) (tenths : ℕ) (x : Reception) (buffer : List ℕ)
    → legal_schedule p ≡ true → TimeAt p t → t < minute_count → legal_ut1 sign tenths ≡ true → is_reception x ≡ true → SpaceEnough 1 buffer
    → (r : Values) × (e : Entry)
    × (read_amplitude (symbols (values_at p.plan t sign tenths)) ≡ accepted r)
    × (◌≡◌ {A = OneOutcome} (read_one start buffer (received x (frame_of (content_at p t)))) (record { refusal = 0; buffer = entry_bytes e ++ drop entry_size buffer }))
    × SameMinute t r e

-- ---- worked examples

-- source document 002, Table 10: 2012-07-04 17:30, UT1 plus 0.4 s (seconds 50 to 52 are cut off in our copy, and follow from the date)
abbrev pub Table10 : Type 0
Table10 =
    symbols (values_at (rows10_and37 0 (pos 0) 0) 6_578_970 (pos 1) 4)
    ≡ 2 ∷ 0 ∷ 1 ∷ 1 ∷ 0 ∷ 0 ∷ 0 ∷ 0 ∷ 0 ∷ 2
    ∷ 0 ∷ 0 ∷ 0 ∷ 1 ∷ 0 ∷ 0 ∷ 1 ∷ 1 ∷ 1 ∷ 2
    ∷ 0 ∷ 0 ∷ 0 ∷ 1 ∷ 0 ∷ 1 ∷ 0 ∷ 0 ∷ 0 ∷ 2
    ∷ 0 ∷ 1 ∷ 1 ∷ 0 ∷ 0 ∷ 0 ∷ 1 ∷ 0 ∷ 1 ∷ 2
    ∷ 0 ∷ 1 ∷ 0 ∷ 0 ∷ 0 ∷ 0 ∷ 0 ∷ 0 ∷ 1 ∷ 2
    ∷ 0 ∷ 0 ∷ 1 ∷ 0 ∷ 0 ∷ 1 ∷ 0 ∷ 1 ∷ 1 ∷ 2 ∷ []

-- the code has no check bits: with second 8 wrong, these symbols are those of 17:31
abbrev pub OneSymbolMistaken : Type 0
OneSymbolMistaken =
    set (symbols (values_at (rows10_and37 0 (pos 0) 0) 6_578_970 (pos 1) 4)) 8 1
    ≡ symbols (values_at (rows10_and37 0 (pos 0) 0) 6_578_971 (pos 1) 4)

-- seconds 0 to 58 of 2012-06-30 23:59 with the warning, UT1 minus 0.6 s
abbrev pub last_of_june : List ℕ
last_of_june =
    2 ∷ 1 ∷ 0 ∷ 1 ∷ 0 ∷ 1 ∷ 0 ∷ 0 ∷ 1 ∷ 2
    ∷ 0 ∷ 0 ∷ 1 ∷ 0 ∷ 0 ∷ 0 ∷ 0 ∷ 1 ∷ 1 ∷ 2
    ∷ 0 ∷ 0 ∷ 0 ∷ 1 ∷ 0 ∷ 1 ∷ 0 ∷ 0 ∷ 0 ∷ 2
    ∷ 0 ∷ 0 ∷ 1 ∷ 0 ∷ 0 ∷ 0 ∷ 0 ∷ 1 ∷ 0 ∷ 2
    ∷ 0 ∷ 1 ∷ 1 ∷ 0 ∷ 0 ∷ 0 ∷ 0 ∷ 0 ∷ 1 ∷ 2
    ∷ 0 ∷ 0 ∷ 1 ∷ 0 ∷ 0 ∷ 1 ∷ 1 ∷ 1 ∷ 1 ∷ []

-- with a leap second of each sign at the end of June 2012, month 149: 61 and 59 symbols
abbrev pub LeapMinutes : Type 0
LeapMinutes =
    (symbols (values_at (rows10_and37 149 (pos 1) 0) 6_573_599 (negsuc 0) 6) ≡ last_of_june ++ (2 ∷ 2 ∷ []))
    × (symbols (values_at (rows10_and37 149 (negsuc 0) 0) 6_573_599 (negsuc 0) 6) ≡ last_of_june)

-- ---- the refusals of reading

-- the numbers of the questions, in their order
abbrev pub read_refusals : List ℕ
read_refusals = 17 ∷ 18 ∷ []

abbrev pub AmplitudeReadOrder : Type 0
AmplitudeReadOrder = (s : List ℕ) → numbers_of (read_questions s) ≡ read_refusals

-- the values exactly when every question is answered yes
abbrev pub AmplitudeReadAccepted : Type 0
AmplitudeReadAccepted = (s : List ℕ) → read_amplitude s ≡ accepted (values_in s) ↔ AllYes (read_questions s)

-- n alone exactly when the questions before n are answered yes and question n is not
abbrev pub AmplitudeReadRefused : Type 0
AmplitudeReadRefused = (s : List ℕ) (n : ℕ) → read_amplitude s ≡ refused n ↔ FirstNo (read_questions s) n

-- there is no other answer, and a refusal is one of the numbers
abbrev pub AmplitudeReadAnswers : Type 0
AmplitudeReadAnswers =
    (s : List ℕ) → (read_amplitude s ≡ accepted (values_in s)) ⊎ ((n : ℕ) × (one_of read_refusals n ≡ true) × (read_amplitude s ≡ refused n))

-- without the list: 17 is about the layout, 18 about what stands in it
pub record AmplitudeReadFacts : Type 0 where
  pub symbols17 : (s : List ℕ) → read_amplitude s ≡ refused 17 ↔ (layout_fits s ≡ false)
  pub values18 : (s : List ℕ) → read_amplitude s ≡ refused 18 ↔ ((layout_fits s ≡ true) × (fields_fit s ≡ false))

-- ---- the refusals of writing

-- the numbers of the questions, in their order
abbrev pub write_refusals : List ℕ
write_refusals = 1 ∷ 3 ∷ 18 ∷ 4 ∷ []

abbrev pub AmplitudeWriteOrder : Type 0
AmplitudeWriteOrder = (p : Schedule) (t : ℕ) (sign : ℤ) (tenths space : ℕ) → numbers_of (write_questions p t sign tenths space) ≡ write_refusals

-- 0 and the number of symbols exactly when every question is answered yes
abbrev pub AmplitudeWriteAccepted : Type 0
AmplitudeWriteAccepted =
    (p : Schedule) (t : ℕ) (sign : ℤ) (tenths space : ℕ)
    → write_amplitude p t sign tenths space ≡ found (length_at p.plan t ∷ []) ↔ AllYes (write_questions p t sign tenths space)

-- k alone exactly when the questions before k in the list are answered yes and question k is not
abbrev pub AmplitudeWriteRefused : Type 0
AmplitudeWriteRefused =
    (p : Schedule) (t : ℕ) (sign : ℤ) (tenths space k : ℕ)
    → write_amplitude p t sign tenths space ≡ refusedWriting k ↔ FirstNo (write_questions p t sign tenths space) k

-- there is no other answer, and a refusal is one of the numbers
abbrev pub AmplitudeWriteAnswers : Type 0
AmplitudeWriteAnswers =
    (p : Schedule) (t : ℕ) (sign : ℤ) (tenths space : ℕ)
    → (write_amplitude p t sign tenths space ≡ found (length_at p.plan t ∷ []))
    ⊎ ((k : ℕ) × (one_of write_refusals k ≡ true) × (write_amplitude p t sign tenths space ≡ refusedWriting k))

-- without the list: 1 is about the plan and its messages, 3 about the minute, 18 about UT1, 4 about the buffer
pub record WriteReasons (p : Schedule) (t : ℕ) (sign : ℤ) (tenths space : ℕ) : Type 0 where
  pub plan1 : write_amplitude p t sign tenths space ≡ refusedWriting 1 ↔ (legal_schedule p ≡ false)
  pub minute3 : write_amplitude p t sign tenths space ≡ refusedWriting 3 ↔ ((legal_schedule p ≡ true) × (minute_count ≤ t))
  pub ut1-18 : write_amplitude p t sign tenths space ≡ refusedWriting 18 ↔ ((legal_schedule p ≡ true) × (t < minute_count) × (legal_ut1 sign tenths ≡ false))
  pub space4 :
      write_amplitude p t sign tenths space ≡ refusedWriting 4
      ↔ ((legal_schedule p ≡ true) × (t < minute_count) × (legal_ut1 sign tenths ≡ true) × (space < length_at p.plan t))

abbrev pub AmplitudeWriteFacts : Type 0
AmplitudeWriteFacts = (p : Schedule) (t : ℕ) (sign : ℤ) (tenths space : ℕ) → WriteReasons p t sign tenths space

-- accepted: the symbols stand first in the buffer and read back as sent, and the bytes after them are as before
pub record AmplitudeDone (p : Schedule) (t : ℕ) (sign : ℤ) (tenths : ℕ) (buffer : List ℕ) : Type 0 where
  pub written : take (length_at p.plan t) (symbols_written p t sign tenths buffer) ≡ symbols (values_at p.plan t sign tenths)
  pub rest : drop (length_at p.plan t) (symbols_written p t sign tenths buffer) ≡ drop (length_at p.plan t) buffer
  pub length : length (symbols_written p t sign tenths buffer) ≡ length buffer
  pub read : read_amplitude (take (length_at p.plan t) (symbols_written p t sign tenths buffer)) ≡ accepted (values_at p.plan t sign tenths)

abbrev pub AmplitudeWriteDone : Type 0
AmplitudeWriteDone =
    (p : Schedule) (t : ℕ) (sign : ℤ) (tenths : ℕ) (buffer : List ℕ)
    → AllYes (write_questions p t sign tenths (length buffer))
    → AmplitudeDone p t sign tenths buffer

-- refused: the buffer is as it was
abbrev pub AmplitudeWriteUndone : Type 0
AmplitudeWriteUndone =
    (p : Schedule) (t : ℕ) (sign : ℤ) (tenths : ℕ) (buffer : List ℕ) (k : ℕ)
    → FirstNo (write_questions p t sign tenths (length buffer)) k
    → symbols_written p t sign tenths buffer ≡ buffer

-- the symbols are as without messages (document 02, 7): of two legal plans that differ in messages alone, writing gives the same answer and buffer
abbrev pub SameSymbols : Type 0
SameSymbols =
    (p q : Schedule) (t : ℕ) (sign : ℤ) (tenths : ℕ) (buffer : List ℕ)
    → legal_schedule p ≡ true → legal_schedule q ≡ true → p.plan ≡ q.plan
    → (write_amplitude p t sign tenths (length buffer) ≡ write_amplitude q t sign tenths (length buffer))
    × (symbols_written p t sign tenths buffer ≡ symbols_written q t sign tenths buffer)
