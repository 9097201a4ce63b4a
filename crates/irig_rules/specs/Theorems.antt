-- What is proved of IRIG 200 format B (document 02, 9, "Feeding recorders that take IRIG B").
-- Assumes nothing.
use Rattle.std.specs.Prelude.{ℕ, ◌+◌, ◌-◌, ◌*◌, ◌/◌, ◌%◌, ◌≤◌, ◌<◌, Bool, true, false, ◌&&◌, ◌||◌, List, [], ◌∷◌, ◌↔◌, ◌⊎◌, ◌≡◌, leb, ltb, length, take, drop, get_or}
use Rattle.bits.specs.Bits.{bit}
use Rattle.bits.specs.Numbers.{found, refused}
use Rattle.questions.specs.Questions.{AllYes, FirstNo, numbers_of, one_of}
use Rattle.gregorian.specs.Gregorian.{months_of, before}
use Rattle.calendar.specs.Calendar.{minute_count, date_at}
use Rattle.calendar.specs.declared.Date.{Date}
use Rattle.plan.specs.Plan.{length_at}
use Rattle.messages.specs.Message.{Schedule, legal_schedule}
use Rattle.irig_rules.specs.declared.Clock.{Clock}
use Rattle.irig_rules.specs.Irig.{element_count, second_of_day, elements_of, day_of_year, clock_at, elements}
use Rattle.irig_rules.specs.Reading.{number_at, clock_in, read_questions, read_irig}
use Rattle.irig_rules.specs.Writing.{write_questions, write_irig, elements_written}

-- ---- what is sent and what is read

-- a legal plan, a minute of the range and a second below the minute's length give these elements
abbrev pub Gives : List ℕ → Schedule → ℕ → ℕ → Type 0
Gives e p t x = (legal_schedule p ≡ true) × (t < minute_count) × (x < length_at p.plan t) × (e ≡ elements t x)

-- what is written reads back: the day of the year and the second of the day sent
abbrev pub IrigReadsBack : Type 0
IrigReadsBack =
    (e : List ℕ) (p : Schedule) (t x : ℕ) → Gives e p t x → read_irig e ≡ found (day_of_year t ∷ (t % 1440 * 60 + x) ∷ [])

-- elements are accepted with day d and second q exactly when a legal plan, minute and second give them, whose day and second these are
abbrev pub IrigGiven : Type 0
IrigGiven =
    (e : List ℕ) (d q : ℕ)
    → read_irig e ≡ found (d ∷ q ∷ [])
    ↔ ((p : Schedule) × (t : ℕ) × (x : ℕ) × Gives e p t x × (d ≡ day_of_year t) × (q ≡ t % 1440 * 60 + x))

-- they are refused, with 21, exactly when "no legal plan, minute and second give" them
abbrev pub IrigNotGiven : Type 0
IrigNotGiven = (e : List ℕ) → read_irig e ≡ refused 21 ↔ ((p : Schedule) (t x : ℕ) → Gives e p t x → ⊥)

-- ---- second 60, and the straight seconds

-- the 23 days of the year that end a month in a common or a leap year
abbrev pub last_days : List ℕ
last_days =
    31 ∷ 59 ∷ 60 ∷ 90 ∷ 91 ∷ 120 ∷ 121 ∷ 151 ∷ 152 ∷ 181 ∷ 182 ∷ 212 ∷ 213
    ∷ 243 ∷ 244 ∷ 273 ∷ 274 ∷ 304 ∷ 305 ∷ 334 ∷ 335 ∷ 365 ∷ 366 ∷ []

-- second 60 of 23:59 on day d
abbrev pub leap_second : ℕ → Clock
leap_second d = record { day = d; hour = 23; minute = 59; second = 60 }

-- second 60 is read at 23:59 of these days, as second 86,400 of the day, and nowhere else
pub record LeapSecondDays : Type 0 where
  pub read : (d : ℕ) → one_of last_days d ≡ true → read_irig (elements_of (leap_second d)) ≡ found (d ∷ 86_400 ∷ [])
  pub alone :
      (e : List ℕ) (d q : ℕ) → read_irig e ≡ found (d ∷ q ∷ []) → ((clock_in e).second ≡ 60) ⊎ (86_400 ≤ q)
      → (one_of last_days d ≡ true) × (e ≡ elements_of (leap_second d))

-- the straight seconds of accepted elements, in 80 to 88 and 90 to 97, agree with the digits, and both with the answer
pub record Agrees (e : List ℕ) (d q : ℕ) : Type 0 where
  pub straight : number_at e 80 9 + number_at e 90 8 * 512 ≡ q
  pub digits : ((clock_in e).hour * 60 + (clock_in e).minute) * 60 + (clock_in e).second ≡ q
  pub day : (clock_in e).day ≡ d

abbrev pub StraightAgrees : Type 0
StraightAgrees = (e : List ℕ) (d q : ℕ) → read_irig e ≡ found (d ∷ q ∷ []) → Agrees e d q

-- what is accepted is a day of 1 to 366 and a second of 0 to 86,400
abbrev pub IrigRange : Type 0
IrigRange = (e : List ℕ) (d q : ℕ) → read_irig e ≡ found (d ∷ q ∷ []) → (1 ≤ d) × (d ≤ 366) × (q ≤ 86_400)

-- ---- the elements by number

-- the places of the identifiers: "at 0 and at 9, 19 up to 99"
abbrev pub identifiers : List ℕ
identifiers = 0 ∷ 9 ∷ 19 ∷ 29 ∷ 39 ∷ 49 ∷ 59 ∷ 69 ∷ 79 ∷ 89 ∷ 99 ∷ []

-- a field: its first place, the number of its elements, and the number that they show
pub record Field : Type 0 where
  pub place : ℕ
  pub width : ℕ
  pub number : ℕ

abbrev pub field : ℕ → ℕ → ℕ → Field
field k n x = record { place = k; width = n; number = x }

-- the fields of a time: its decimal digits, and the straight seconds of the day in two parts
unfoldable pub fields_of : Clock → List Field
fields_of c =
    field 1 4 (c.second % 10) ∷ field 6 3 (c.second / 10)
    ∷ field 10 4 (c.minute % 10) ∷ field 15 3 (c.minute / 10)
    ∷ field 20 4 (c.hour % 10) ∷ field 25 2 (c.hour / 10)
    ∷ field 30 4 (c.day % 10) ∷ field 35 4 (c.day / 10 % 10) ∷ field 40 2 (c.day / 100)
    ∷ field 80 9 (second_of_day c) ∷ field 90 8 (second_of_day c / 512) ∷ []

-- place k lies in one of the fields
unfoldable pub inside : List Field → ℕ → Bool
inside [] k = false
inside (f ∷ fs) k = (leb f.place k && ltb k (f.place + f.width)) || inside fs k

-- the elements of each field are the bits of its number, "low bit first"
abbrev pub AllShown : List ℕ → List Field → Type 0
AllShown e [] = Unit {0}
AllShown e (f ∷ fs) = ((i : ℕ) → i < f.width → get_or e (f.place + i) 0 ≡ bit f.number i) × AllShown e fs

-- the elements e of a time c, place by place: identifiers, fields, "all else 0"
pub record Shown (e : List ℕ) (c : Clock) : Type 0 where
  pub length : length e ≡ 100
  pub marks : (k : ℕ) → one_of identifiers k ≡ true → get_or e k 0 ≡ 2
  pub fields : AllShown e (fields_of c)
  pub zeros : (k : ℕ) → k < 100 → one_of identifiers k ≡ false → inside (fields_of c) k ≡ false → get_or e k 0 ≡ 0

abbrev pub ElementsLaidOut : Type 0
ElementsLaidOut = (c : Clock) → Shown (elements_of c) c

-- the time of second x of a minute is that of the minute's date: its day of the year, its hour and its minute
pub record OfDate (c : Clock) (d : Date) (x : ℕ) : Type 0 where
  pub day : c.day ≡ before (months_of d.year) (d.month - 1) + d.day
  pub hour : c.hour ≡ d.hour
  pub minute : c.minute ≡ d.minute
  pub second : c.second ≡ x

abbrev pub ClockOfDate : Type 0
ClockOfDate = (t x : ℕ) → t < minute_count → OfDate (clock_at t x) (date_at t) x

-- 2012-07-04 17:30:00
abbrev pub ExampleSecond : Type 0
ExampleSecond =
    elements 6_578_970 0
    ≡ 2 ∷ 0 ∷ 0 ∷ 0 ∷ 0 ∷ 0 ∷ 0 ∷ 0 ∷ 0 ∷ 2
    ∷ 0 ∷ 0 ∷ 0 ∷ 0 ∷ 0 ∷ 1 ∷ 1 ∷ 0 ∷ 0 ∷ 2
    ∷ 1 ∷ 1 ∷ 1 ∷ 0 ∷ 0 ∷ 1 ∷ 0 ∷ 0 ∷ 0 ∷ 2
    ∷ 0 ∷ 1 ∷ 1 ∷ 0 ∷ 0 ∷ 0 ∷ 0 ∷ 0 ∷ 1 ∷ 2
    ∷ 1 ∷ 0 ∷ 0 ∷ 0 ∷ 0 ∷ 0 ∷ 0 ∷ 0 ∷ 0 ∷ 2
    ∷ 0 ∷ 0 ∷ 0 ∷ 0 ∷ 0 ∷ 0 ∷ 0 ∷ 0 ∷ 0 ∷ 2
    ∷ 0 ∷ 0 ∷ 0 ∷ 0 ∷ 0 ∷ 0 ∷ 0 ∷ 0 ∷ 0 ∷ 2
    ∷ 0 ∷ 0 ∷ 0 ∷ 0 ∷ 0 ∷ 0 ∷ 0 ∷ 0 ∷ 0 ∷ 2
    ∷ 0 ∷ 0 ∷ 0 ∷ 1 ∷ 1 ∷ 0 ∷ 0 ∷ 0 ∷ 0 ∷ 2
    ∷ 1 ∷ 1 ∷ 0 ∷ 1 ∷ 1 ∷ 1 ∷ 1 ∷ 0 ∷ 0 ∷ 2 ∷ []

-- 2012-06-30 23:59:60
abbrev pub ExampleLeap : Type 0
ExampleLeap =
    elements 6_573_599 60
    ≡ 2 ∷ 0 ∷ 0 ∷ 0 ∷ 0 ∷ 0 ∷ 0 ∷ 1 ∷ 1 ∷ 2
    ∷ 1 ∷ 0 ∷ 0 ∷ 1 ∷ 0 ∷ 1 ∷ 0 ∷ 1 ∷ 0 ∷ 2
    ∷ 1 ∷ 1 ∷ 0 ∷ 0 ∷ 0 ∷ 0 ∷ 1 ∷ 0 ∷ 0 ∷ 2
    ∷ 0 ∷ 1 ∷ 0 ∷ 0 ∷ 0 ∷ 0 ∷ 0 ∷ 0 ∷ 1 ∷ 2
    ∷ 1 ∷ 0 ∷ 0 ∷ 0 ∷ 0 ∷ 0 ∷ 0 ∷ 0 ∷ 0 ∷ 2
    ∷ 0 ∷ 0 ∷ 0 ∷ 0 ∷ 0 ∷ 0 ∷ 0 ∷ 0 ∷ 0 ∷ 2
    ∷ 0 ∷ 0 ∷ 0 ∷ 0 ∷ 0 ∷ 0 ∷ 0 ∷ 0 ∷ 0 ∷ 2
    ∷ 0 ∷ 0 ∷ 0 ∷ 0 ∷ 0 ∷ 0 ∷ 0 ∷ 0 ∷ 0 ∷ 2
    ∷ 0 ∷ 0 ∷ 0 ∷ 0 ∷ 0 ∷ 0 ∷ 0 ∷ 1 ∷ 1 ∷ 2
    ∷ 0 ∷ 0 ∷ 0 ∷ 1 ∷ 0 ∷ 1 ∷ 0 ∷ 1 ∷ 0 ∷ 2 ∷ []

-- ---- the refusals of reading

-- the number of the question
abbrev pub read_refusals : List ℕ
read_refusals = 21 ∷ []

abbrev pub IrigReadOrder : Type 0
IrigReadOrder = (e : List ℕ) → numbers_of (read_questions e) ≡ read_refusals

-- the day and the second exactly when the question is answered yes
abbrev pub IrigReadAccepted : Type 0
IrigReadAccepted = (e : List ℕ) → read_irig e ≡ found ((clock_in e).day ∷ second_of_day (clock_in e) ∷ []) ↔ AllYes (read_questions e)

-- n alone exactly when question n is answered no
abbrev pub IrigReadRefused : Type 0
IrigReadRefused = (e : List ℕ) (n : ℕ) → read_irig e ≡ refused n ↔ FirstNo (read_questions e) n

-- there is no other answer, and the refusal is 21
abbrev pub IrigReadAnswers : Type 0
IrigReadAnswers =
    (e : List ℕ)
    → (read_irig e ≡ found ((clock_in e).day ∷ second_of_day (clock_in e) ∷ []))
    ⊎ ((n : ℕ) × (one_of read_refusals n ≡ true) × (read_irig e ≡ refused n))

-- ---- the refusals of writing

-- the numbers of the questions, in their order
abbrev pub write_refusals : List ℕ
write_refusals = 1 ∷ 3 ∷ 21 ∷ 4 ∷ []

abbrev pub IrigWriteOrder : Type 0
IrigWriteOrder = (p : Schedule) (t x space : ℕ) → numbers_of (write_questions p t x space) ≡ write_refusals

-- 0 and the number of elements exactly when every question is answered yes
abbrev pub IrigWriteAccepted : Type 0
IrigWriteAccepted = (p : Schedule) (t x space : ℕ) → write_irig p t x space ≡ found (100 ∷ []) ↔ AllYes (write_questions p t x space)

-- k alone exactly when the questions before k in the list are answered yes and question k is not
abbrev pub IrigWriteRefused : Type 0
IrigWriteRefused = (p : Schedule) (t x space k : ℕ) → write_irig p t x space ≡ refused k ↔ FirstNo (write_questions p t x space) k

-- there is no other answer, and a refusal is one of the numbers
abbrev pub IrigWriteAnswers : Type 0
IrigWriteAnswers =
    (p : Schedule) (t x space : ℕ)
    → (write_irig p t x space ≡ found (100 ∷ []))
    ⊎ ((k : ℕ) × (one_of write_refusals k ≡ true) × (write_irig p t x space ≡ refused k))

-- without the list: 1 is about the plan and its messages, 3 about the minute, 21 about the second, 4 about the buffer
pub record WriteReasons (p : Schedule) (t x space : ℕ) : Type 0 where
  pub plan1 : write_irig p t x space ≡ refused 1 ↔ (legal_schedule p ≡ false)
  pub minute3 : write_irig p t x space ≡ refused 3 ↔ ((legal_schedule p ≡ true) × (minute_count ≤ t))
  pub second21 : write_irig p t x space ≡ refused 21 ↔ ((legal_schedule p ≡ true) × (t < minute_count) × (length_at p.plan t ≤ x))
  pub space4 :
      write_irig p t x space ≡ refused 4 ↔ ((legal_schedule p ≡ true) × (t < minute_count) × (x < length_at p.plan t) × (space < 100))

abbrev pub IrigWriteFacts : Type 0
IrigWriteFacts = (p : Schedule) (t x space : ℕ) → WriteReasons p t x space

-- accepted: the elements stand first in the buffer and read back as sent, and the bytes after them are as before
pub record IrigDone (p : Schedule) (t x : ℕ) (buffer : List ℕ) : Type 0 where
  pub written : take element_count (elements_written p t x buffer) ≡ elements t x
  pub rest : drop element_count (elements_written p t x buffer) ≡ drop element_count buffer
  pub length : length (elements_written p t x buffer) ≡ length buffer
  pub read : read_irig (take element_count (elements_written p t x buffer)) ≡ found (day_of_year t ∷ (t % 1440 * 60 + x) ∷ [])

abbrev pub IrigWriteDone : Type 0
IrigWriteDone = (p : Schedule) (t x : ℕ) (buffer : List ℕ) → AllYes (write_questions p t x (length buffer)) → IrigDone p t x buffer

-- refused: the buffer is as it was
abbrev pub IrigWriteUndone : Type 0
IrigWriteUndone =
    (p : Schedule) (t x : ℕ) (buffer : List ℕ) (k : ℕ) → FirstNo (write_questions p t x (length buffer)) k → elements_written p t x buffer ≡ buffer
