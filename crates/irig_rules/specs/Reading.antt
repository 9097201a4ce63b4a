-- Reading a second of IRIG 200 format B: question 21, and the day of the year and the second of the day (document 02, 9, "Feeding recorders that take IRIG
-- B").
-- Assumes nothing.
use Rattle.std.specs.Prelude.{ℕ, ◌+◌, ◌*◌, Bool, true, false, ◌&&◌, ◌||◌, List, [], ◌∷◌, map, leb, ltb, eqb, take, drop}
use Rattle.bits.specs.Bits.{distance}
use Rattle.bits.specs.Numbers.{Numbers, found, refused}
use Rattle.questions.specs.Questions.{Question, asked, one_of}
use Rattle.gregorian.specs.Gregorian.{month_lengths, before}
use Rattle.irig_rules.specs.declared.Clock.{Clock}
use Rattle.irig_rules.specs.Irig.{second_of_day, elements_of}

-- ---- the time that elements show

-- the number that elements write, the lowest bit first
unfoldable pub low_number : List ℕ → ℕ
low_number [] = 0
low_number (b ∷ w) = b + low_number w * 2

-- that of the n elements from place k on
unfoldable pub number_at : List ℕ → ℕ → ℕ → ℕ
number_at e k n = low_number (take n (drop k e))

-- the time of the decimal digits
unfoldable pub clock_in : List ℕ → Clock
clock_in e =
    record {
      day = number_at e 40 2 * 100 + number_at e 35 4 * 10 + number_at e 30 4;
      hour = number_at e 25 2 * 10 + number_at e 20 4;
      minute = number_at e 15 3 * 10 + number_at e 10 4;
      second = number_at e 6 3 * 10 + number_at e 1 4;
    }

-- ---- question 21

-- the last days of the twelve months, as days of a common or of a leap year
abbrev pub month_ends : Bool → List ℕ
month_ends leap = map (before (month_lengths leap)) (1 ∷ 2 ∷ 3 ∷ 4 ∷ 5 ∷ 6 ∷ 7 ∷ 8 ∷ 9 ∷ 10 ∷ 11 ∷ 12 ∷ [])

-- a day that ends a month in one of them; no year is sent
unfoldable pub ends_month : ℕ → Bool
ends_month d = one_of (month_ends false) d || one_of (month_ends true) d

-- a second below 60, or second 60 of a minute that can have 61 seconds: 23:59 of a day that ends a month
unfoldable pub real_second : Clock → Bool
real_second c = ltb c.second 60 || (eqb c.second 60 && eqb c.hour 23 && eqb c.minute 59 && ends_month c.day)

-- a real day of the year, hour, minute and second
unfoldable pub real_clock : Clock → Bool
real_clock c = leb 1 c.day && leb c.day 366 && ltb c.hour 24 && ltb c.minute 60 && real_second c

-- the elements are those of the time that they show: as many, and the same at each place; `distance` counts the places that one list has more too
unfoldable pub consistent : List ℕ → Bool
consistent e = eqb (distance e (elements_of (clock_in e))) 0

-- ---- the call

-- question 21; by `IrigGiven` it is that of the paper: a legal plan, minute and second give the elements
unfoldable pub read_questions : List ℕ → List Question
read_questions e = (21, real_clock (clock_in e) && consistent e) ∷ []

-- what reading gives: 0, the day of the year and the second of the day, or the refusal alone
unfoldable pub read_irig : List ℕ → Numbers
read_irig e = asked refused (read_questions e) (found ((clock_in e).day ∷ second_of_day (clock_in e) ∷ []))
