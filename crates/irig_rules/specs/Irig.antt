-- IRIG 200 format B: the elements of a second (document 02, 9, "Feeding recorders that take IRIG B"; the places are those of format A in source
-- document 003).
-- Assumes nothing.
use Rattle.std.specs.Prelude.{ℕ, zero, suc, ◌+◌, ◌*◌, ◌/◌, ◌%◌, List, [], ◌∷◌, replicate}
use Rattle.bits.specs.Bits.{concat}
use Rattle.gregorian.specs.Gregorian.{year_of_day}
use Rattle.irig_rules.specs.declared.Clock.{Clock}

-- "100 elements a second, 0, 1 or 2, the last an identifier"
abbrev pub element_count : ℕ
element_count = 100

abbrev pub identifier : ℕ
identifier = 2

-- the n low bits of x, "low bit first"
unfoldable pub low_bits : ℕ → ℕ → List ℕ
low_bits zero x = []
low_bits (suc n) x = x % 2 ∷ low_bits n (x / 2)

-- an identifier; n elements that are always 0
abbrev pub mark : List ℕ
mark = identifier ∷ []

abbrev pub zeros : ℕ → List ℕ
zeros n = replicate n 0

-- the second of the day: second 60 of 23:59 is 86,400
unfoldable pub second_of_day : Clock → ℕ
second_of_day c = (c.hour * 60 + c.minute) * 60 + c.second

-- the elements of a time, ten to a line after the identifier at 0. The lines: second; minute; hour; day of the year, units and tens; its hundreds; three
-- lines of zeros; the straight seconds of the day, nine bits and then the others
unfoldable pub elements_of : Clock → List ℕ
elements_of c =
    concat (
    mark
    ∷ low_bits 4 (c.second % 10) ∷ zeros 1 ∷ low_bits 3 (c.second / 10) ∷ mark
    ∷ low_bits 4 (c.minute % 10) ∷ zeros 1 ∷ low_bits 3 (c.minute / 10) ∷ zeros 1 ∷ mark
    ∷ low_bits 4 (c.hour % 10) ∷ zeros 1 ∷ low_bits 2 (c.hour / 10) ∷ zeros 2 ∷ mark
    ∷ low_bits 4 (c.day % 10) ∷ zeros 1 ∷ low_bits 4 (c.day / 10 % 10) ∷ mark
    ∷ low_bits 2 (c.day / 100) ∷ zeros 7 ∷ mark
    ∷ zeros 9 ∷ mark
    ∷ zeros 9 ∷ mark
    ∷ zeros 9 ∷ mark
    ∷ low_bits 9 (second_of_day c) ∷ mark
    ∷ low_bits 8 (second_of_day c / 512) ∷ zeros 1 ∷ mark
    ∷ []
    )

-- the day of the year of minute t, counted from 1
unfoldable pub day_of_year : ℕ → ℕ
day_of_year t = (year_of_day (t / 1440)).rest + 1

-- the time of second x of minute t, and its elements
unfoldable pub clock_at : ℕ → ℕ → Clock
clock_at t x = record { day = day_of_year t; hour = t % 1440 / 60; minute = t % 60; second = x }

abbrev pub elements : ℕ → ℕ → List ℕ
elements t x = elements_of (clock_at t x)
