-- The elements of a second by lines. No section of the papers: words of the contracts inside the library.
-- Assumes nothing.
use Rattle.std.specs.Prelude.{ℕ, ◌+◌, ◌*◌, ◌/◌, ◌%◌, List, [], ◌∷◌, ◌++◌, map}
use Rattle.bits.specs.Bits.{concat}
use Rattle.irig_rules.specs.declared.Clock.{Clock}
use Rattle.irig_rules.specs.Irig.{mark, low_bits, second_of_day}

-- a line: nine elements, the low bits of a number, and an identifier
unfoldable pub line_elements : ℕ → List ℕ
line_elements n = low_bits 9 n ++ mark

-- the lines of these numbers
unfoldable pub row_elements : List ℕ → List ℕ
row_elements ns = concat (map line_elements ns)

-- the number of a line with two decimal digits: the units in its lowest four bits, the tens from bit 5 on
unfoldable pub digits_line : ℕ → ℕ
digits_line x = x % 10 + x / 10 * 32

-- the numbers of the ten lines of a time; the first of all elements, an identifier, stands as 0 in them
unfoldable pub lines_of : Clock → List ℕ
lines_of c =
    digits_line c.second * 2 ∷ digits_line c.minute ∷ digits_line c.hour ∷ digits_line (c.day % 100) ∷ c.day / 100
    ∷ 0 ∷ 0 ∷ 0 ∷ second_of_day c ∷ second_of_day c / 512 ∷ []
