-- The leap years, counted from the first year of the range.
-- Assumes nothing.
use Prim.Native.Nat.{ℕ, ◌+◌, ◌%◌}
use mathlib.Core.Bool.{not, ◌&&◌, ◌||◌}
use mathlib.Core.Path.{◌≡◌}
use native.Mathlib.Omega.{arith}
use lib.Dec.{eqb}
use Rattle.gregorian.specs.Gregorian.{first_year, leap_year}

-- the first year is a multiple of 4, 100 and 400
pub leap_years : (y : ℕ) → leap_year (first_year + y) ≡ (eqb (y % 4) 0 && not (eqb (y % 100) 0) || eqb (y % 400) 0)
unfolding leap_year
leap_years y =
    let four : (first_year + y) % 4 ≡ y % 4 = omega arith in
    let hundred : (first_year + y) % 100 ≡ y % 100 = omega arith in
    let all : (first_year + y) % 400 ≡ y % 400 = omega arith in
    rw (four, hundred, all)
