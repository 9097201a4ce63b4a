-- Worked examples, computed.
-- Assumes nothing.
use mathlib.Core.Path.{refl}
use Rattle.bits.specs.Bits.{concat}
use Rattle.gregorian.specs.Gregorian.{leap_year, month_lengths, months_of, year_length, lengths_from, year_lengths, before, walk, year_of_day}
use Rattle.irig_rules.specs.Irig.{low_bits, second_of_day, elements_of, day_of_year, clock_at}
use Rattle.irig_rules.specs.Theorems.{ExampleSecond, ExampleLeap}

pub example-second : ExampleSecond
unfolding leap_year month_lengths months_of year_length lengths_from year_lengths before walk year_of_day concat low_bits second_of_day elements_of day_of_year clock_at
example-second = refl

pub example-leap : ExampleLeap
unfolding leap_year month_lengths months_of year_length lengths_from year_lengths before walk year_of_day concat low_bits second_of_day elements_of day_of_year clock_at
example-leap = refl
