-- Worked examples, computed.
-- Assumes nothing.
use mathlib.Core.Path.{refl}
use Rattle.bits.specs.Bits.{bit, bits}
use Rattle.symbols.specs.Symbols.{fill}
use Rattle.gregorian.specs.Gregorian.{leap_year, month_lengths, months_of, year_length, lengths_from, year_lengths, before, walk, year_of_day, month_of_day, month_start}
use Rattle.calendar.specs.Calendar.{date_from, date_at, month_index, last_of_month}
use Rattle.plan.specs.Plan.{first_sunday, march_sunday, november_sunday, weeks, spring_day, autumn_day, has_changes, is_earlier, spring_row, autumn_row, spring_day_of, autumn_day_of, within, changing, daylight_at, leap_at, length_at}
use Rattle.amplitude_rules.specs.Amplitude.{table1, digits, sign_bits, leap_mark, fields_of, symbols}
use Rattle.amplitude_rules.specs.Writing.{warning_at, values_at}
use Rattle.amplitude_rules.specs.Theorems.{Table10, OneSymbolMistaken, LeapMinutes}

-- the three, by one list of what is computed
examples : Table10 × OneSymbolMistaken × LeapMinutes
unfolding bit bits fill leap_year month_lengths months_of year_length lengths_from year_lengths before walk year_of_day month_of_day month_start date_from date_at month_index last_of_month first_sunday march_sunday november_sunday weeks spring_day autumn_day has_changes is_earlier spring_row autumn_row spring_day_of autumn_day_of within changing daylight_at leap_at length_at table1 digits sign_bits leap_mark fields_of symbols warning_at values_at
examples = (refl, refl, (refl, refl))

pub table-10 : Table10
table-10 = examples.0

pub one-symbol-mistaken : OneSymbolMistaken
one-symbol-mistaken = examples.1

pub leap-minutes : LeapMinutes
leap-minutes = examples.2
