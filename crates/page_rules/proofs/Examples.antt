-- The worked examples, computed.
-- Assumes nothing.
use mathlib.Core.Path.{refl}
use Rattle.bits.specs.Bits.{bit, bits, concat}
use Rattle.decimal.specs.Decimal.{width_within, width, digits, decimal}
use Rattle.gregorian.specs.Gregorian.{leap_year, month_lengths, months_of, year_length, lengths_from, year_lengths, before, walk, year_of_day, month_of_day}
use Rattle.calendar.specs.Calendar.{date_from, date_at}
use Rattle.page_rules.specs.Page.{blanks, aligned, date_text, time_text, bits_text, leap_text, time_columns, message_columns, columns_of, spaced, line}
use Rattle.page_rules.specs.Page.{page_lines, feed, page}
use Rattle.page_rules.specs.Theorems.{ExampleLine, ExampleLeap, ExampleShort, ExampleFirst, ExampleMessage, ExamplePage}

pub example-line : ExampleLine
unfolding bit bits width_within width digits decimal leap_year month_lengths months_of year_length lengths_from year_lengths before walk
    year_of_day month_of_day date_from date_at blanks aligned date_text time_text bits_text leap_text time_columns columns_of spaced line
example-line = refl

pub example-leap : ExampleLeap
unfolding bit bits width_within width digits decimal leap_year month_lengths months_of year_length lengths_from year_lengths before walk
    year_of_day month_of_day date_from date_at blanks aligned date_text time_text bits_text leap_text time_columns columns_of spaced line
example-leap = refl

pub example-short : ExampleShort
unfolding bit bits width_within width digits decimal leap_year month_lengths months_of year_length lengths_from year_lengths before walk
    year_of_day month_of_day date_from date_at blanks aligned date_text time_text bits_text leap_text time_columns columns_of spaced line
example-short = refl

pub example-first : ExampleFirst
unfolding bit bits width_within width digits decimal leap_year month_lengths months_of year_length lengths_from year_lengths before walk
    year_of_day month_of_day date_from date_at blanks aligned date_text time_text bits_text leap_text time_columns columns_of spaced line
example-first = refl

pub example-message : ExampleMessage
unfolding width_within width digits decimal leap_year month_lengths months_of year_length lengths_from year_lengths before walk
    year_of_day month_of_day date_from date_at blanks aligned date_text time_text message_columns columns_of spaced line
example-message = refl

pub example-page : ExamplePage
unfolding width_within width digits decimal concat blanks aligned page_lines feed page
example-page = (refl, refl, refl)
