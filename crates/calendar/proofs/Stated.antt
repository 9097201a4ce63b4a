-- Every statement of specs with its proof: where a proof is missing, this module is not proved.
-- Assumes nothing.
use Rattle.calendar.specs.Theorems.{Range, MinuteRoundTrip, DateRoundTrip, DateOrder, DateAccepted, DateRefused, DateAnswers, MinuteAccepted, MinuteRefused, MinuteAnswers, MonthsCountUp, MonthMinutes, OneLastMinute, LastMinuteDate, BelowRoundTrip, MinuteBeforeFirst, DayBelow}
use Rattle.calendar.proofs.RoundTrip.{range, minute-round-trip, date-round-trip}
use Rattle.calendar.proofs.Answers.{date-order, date-accepted, date-refused, date-answers, minute-accepted, minute-refused, minute-answers}
use Rattle.calendar.proofs.MonthOrder.{months-count-up}
use Rattle.calendar.proofs.LastMinute.{month-minutes, one-last-minute, last-minute-date}
use Rattle.calendar.proofs.Below.{below-round-trip, minute-before-first, day-below}

range' : Range
range' = range

minute-round-trip' : MinuteRoundTrip
minute-round-trip' = minute-round-trip

date-round-trip' : DateRoundTrip
date-round-trip' = date-round-trip

date-order' : DateOrder
date-order' = date-order

date-accepted' : DateAccepted
date-accepted' = date-accepted

date-refused' : DateRefused
date-refused' = date-refused

date-answers' : DateAnswers
date-answers' = date-answers

minute-accepted' : MinuteAccepted
minute-accepted' = minute-accepted

minute-refused' : MinuteRefused
minute-refused' = minute-refused

minute-answers' : MinuteAnswers
minute-answers' = minute-answers

months-count-up' : MonthsCountUp
months-count-up' = months-count-up

month-minutes' : MonthMinutes
month-minutes' = month-minutes

one-last-minute' : OneLastMinute
one-last-minute' = one-last-minute

last-minute-date' : LastMinuteDate
last-minute-date' = last-minute-date

below-round-trip' : BelowRoundTrip
below-round-trip' = below-round-trip

minute-before-first' : MinuteBeforeFirst
minute-before-first' = minute-before-first

day-below' : DayBelow
day-below' = day-below
