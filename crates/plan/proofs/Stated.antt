-- Every statement of specs with its proof: where a proof is missing, this module is not proved.
-- Assumes nothing.
use Rattle.plan.specs.Theorems.{FirstSundays, ChangesOnSundays, WeeksOfRows, FourthSunday, SpringBeforeAutumn, ChangesInYear, DaylightFollows, RowsFit, WordsReadBack, ThreeLengths, OneOtherLength, OtherLengthInLeapMinute, LeapMinuteExists, LeapMinuteLength, LeapStateOfMonth, SameInDay, SixtyInDay}
use Rattle.plan.specs.Earlier.{LegalKinds, HoursOfRows, EarlierLaw, EarlierDates, EarlierStates, OwnRows, AsKind0From2007, ChangesOfYear, FirstDay, RowSent, OwnRowsSent, StatesOfKind0, StatesOfKinds1And2}
use Rattle.plan.proofs.Follows.{daylight-follows}
use Rattle.plan.proofs.Changes.{first-sundays, changes-on-sundays, weeks-of-rows, fourth-sunday, spring-before-autumn, changes-in-year, changes-of-year}
use Rattle.plan.proofs.Rows.{rows_fit, words-read-back}
use Rattle.plan.proofs.LeapMinute.{three-lengths, one-other-length, other-length-in-leap-minute, leap-minute-exists, leap-minute-length, leap-state-of-month}
use Rattle.plan.proofs.Earlier.{legal-kinds, hours-of-rows, earlier-law, earlier-dates, own-rows}
use Rattle.plan.proofs.EarlierStates.{earlier-states, first-day}
use Rattle.plan.proofs.RowSent.{as-kind-0-from-2007, row-sent, own-rows-sent, states-of-kind-0, states-of-kinds-1-and-2}
use Rattle.plan.proofs.Days.{same-in-day, sixty-in-day}

first-sundays' : FirstSundays
first-sundays' = first-sundays

changes-on-sundays' : ChangesOnSundays
changes-on-sundays' = changes-on-sundays

weeks-of-rows' : WeeksOfRows
weeks-of-rows' = weeks-of-rows

fourth-sunday' : FourthSunday
fourth-sunday' = fourth-sunday

spring-before-autumn' : SpringBeforeAutumn
spring-before-autumn' = spring-before-autumn

changes-in-year' : ChangesInYear
changes-in-year' = changes-in-year

daylight-follows' : DaylightFollows
daylight-follows' = daylight-follows

rows-fit' : RowsFit
rows-fit' = rows_fit

words-read-back' : WordsReadBack
words-read-back' = words-read-back

three-lengths' : ThreeLengths
three-lengths' = three-lengths

one-other-length' : OneOtherLength
one-other-length' = one-other-length

other-length-in-leap-minute' : OtherLengthInLeapMinute
other-length-in-leap-minute' = other-length-in-leap-minute

leap-minute-exists' : LeapMinuteExists
leap-minute-exists' = leap-minute-exists

leap-minute-length' : LeapMinuteLength
leap-minute-length' = leap-minute-length

leap-state-of-month' : LeapStateOfMonth
leap-state-of-month' = leap-state-of-month

same-in-day' : SameInDay
same-in-day' = same-in-day

sixty-in-day' : SixtyInDay
sixty-in-day' = sixty-in-day

legal-kinds' : LegalKinds
legal-kinds' = legal-kinds

hours-of-rows' : HoursOfRows
hours-of-rows' = hours-of-rows

earlier-law' : EarlierLaw
earlier-law' = earlier-law

earlier-dates' : EarlierDates
earlier-dates' = earlier-dates

earlier-states' : EarlierStates
earlier-states' = earlier-states

own-rows' : OwnRows
own-rows' = own-rows

as-kind-0-from-2007' : AsKind0From2007
as-kind-0-from-2007' = as-kind-0-from-2007

row-sent' : RowSent
row-sent' = row-sent

own-rows-sent' : OwnRowsSent
own-rows-sent' = own-rows-sent

first-day' : FirstDay
first-day' = first-day

states-of-kind-0' : StatesOfKind0
states-of-kind-0' = states-of-kind-0

changes-of-year' : ChangesOfYear
changes-of-year' = changes-of-year

states-of-kinds-1-and-2' : StatesOfKinds1And2
states-of-kinds-1-and-2' = states-of-kinds-1-and-2
