-- Every statement of specs with its proof: where a proof is missing, this module is not proved.
-- Assumes nothing.
use Rattle.amplitude_rules.specs.Theorems.{ReadExactly, SymbolsApart, FieldsOfDate, DigitSeconds, FlagSeconds, AcceptedLengths, UT1Limits, LayoutSeconds}
use Rattle.amplitude_rules.specs.Theorems.{SentReads, WarnedMonth, BothCodes, Table10, OneSymbolMistaken, LeapMinutes, AmplitudeReadOrder}
use Rattle.amplitude_rules.specs.Theorems.{AmplitudeReadAccepted, AmplitudeReadRefused, AmplitudeReadAnswers, AmplitudeReadFacts}
use Rattle.amplitude_rules.specs.Theorems.{AmplitudeWriteOrder, AmplitudeWriteAccepted, AmplitudeWriteRefused, AmplitudeWriteAnswers}
use Rattle.amplitude_rules.specs.Theorems.{AmplitudeWriteFacts, AmplitudeWriteDone, AmplitudeWriteUndone, SameSymbols}
use Rattle.amplitude_rules.proofs.Exact.{read-exactly, symbols-apart, accepted-lengths}
use Rattle.amplitude_rules.proofs.Dates.{fields-of-date, digit-seconds, flag-seconds}
use Rattle.amplitude_rules.proofs.Facts.{ut1-limits}
use Rattle.amplitude_rules.proofs.Seconds.{layout-seconds}
use Rattle.amplitude_rules.proofs.Sent.{sent-reads, warned-month, both-codes}
use Rattle.amplitude_rules.proofs.Examples.{table-10, one-symbol-mistaken, leap-minutes}
use Rattle.amplitude_rules.proofs.Refusals.{read-order, read-accepted, read-refused, read-answers, amplitude-read-facts, write-order}
use Rattle.amplitude_rules.proofs.Refusals.{write-accepted, write-refused, write-answers, amplitude-write-facts, write_done, write-undone, same-symbols}

read-exactly' : ReadExactly
read-exactly' = read-exactly

symbols-apart' : SymbolsApart
symbols-apart' = symbols-apart

fields-of-date' : FieldsOfDate
fields-of-date' = fields-of-date

digit-seconds' : DigitSeconds
digit-seconds' = digit-seconds

flag-seconds' : FlagSeconds
flag-seconds' = flag-seconds

accepted-lengths' : AcceptedLengths
accepted-lengths' = accepted-lengths

ut1-limits' : UT1Limits
ut1-limits' = ut1-limits

layout-seconds' : LayoutSeconds
layout-seconds' = layout-seconds

sent-reads' : SentReads
sent-reads' = sent-reads

warned-month' : WarnedMonth
warned-month' = warned-month

both-codes' : BothCodes
both-codes' = both-codes

table-10' : Table10
table-10' = table-10

one-symbol-mistaken' : OneSymbolMistaken
one-symbol-mistaken' = one-symbol-mistaken

leap-minutes' : LeapMinutes
leap-minutes' = leap-minutes

read-order' : AmplitudeReadOrder
read-order' = read-order

read-accepted' : AmplitudeReadAccepted
read-accepted' = read-accepted

read-refused' : AmplitudeReadRefused
read-refused' = read-refused

read-answers' : AmplitudeReadAnswers
read-answers' = read-answers

amplitude-read-facts' : AmplitudeReadFacts
amplitude-read-facts' = amplitude-read-facts

write-order' : AmplitudeWriteOrder
write-order' = write-order

write-accepted' : AmplitudeWriteAccepted
write-accepted' = write-accepted

write-refused' : AmplitudeWriteRefused
write-refused' = write-refused

write-answers' : AmplitudeWriteAnswers
write-answers' = write-answers

amplitude-write-facts' : AmplitudeWriteFacts
amplitude-write-facts' = amplitude-write-facts

write-done' : AmplitudeWriteDone
write-done' = write_done

write-undone' : AmplitudeWriteUndone
write-undone' = write-undone

same-symbols' : SameSymbols
same-symbols' = same-symbols
