-- Every statement of specs with its proof: where a proof is missing, this module is not proved.
-- Assumes nothing.
use Rattle.irig_rules.specs.Theorems.{IrigReadsBack, IrigGiven, IrigNotGiven, LeapSecondDays, StraightAgrees, IrigRange, ElementsLaidOut, ClockOfDate}
use Rattle.irig_rules.specs.Theorems.{ExampleSecond, ExampleLeap, IrigReadOrder, IrigReadAccepted, IrigReadRefused, IrigReadAnswers}
use Rattle.irig_rules.specs.Theorems.{IrigWriteOrder, IrigWriteAccepted, IrigWriteRefused, IrigWriteAnswers, IrigWriteFacts, IrigWriteDone, IrigWriteUndone}
use Rattle.irig_rules.proofs.Given.{reads-back, irig-given, irig-not-given}
use Rattle.irig_rules.proofs.Seconds.{leap-second-days, straight-agrees, irig-range}
use Rattle.irig_rules.proofs.Shown.{elements-laid-out}
use Rattle.irig_rules.proofs.Dates.{clock-of-date}
use Rattle.irig_rules.proofs.Examples.{example-second, example-leap}
use Rattle.irig_rules.proofs.Refusals.{read-order, read-accepted, read-refused, read-answers, write-order, write-accepted, write-refused, write-answers}
use Rattle.irig_rules.proofs.Refusals.{write-facts, write_done, write-undone}

reads-back' : IrigReadsBack
reads-back' = reads-back

irig-given' : IrigGiven
irig-given' = irig-given

irig-not-given' : IrigNotGiven
irig-not-given' = irig-not-given

leap-second-days' : LeapSecondDays
leap-second-days' = leap-second-days

straight-agrees' : StraightAgrees
straight-agrees' = straight-agrees

irig-range' : IrigRange
irig-range' = irig-range

elements-laid-out' : ElementsLaidOut
elements-laid-out' = elements-laid-out

clock-of-date' : ClockOfDate
clock-of-date' = clock-of-date

example-second' : ExampleSecond
example-second' = example-second

example-leap' : ExampleLeap
example-leap' = example-leap

read-order' : IrigReadOrder
read-order' = read-order

read-accepted' : IrigReadAccepted
read-accepted' = read-accepted

read-refused' : IrigReadRefused
read-refused' = read-refused

read-answers' : IrigReadAnswers
read-answers' = read-answers

write-order' : IrigWriteOrder
write-order' = write-order

write-accepted' : IrigWriteAccepted
write-accepted' = write-accepted

write-refused' : IrigWriteRefused
write-refused' = write-refused

write-answers' : IrigWriteAnswers
write-answers' = write-answers

write-facts' : IrigWriteFacts
write-facts' = write-facts

write-done' : IrigWriteDone
write-done' = write_done

write-undone' : IrigWriteUndone
write-undone' = write-undone
