-- Every statement of specs with its proof: where a proof is missing, this module is not proved.
-- Assumes nothing.
use Rattle.sequence.specs.Parts.{ReadInParts, StateAtEnd}
use Rattle.sequence.specs.Demand.{Demand3, InversionsAlone, NothingInverted, LengthsKept}
use Rattle.sequence.specs.RoundTrip.{ReadsBack, LengthsSum, WrittenReadsBack, SingleReadsBack, WrittenBitInverted}
use Rattle.sequence.specs.Bench.{BenchTable}
use Rattle.sequence.specs.Unread.{UnreadBitsChangeNothing, UnreadBitsOfOneFrame}
use Rattle.sequence.specs.Refusals.{WriteOrder, WriteAccepted, WriteRefused, WriteAnswers, WriteDone, WriteUndone, OrderAfter, RecordingRead, RecordingOnly, RecordingAccepted, RecordingRefused, RecordingAnswers, FromAnswers, RecordingKept}
use Rattle.sequence.specs.FalseMinute.{FalseMinute, FalseMinuteOfWhole}
use Rattle.sequence.specs.Leap.{LeapLastRead}
use Rattle.sequence.proofs.Refusals.{write-order, write-accepted, write-refused, write-answers, write_done, write-undone}
use Rattle.sequence.proofs.Places.{inversions-alone, nothing-inverted, lengths-kept}
use Rattle.sequence.proofs.ReadBack.{reads-back, lengths-sum, written-reads-back, single-reads-back, written-bit-inverted}
use Rattle.sequence.proofs.Bench.{bench-table}
use Rattle.sequence.proofs.Demand.{demand-3}
use Rattle.sequence.proofs.Unread.{unread-bits-change-nothing, unread-bits-of-one-frame}
use Rattle.sequence.proofs.ReadRefusals.{order-after, recording-read, recording-only, recording-accepted, recording-refused, recording-answers, from-answers}
use Rattle.sequence.proofs.Kept.{read-in-parts, state-at-end, recording-kept}
use Rattle.sequence.proofs.FalseMinute.{false-minute, false-minute-of-whole}
use Rattle.sequence.proofs.Leap.{leap-last-read}

read-in-parts' : ReadInParts
read-in-parts' = read-in-parts

state-at-end' : StateAtEnd
state-at-end' = state-at-end

demand-3' : Demand3
demand-3' = demand-3

inversions-alone' : InversionsAlone
inversions-alone' = inversions-alone

nothing-inverted' : NothingInverted
nothing-inverted' = nothing-inverted

lengths-kept' : LengthsKept
lengths-kept' = lengths-kept

reads-back' : ReadsBack
reads-back' = reads-back

lengths-sum' : LengthsSum
lengths-sum' = lengths-sum

written-reads-back' : WrittenReadsBack
written-reads-back' = written-reads-back

single-reads-back' : SingleReadsBack
single-reads-back' = single-reads-back

written-bit-inverted' : WrittenBitInverted
written-bit-inverted' = written-bit-inverted

bench-table' : BenchTable
bench-table' = bench-table

unread-bits-change-nothing' : UnreadBitsChangeNothing
unread-bits-change-nothing' = unread-bits-change-nothing

unread-bits-of-one-frame' : UnreadBitsOfOneFrame
unread-bits-of-one-frame' = unread-bits-of-one-frame

write-order' : WriteOrder
write-order' = write-order

write-accepted' : WriteAccepted
write-accepted' = write-accepted

write-refused' : WriteRefused
write-refused' = write-refused

write-answers' : WriteAnswers
write-answers' = write-answers

write-done' : WriteDone
write-done' = write_done

write-undone' : WriteUndone
write-undone' = write-undone

order-after' : OrderAfter
order-after' = order-after

recording-read' : RecordingRead
recording-read' = recording-read

recording-only' : RecordingOnly
recording-only' = recording-only

recording-accepted' : RecordingAccepted
recording-accepted' = recording-accepted

recording-refused' : RecordingRefused
recording-refused' = recording-refused

recording-answers' : RecordingAnswers
recording-answers' = recording-answers

from-answers' : FromAnswers
from-answers' = from-answers

recording-kept' : RecordingKept
recording-kept' = recording-kept

false-minute' : FalseMinute
false-minute' = false-minute

false-minute-of-whole' : FalseMinuteOfWhole
false-minute-of-whole' = false-minute-of-whole

leap-last-read' : LeapLastRead
leap-last-read' = leap-last-read
