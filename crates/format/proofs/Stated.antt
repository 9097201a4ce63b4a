-- Every statement of specs with its proof: where a proof is missing, this module is not proved.
-- Assumes nothing.
use Rattle.format.specs.Entry.{EntryLaidOut}
use Rattle.format.specs.Inverting.{InvertsOneBit}
use Rattle.format.specs.MessageBits.{MessagesSent, MessageLaidOut, EntryKinds}
use Rattle.format.specs.Received.{EchoByteAlone}
use Rattle.format.specs.Refusals.{FrameOrder, SpaceFirst, FrameAccepted, FrameRefused, FrameAnswers, FrameFacts, MessageFacts, OrderAsked, LeapAfter}
use Rattle.format.specs.Refusals.{OneAccepted, OneRefused, OneAnswers, FirstAnswers, OneBuffer}
use Rattle.format.specs.OneBit.{AnyBitInverted}
use Rattle.format.specs.FalseMinute.{FrameReadNear}
use Rattle.format.specs.TwoErrors.{TwoErrorsMistaken}
use Rattle.format.proofs.Entry.{entry-laid-out}
use Rattle.format.proofs.Inverting.{inverts-one-bit}
use Rattle.format.proofs.MessageTrip.{message-laid-out, entry-kinds}
use Rattle.format.proofs.Echo.{echo-byte-alone}
use Rattle.format.proofs.Facts.{frame-facts}
use Rattle.format.proofs.MessageFacts.{message-facts}
use Rattle.format.proofs.Contents.{messages-sent}
use Rattle.format.proofs.Refusals.{frame-order, frame-accepted, frame_refused, frame-answers, order-asked, leap-after}
use Rattle.format.proofs.Refusals.{one-accepted, one-refused, one-answers, first-answers, one-buffer}
use Rattle.format.proofs.One.{space-first}
use Rattle.format.proofs.OneBit.{any-bit-inverted}
use Rattle.format.proofs.FalseMinute.{frame-read-near}
use Rattle.format.proofs.TwoErrors.{two-errors-mistaken}

entry-laid-out' : EntryLaidOut
entry-laid-out' = entry-laid-out

inverts-one-bit' : InvertsOneBit
inverts-one-bit' = inverts-one-bit

messages-sent' : MessagesSent
messages-sent' = messages-sent

message-laid-out' : MessageLaidOut
message-laid-out' = message-laid-out

entry-kinds' : EntryKinds
entry-kinds' = entry-kinds

echo-byte-alone' : EchoByteAlone
echo-byte-alone' = echo-byte-alone

frame-order' : FrameOrder
frame-order' = frame-order

space-first' : SpaceFirst
space-first' = space-first

frame-accepted' : FrameAccepted
frame-accepted' = frame-accepted

frame-refused' : FrameRefused
frame-refused' = frame_refused

frame-answers' : FrameAnswers
frame-answers' = frame-answers

frame-facts' : FrameFacts
frame-facts' = frame-facts

message-facts' : MessageFacts
message-facts' = message-facts

order-asked' : OrderAsked
order-asked' = order-asked

leap-after' : LeapAfter
leap-after' = leap-after

one-accepted' : OneAccepted
one-accepted' = one-accepted

one-refused' : OneRefused
one-refused' = one-refused

one-answers' : OneAnswers
one-answers' = one-answers

first-answers' : FirstAnswers
first-answers' = first-answers

one-buffer' : OneBuffer
one-buffer' = one-buffer

any-bit-inverted' : AnyBitInverted
any-bit-inverted' = any-bit-inverted

frame-read-near' : FrameReadNear
frame-read-near' = frame-read-near

two-errors-mistaken' : TwoErrorsMistaken
two-errors-mistaken' = two-errors-mistaken
