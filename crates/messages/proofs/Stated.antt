-- Every statement of specs with its proof: where a proof is missing, this module is not proved.
-- Assumes nothing.
use Rattle.messages.specs.Theorems.{MessagesLegal, ScheduleLegal, BytesLegal, BytesOfMessages}
use Rattle.messages.proofs.Legal.{messages-legal}
use Rattle.messages.proofs.Schedules.{schedule-legal}
use Rattle.messages.proofs.Bytes.{bytes-legal, bytes-of-messages}

messages-legal' : MessagesLegal
messages-legal' = messages-legal

schedule-legal' : ScheduleLegal
schedule-legal' = schedule-legal

bytes-legal' : BytesLegal
bytes-legal' = bytes-legal

bytes-of-messages' : BytesOfMessages
bytes-of-messages' = bytes-of-messages
