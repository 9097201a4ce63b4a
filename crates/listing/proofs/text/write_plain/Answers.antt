-- `listing::text::write_plain` meets its contract: no bytes hold no messages.
-- Assumes nothing.
use Rattle.messages.specs.Bytes.{message_count, messages_from, messages_in}
use Rattle.listing.proofs.text.write_plain.Goals as goal

pub returns : goal.returns
unfolding messages_in message_count messages_from
returns c = c.write_recording.ensures
