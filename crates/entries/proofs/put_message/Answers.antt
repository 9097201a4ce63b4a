-- `entries::put_message` meets its contract.
-- Assumes nothing.
use Rattle.format.specs.Entry.{entry_bytes}
use Rattle.format.specs.Message.{message_entry}
use Rattle.entries.proofs.put_message.Goals as goal

pub returns : goal.returns
unfolding entry_bytes message_entry
returns c = rw (c.copy_from_slice.ensures.after, c.to_be_bytes-minute.ensures, c.to_be_bytes-payload.ensures)
