-- `entries::put_entry` meets its contract.
-- Assumes nothing.
use Rattle.format.specs.Entry.{entry_bytes}
use Rattle.entries.proofs.put_entry.Goals as goal

pub returns : goal.returns
unfolding entry_bytes
returns c = rw (c.copy_from_slice.ensures.after, c.to_be_bytes-minute.ensures, c.from.ensures, c.from-2.ensures)
