-- `amplitude_row::lines_of` meets its contract.
-- Assumes nothing.
use Rattle.amplitude_row.proofs.ByLine.{flags-small}
use Rattle.amplitude_row.proofs.lines_of.Goals as goal

pub flags_of-requires : goal.flags_of-requires
flags_of-requires c = flags-small c.args.x c.requires
