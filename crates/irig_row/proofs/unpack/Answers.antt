-- `irig_row::unpack` meets its contract.
-- Assumes nothing.
use Rattle.irig_row.proofs.Eight.{unpacked-low}
use Rattle.irig_row.proofs.unpack.Goals as goal

pub returns : goal.returns
returns c = unpacked-low c.args.v c.requires
