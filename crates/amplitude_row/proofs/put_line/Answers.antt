-- `amplitude_row::put_line` meets its contract.
-- Assumes nothing.
use Rattle.amplitude_row.proofs.Putting.{line-put}
use Rattle.amplitude_row.proofs.put_line.Goals as goal

pub returns : goal.returns
returns c = line-put c.args.line.now c.args.number c.requires c.spread.new.out c.spread.ensures
