-- `amplitude_row::put_row` meets its contract.
-- Assumes nothing.
use Rattle.amplitude_row.proofs.ByLine.{lines-fill}
use Rattle.amplitude_row.proofs.put_row.Goals as goal

pub returns : goal.returns
returns c = cc (lines-fill c.args.x c.requires.0)
