-- `amplitude_row::line_number` meets its contract.
-- Assumes nothing.
use Rattle.amplitude_row.proofs.ByLine.{no-mark, bits-after}
use Rattle.amplitude_row.proofs.line_number.Goals as goal

pub returns-then-line-ne-MARKER : goal.returns-then-line-ne-MARKER
returns-then-line-ne-MARKER c = no-mark c.args.line.now c.if-line-ne-MARKER.true

pub returns : goal.returns
returns c = bits-after c.args.line.now c.gather.result c.requires.0 c.if-line-ne-MARKER.false c.gather.ensures
