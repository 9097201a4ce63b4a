-- `amplitude_row::put_lines` meets its contract.
-- Assumes nothing.
use Rattle.amplitude_row.proofs.Putting.{lines-put}
use Rattle.amplitude_row.proofs.put_lines.Goals as goal

pub returns : goal.returns
returns c =
    lines-put c.args.out.now c.args.l c.requires c.put_line.new.line c.put_line-2.new.line c.put_line-3.new.line
    c.put_line-4.new.line c.put_line-5.new.line c.put_line-6.new.line c.put_line.ensures c.put_line-2.ensures
    c.put_line-3.ensures c.put_line-4.ensures c.put_line-5.ensures c.put_line-6.ensures
