-- `layout::day_part` meets its contract.
-- Assumes nothing.
use mathlib.Core.Path.{sym}
use Rattle.format.proofs.Sending.{day-part-number}
use Rattle.layout.proofs.day_part.Goals as goal

pub returns : goal.returns
returns c = sym (day-part-number c.args.state c.args.notice c.args.next c.requires.0 c.requires.2)
