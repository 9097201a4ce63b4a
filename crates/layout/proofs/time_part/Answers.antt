-- `layout::time_part` meets its contract.
-- Assumes nothing.
use native.Mathlib.Omega.{arith}
use Rattle.format.proofs.Sending.{time-part-number}
use Rattle.layout.proofs.time_part.Goals as goal

pub returns : goal.returns
returns c = omega (arith, time-part-number c.args.time c.args.echo c.requires.0)
