-- `layout::message_data` meets its contract.
-- Assumes nothing.
use native.Mathlib.Omega.{arith}
use Rattle.format.proofs.Words.{data-number}
use Rattle.layout.proofs.message_data.Goals as goal

pub returns : goal.returns
returns c = omega (arith, data-number c.args.word)
