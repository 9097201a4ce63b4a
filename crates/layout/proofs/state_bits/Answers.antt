-- `layout::state_bits` meets its contract.
-- Assumes nothing.
use mathlib.Core.Path.{sym}
use Rattle.format.proofs.Words.{state-number}
use Rattle.layout.proofs.state_bits.Goals as goal

pub returns : goal.returns
returns c = sym (state-number c.args.word)
