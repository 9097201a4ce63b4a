-- `layout::echo_bit` meets its contract.
-- Assumes nothing.
use mathlib.Core.Path.{sym}
use Rattle.format.proofs.Words.{echo-bit}
use Rattle.layout.proofs.echo_bit.Goals as goal

pub returns : goal.returns
returns c = sym (echo-bit c.args.word)
