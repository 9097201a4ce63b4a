-- `page_columns::minute_in` meets its contract.
-- Assumes nothing.
use native.Mathlib.Omega.{arith}
use Rattle.messages.specs.Bytes.{big_endian}
use Rattle.page_columns.proofs.minute_in.Goals as goal

pub returns : goal.returns
unfolding big_endian
returns c = omega arith
