-- `layout::notice_bit` meets its contract.
-- Assumes nothing.
use mathlib.Core.Path.{sym}
use Rattle.format.proofs.Words.{notice-bit}
use Rattle.layout.proofs.notice_bit.Goals as goal

pub returns : goal.returns
returns c = sym (notice-bit c.args.word)
