-- `layout::time_word` meets its contract.
-- Assumes nothing.
use mathlib.Core.Path.{sym}
use Rattle.format.proofs.Words.{time-number}
use Rattle.layout.proofs.time_word.Goals as goal

pub returns : goal.returns
returns c = sym (time-number c.args.word)
