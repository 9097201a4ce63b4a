-- `timeword::pushed` meets its contract.
-- Assumes nothing.
use lib.Bits.{bit_and}
use lib.Count.{ones}
use lib.Dec.{lit≤}
use Rattle.timeword.proofs.Masks.{joined}
use Rattle.timeword.proofs.pushed.Goals as goal

pub returns : goal.returns
returns c = joined 4 1 c.args.so_far (ones (bit_and c.args.word c.args.mask)) c.requires (lit≤ tt)
