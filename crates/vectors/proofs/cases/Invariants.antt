-- `vectors::cases` is safe and ends: the next case begins after the line feed of this one.
-- Assumes nothing.
use Rattle.std.proofs.Common.{length}
use Rattle.vectors.proofs.cases.Given as goal

abbrev pub decreases-loop-rest : goal.decreases-loop-rest
decreases-loop-rest g l = length l.rest
