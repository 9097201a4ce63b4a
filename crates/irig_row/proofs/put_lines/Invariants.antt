-- The first k lines stand first, and what was there before follows.
-- Assumes nothing.
use Rattle.irig_row.proofs.Putting.{Put}
use Rattle.irig_row.proofs.put_lines.Given as goal

abbrev pub invariant-loop-k : goal.invariant-loop-k
invariant-loop-k l = Put l.initial.out l.number-items l.k l.out
