-- The elements from place i on are read.
-- Assumes nothing.
use Rattle.std.proofs.Common.{◌≡◌, drop}
use Rattle.irig_rules.specs.Reading.{low_number}
use Rattle.irig_row.proofs.low_number.Given as goal

abbrev pub invariant-loop-i : goal.invariant-loop-i
invariant-loop-i l = l.n ≡ low_number (drop l.i l.e)
