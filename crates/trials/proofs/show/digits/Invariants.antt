-- `trials::show::digits` meets its contract: the digits of the bytes before `b` are written.
-- Assumes nothing.
use Rattle.std.proofs.Common.{flat_map, decimal, take}
use Rattle.std.specs.Io.KnownBytes.{Appends}
use Rattle.trials.proofs.show.digits.Given as goal

abbrev pub invariant-loop-b : goal.invariant-loop-b
invariant-loop-b g l = Appends (g.W.Write.contents l.initial.to) (g.W.Write.contents l.to) (flat_map decimal (take l.b-index l.s))
