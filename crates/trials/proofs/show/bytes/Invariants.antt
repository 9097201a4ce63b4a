-- `trials::show::bytes` meets its contract: the bytes before `b` are written, each after a space.
-- Assumes nothing.
use Rattle.std.proofs.Common.{take}
use Rattle.std.specs.Io.KnownBytes.{Appends}
use Rattle.trials.specs.Shown.{spaced}
use Rattle.trials.proofs.show.bytes.Given as goal

abbrev pub invariant-loop-b : goal.invariant-loop-b
invariant-loop-b g l = Appends (g.W.Write.contents l.initial.to) (g.W.Write.contents l.to) (spaced (take l.b-index l.s))
