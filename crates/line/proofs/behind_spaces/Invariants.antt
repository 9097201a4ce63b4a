-- `line::behind_spaces` meets its contract.
-- Assumes nothing.
use mathlib.Core.Path.{◌≡◌}
use Rattle.line.specs.Line.{behind_spaces}
use Rattle.line.proofs.behind_spaces.Given as goal

abbrev pub invariant-loop : goal.invariant-loop
invariant-loop l = l.rest ≡ behind_spaces l.counter l.line
