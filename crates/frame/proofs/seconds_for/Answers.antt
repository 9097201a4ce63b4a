-- `frame::seconds_for` meets its contract.
-- Assumes nothing.
use mathlib.Core.Path.{◌∙◌}
use native.Mathlib.Omega.{arith}
use Rattle.format.specs.Reading.{seconds_for}
use Rattle.frame.proofs.Lengths.{shorter, longer}
use Rattle.frame.proofs.seconds_for.Goals as goal

pub returns-in-0 : goal.returns-in-0
unfolding seconds_for
returns-in-0 c = rw c.in-0.is

pub returns-in-1 : goal.returns-in-1
returns-in-1 c = rw c.in-1.is (c.seconds_with.ensures ∙ shorter _)

pub returns-in_default : goal.returns-in_default
returns-in_default c = c.seconds_with-in_default.ensures ∙ longer _ _ (omega arith)
