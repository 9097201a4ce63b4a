-- `gregorian::days_before` meets its contract: the closed form is the sum of the year lengths, by one test over the years.
-- Assumes nothing.
use native.Mathlib.Omega.{arith}
use Rattle.gregorian.proofs.Years.{before-closed}
use Rattle.gregorian.proofs.days_before.Goals as goal

pub returns : goal.returns
returns c = omega (arith, before-closed c.args.years c.requires)
