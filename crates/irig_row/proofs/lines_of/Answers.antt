-- `irig_row::lines_of` meets its contract.
-- Assumes nothing.
use native.Mathlib.Omega.{arith}
use Rattle.irig_rules.proofs.Facts.{Real, real, second-high}
use Rattle.irig_row.proofs.lines_of.Goals as goal
use Rattle.irig_row.proofs.lines_of.Goals.{Start}

facts : (s : Start) → Real s.args.c
facts s = real s.args.c s.requires

pub digits_line-requires : goal.digits_line-requires
digits_line-requires c =
    let d = (goal.at.digits_line-requires c).Start in
    omega (arith, facts d, second-high c.args.c (facts d))

pub digits_line-requires-2 : goal.digits_line-requires-2
digits_line-requires-2 c = omega (arith, facts (goal.at.digits_line-requires-2 c).Start)

pub digits_line-requires-3 : goal.digits_line-requires-3
digits_line-requires-3 c = omega (arith, facts (goal.at.digits_line-requires-3 c).Start)
