-- `irig_row::second_of_day` meets its contract.
-- Assumes nothing.
use native.Mathlib.Omega.{arith}
use mathlib.Core.Path.{refl}
use Rattle.irig_rules.specs.Irig.{second_of_day}
use Rattle.irig_rules.proofs.Facts.{Real, real, second-high}
use Rattle.irig_row.proofs.second_of_day.Goals as goal
use Rattle.irig_row.proofs.second_of_day.Goals.{Start}

facts : (s : Start) → Real s.args.c
facts s = real s.args.c s.requires

pub overflow_mul-result : goal.overflow_mul-result
overflow_mul-result c = omega (arith, facts (goal.at.overflow_mul-result c).Start)

pub overflow_add-result : goal.overflow_add-result
overflow_add-result c = omega (arith, facts (goal.at.overflow_add-result c).Start)

pub overflow_mul-result-2 : goal.overflow_mul-result-2
overflow_mul-result-2 c = omega (arith, facts (goal.at.overflow_mul-result-2 c).Start)

pub overflow_add-result-2 : goal.overflow_add-result-2
overflow_add-result-2 c =
    let d = (goal.at.overflow_add-result-2 c).Start in
    omega (arith, facts d, second-high c.args.c (facts d))

pub returns : goal.returns
unfolding second_of_day
returns c = refl
