-- `frame::ends_right` meets its contract.
-- Assumes nothing.
use mathlib.Core.Path.{◌≡◌}
use lib.ListN.{length}
use Rattle.format.specs.Questions.{enough}
use Rattle.frame.proofs.ends_right.Goals as goal
use Rattle.frame.proofs.ends_right.Goals.{Joined-alone, then-alone, else-alone}

-- where the two ways meet
enough-is : (c : Joined-alone) → c.if-alone.enough ≡ enough c.args.alone c.args.seconds (length c.args.frame.now)
unfolding enough
enough-is c = elim c.if-alone.branch [
  | then-alone w ↦ rw (w.if-alone.true, ← c.from-seconds.ensures) w.enough-is
  | else-alone w ↦ rw (w.if-alone.false, ← c.from-seconds.ensures) w.enough-is
]

pub returns-then-enough : goal.returns-then-enough
returns-then-enough c = rw (← enough-is (goal.at.returns-then-enough c).Joined-alone, c.if-enough.true, ← c.from-seconds.ensures) c.is_zero.ensures

pub returns-else-enough : goal.returns-else-enough
returns-else-enough c = rw (← enough-is (goal.at.returns-else-enough c).Joined-alone, c.if-enough.false)
