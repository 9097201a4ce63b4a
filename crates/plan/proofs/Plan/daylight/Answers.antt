-- `plan::Plan::daylight` meets its contract.
-- Assumes nothing.
use borrow.Author.Tests.{eq-eqb, ne_eqb}
use Rattle.plan.specs.Plan.{daylight_at}
use Rattle.plan.proofs.Plan.daylight.Goals as goal

pub returns-then-has_changes : goal.returns-then-has_changes
unfolding daylight_at
returns-then-has_changes c =
    rw (← c.has_changes.ensures, c.if-has_changes.true, c.daylight_on.ensures, c.of_day.ensures)

pub returns-then-self-eq1 : goal.returns-then-self-eq1
unfolding daylight_at
returns-then-self-eq1 c =
    rw (← c.has_changes.ensures, c.if-has_changes.false, eq-eqb _ _ c.if-self-eq1.true)

pub returns-else-self-eq1 : goal.returns-else-self-eq1
unfolding daylight_at
returns-else-self-eq1 c =
    rw (← c.has_changes.ensures, c.if-has_changes.false, ne_eqb _ _ c.if-self-eq1.false)
