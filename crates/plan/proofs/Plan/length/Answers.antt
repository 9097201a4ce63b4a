-- `plan::Plan::length` meets its contract.
-- Assumes nothing.
use mathlib.Core.Path.{◌≡◌}
use Rattle.plan.specs.Plan.{leap_at, length_at}
use Rattle.plan.proofs.Laws.{leap-same}
use Rattle.plan.proofs.Plan.length.Goals as goal

pub returns-then-is_last_of_month : goal.returns-then-is_last_of_month
unfolding length_at
returns-then-is_last_of_month c =
    let a = c.args in
    let e : c.leap.result ≡ leap_at a.self a.minute = leap-same c.leap.result (leap_at a.self a.minute) c.leap.ensures in
    rw (← c.is_last_of_month.ensures, c.if-is_last_of_month.true, c.leap_length.ensures, e)

pub returns-else-is_last_of_month : goal.returns-else-is_last_of_month
unfolding length_at
returns-else-is_last_of_month c = rw (← c.is_last_of_month.ensures, c.if-is_last_of_month.false)
