-- `localtime::date_before` meets its contract.
-- Assumes nothing.
use Prim.Native.Nat.{suc, ◌-◌}
use mathlib.Core.Path.{◌≡◌}
use native.Mathlib.Omega.{arith}
use Rattle.calendar.specs.Calendar.{eve_at, date_on}
use Rattle.calendar.proofs.Below.{below-zero, from_zero}
use Rattle.localtime.proofs.date_before.Goals as goal

pub returns-then-behind-minute : goal.returns-then-behind-minute
unfolding date_on
returns-then-behind-minute c = rw (from_zero _ _ c.if-behind-minute.true, c.at_minute.ensures)

pub returns : goal.returns
unfolding date_on eve_at
returns c =
    let m = c.args.minute in
    let b = c.args.behind in
    let e : 1440 - (b - m) ≡ 1439 - (b - suc m) = omega arith in
    rw (below-zero _ _ c.if-behind-minute.false, e)
