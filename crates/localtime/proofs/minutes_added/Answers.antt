-- `localtime::minutes_added` meets its contract: the two bits of the state stand for its four cases.
-- Assumes nothing.
use Prim.Native.Nat.{◌+◌, ◌-◌, ◌*◌, ◌%◌}
use native.Mathlib.Omega.{arith}
use borrow.Author.Tests.{lt-ltb, le-ltb}
use Rattle.localtime.proofs.Laws.{added-by-bits}
use Rattle.localtime.proofs.minutes_added.Goals as goal

pub returns-then-minute-change : goal.returns-then-minute-change
returns-then-minute-change c =
    let a = c.args in
    rw (added-by-bits a.minute a.state a.behind a.hour c.requires.0, lt-ltb (a.minute % 1440) (60 * (a.hour - a.state % 2) + a.behind) (omega arith))
    (omega arith)

pub returns-else-minute-change : goal.returns-else-minute-change
returns-else-minute-change c =
    let a = c.args in
    rw (added-by-bits a.minute a.state a.behind a.hour c.requires.0, le-ltb (a.minute % 1440) (60 * (a.hour - a.state % 2) + a.behind) (omega arith))
    (omega arith)
