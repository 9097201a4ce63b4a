-- `irig::ends_month` meets its contract.
-- Assumes nothing.
use Rattle.irig.proofs.MonthEnds.{in-january, after-january}
use Rattle.irig.proofs.ends_month.Goals as goal

pub returns-then-day-lt32 : goal.returns-then-day-lt32
returns-then-day-lt32 c = in-january c.args.day c.requires c.if-day-lt32.true

pub returns : goal.returns
returns c = after-january c.args.day c.requires c.if-day-lt32.false
