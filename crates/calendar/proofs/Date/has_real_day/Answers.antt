-- `calendar::Date::has_real_day` meets its contract: every month has 28 days.
-- Assumes nothing.
use Rattle.std.proofs.Common.{arith}
use Rattle.std.proofs.lemmas.Grind.{common_steps}
use Rattle.gregorian.proofs.Months.{months-long}
use Rattle.calendar.proofs.Date.has_real_day.Goals as goal

pub returns-then-self-lt24 : goal.returns-then-self-lt24
returns-then-self-lt24 c = grind (arith, common_steps, months-long)
