-- `entries::leap_after` meets its contract.
-- Assumes nothing.
use mathlib.Core.Path.{sym, ◌∙◌}
use Rattle.entries.proofs.leap_after.Goals as goal

pub returns-then-is_last_of_month : goal.returns-then-is_last_of_month
returns-then-is_last_of_month c = rw (sym c.is_last_of_month.ensures ∙ c.if-is_last_of_month.true)

pub returns-else-is_last_of_month : goal.returns-else-is_last_of_month
returns-else-is_last_of_month c = rw (sym c.is_last_of_month.ensures ∙ c.if-is_last_of_month.false)
