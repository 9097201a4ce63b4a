-- `plan::Plan::row_on` meets its contract: dst_on[1] picks.
-- Assumes nothing.
use mathlib.Core.Path.{sym, ◌∙◌}
use Rattle.plan.specs.Plan.{row_on}
use Rattle.plan.proofs.RowSent.{next-on, next-off}
use Rattle.plan.proofs.Plan.row_on.Goals as goal

pub returns-then-is_on : goal.returns-then-is_on
unfolding row_on
returns-then-is_on c =
    c.autumn_row.ensures ∙ sym (next-on _ _ c.args.daylight (sym c.is_on.ensures ∙ c.if-is_on.true))

pub returns-else-is_on : goal.returns-else-is_on
unfolding row_on
returns-else-is_on c =
    c.next_spring_row.ensures ∙ sym (next-off _ _ c.args.daylight (sym c.is_on.ensures ∙ c.if-is_on.false))
