-- `plan::Plan::leap` meets its contract.
-- Assumes nothing.
use mathlib.Core.Path.{◌≡◌, sym, ap, ◌∙◌}
use borrow.Author.Rules.{rules}
use mir.Syntax.{w32}
use mir.Val.{SFits}
use mir.Facts.{to_z-of_z}
use Rattle.calendar.specs.Calendar.{month_index}
use Rattle.codewords.specs.CodeWords.{leap_number}
use Rattle.plan.proofs.Laws.{of-bits, leap-in-month, leap-elsewhere, leap-unsigned}
use Rattle.plan.proofs.Plan.leap.Goals as goal
use Rattle.plan.proofs.Plan.leap.Goals.{else-self-ne0-via-then-self-ne0+else-month_index-self, else-self-ne0-via-else-self-ne0}

pub returns-then-month_index-self : goal.returns-then-month_index-self
returns-then-month_index-self c =
    let a = c.args in
    let fits : SFits w32 a.self.leap_sign = search rules in
    let month : month_index a.minute ≡ a.self.leap_month = sym c.month_index.ensures ∙ c.if-month_index-self.true in
    rw (leap-in-month a.self a.minute month, c.leap_of.ensures, to_z-of_z fits)

-- another month, or a plan with no leap second
pub returns-else-self-ne0 : goal.returns-else-self-ne0
returns-else-self-ne0 c =
    let a = c.args in
    let fits : SFits w32 a.self.leap_sign = search rules in
    elim c.else-self-ne0.branch [
      | else-self-ne0-via-then-self-ne0+else-month_index-self w ↦
          sym (ap leap_number (leap-elsewhere a.self a.minute (λ e. w.if-month_index-self.false (w.month_index.ensures ∙ e))))
      | else-self-ne0-via-else-self-ne0 w ↦
          sym (ap leap_number (leap-unsigned a.self a.minute (of-bits _ 0 fits w.if-self-ne0.false)))
    ]
