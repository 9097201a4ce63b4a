-- `plan::Plan::row_for` meets its contract.
-- Assumes nothing.
use mathlib.Core.Logic.{inr}
use mathlib.Core.Path.{◌≡◌, sym, ◌∙◌}
use native.Mathlib.Omega.{arith}
use borrow.Author.Tests.{ne_eqb}
use Rattle.plan.specs.Plan.{has_changes, row_for}
use Rattle.plan.proofs.Earlier.{with-changes}
use Rattle.plan.proofs.RowSent.{row-for-0}
use Rattle.plan.proofs.Plan.row_for.Goals as goal

pub returns-in-0 : goal.returns-in-0
returns-in-0 c =
    let a = c.args in
    let e : a.self.kind ≡ 0 = omega arith in
    c.next_row.ensures ∙ sym (row-for-0 a.self e a.minute a.daylight)

pub returns-in-3 : goal.returns-in-3
unfolding row_for
returns-in-3 c =
    let a = c.args in
    let e : a.self.kind ≡ 3 = omega arith in
    rw (with-changes a.self (inr e), ← c.of_day.ensures, c.row_on.ensures)

pub returns-in-1 : goal.returns-in-1
unfolding row_for has_changes
returns-in-1 c =
    let e : c.args.self.kind ≡ 1 = omega arith in
    rw e

pub returns-in_default : goal.returns-in_default
unfolding row_for has_changes
returns-in_default c =
    let k = c.args.self.kind in
    rw (ne_eqb k 0 (λ e. omega arith), ne_eqb k 3 (λ e. omega arith), ne_eqb k 1 (λ e. omega arith))
