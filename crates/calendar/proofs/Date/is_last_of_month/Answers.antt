-- `calendar::Date::is_last_of_month` meets its contract: a month ends with a day.
-- Assumes nothing.
use Prim.Native.Nat.{◌+◌, ◌%◌}
use mathlib.Core.Path.{◌≡◌, sym, ◌∙◌}
use native.Mathlib.Omega.{arith}
use borrow.Author.Tests.{le-ltb, eq-eqb, eqb-false}
use Rattle.calendar.specs.Calendar.{minute_count, month_index, last_of_month}
use Rattle.calendar.proofs.MonthOrder.{same-day}
use Rattle.calendar.proofs.Date.is_last_of_month.Goals as goal
use Rattle.calendar.proofs.Date.is_last_of_month.Goals.{then-minute-lt-MINUTES, else-minute-lt-MINUTES}

pub returns-then-minute-eq0 : goal.returns-then-minute-eq0
unfolding last_of_month
returns-then-minute-eq0 c = rw (c.month_index.ensures, c.month_index-then-minute-eq0.ensures)

pub returns-else-minute-eq0 : goal.returns-else-minute-eq0
unfolding last_of_month month_index
returns-else-minute-eq0 c =
    let t = c.args.minute in
    elim c.if-minute-lt-MINUTES.branch [
      | then-minute-lt-MINUTES w ↦
          let ends = eqb-false ((t + 1) % 1440) 0 (sym w.value-is ∙ c.if-minute-eq0.false) in
          let same : month_index (t + 1) ≡ month_index t = same-day t w.if-minute-lt-MINUTES.true ends in
          rw (c.if-minute-eq0.false, eq-eqb _ _ same)
      | else-minute-lt-MINUTES w ↦
          rw (c.if-minute-eq0.false, le-ltb t minute_count w.if-minute-lt-MINUTES.false, le-ltb (t + 1) minute_count (omega arith))
    ]
