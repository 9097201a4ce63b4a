-- `listing::text::line_length` meets its contract.
-- Assumes nothing.
use Prim.Native.Nat.{◌≤◌}
use mathlib.Core.Path.{ap}
use native.Mathlib.Omega.{arith}
use Rattle.decimal.specs.Decimal.{width}
use Rattle.decimal.proofs.Laws.{width-le}
use Rattle.listing.proofs.Texts.{length-line}
use Rattle.listing.proofs.text.line_length.Goals as goal
use Rattle.listing.proofs.text.line_length.Goals.{After-digit_count-2}

module _ (c : After-digit_count-2) where
  digits-few : (c.digit_count.result ≤ 10) × (c.digit_count-2.result ≤ 10)
  digits-few = (
    omega (arith, c.digit_count.ensures, width-le 9 c.args.minute (omega arith)),
    omega (arith, c.digit_count-2.ensures, width-le 9 c.length-seconds.result (omega arith)),
  )

pub overflow_add-result : goal.overflow_add-result
overflow_add-result c =
    let d = (goal.at.overflow_add-result c).After-digit_count-2 in
    omega (arith, digits-few d)

pub overflow_add-result-2 : goal.overflow_add-result-2
overflow_add-result-2 c =
    let d = (goal.at.overflow_add-result-2 c).After-digit_count-2 in
    omega (arith, digits-few d)

pub overflow_add-result-3 : goal.overflow_add-result-3
overflow_add-result-3 c =
    let d = (goal.at.overflow_add-result-3 c).After-digit_count-2 in
    omega (arith, digits-few d)

pub returns : goal.returns
returns c =
    let a = c.args in
    let l = c.length-seconds in
    omega (
      arith,
      c.digit_count.ensures,
      c.digit_count-2.ensures,
      l.ensures,
      ap width l.ensures,
      length-line a.plan a.minute,
    )
