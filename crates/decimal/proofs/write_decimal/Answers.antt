-- `decimal::write_decimal` meets its contract.
-- Assumes nothing.
use Prim.Native.Nat.{ℕ, ◌≤◌}
use mathlib.Core.List.{List, ◌++◌}
use mathlib.Core.Path.{◌≡◌, sym}
use native.Mathlib.Omega.{arith}
use lib.ListN.{length, take, drop}
use lib.Seq.{length-take-le}
use Rattle.decimal.specs.Decimal.{width, digits, decimal}
use Rattle.decimal.proofs.write_decimal.Goals as goal

pub slice_bounds-fill_digits-end-2 : goal.slice_bounds-fill_digits-end-2
slice_bounds-fill_digits-end-2 c =
    sym (length-take-le _ _ (omega (arith, c.digit_count-count.ensures)))

-- the part comes back as the digits
written : (n r : ℕ) (out ys : List ℕ) → r ≡ width n → r ≤ length out → ys ≡ digits (length (take r out)) n → ys ++ drop r out ≡ decimal n ++ drop (width n) out
unfolding decimal
written n r out ys e h d = rw (d, length-take-le r out h, e)

pub returns : goal.returns
returns c =
    let a = c.args in
    (c.digit_count-count.ensures, written a.n c.digit_count-count.result a.out.now c.fill_digits.new.out c.digit_count-count.ensures (omega (arith, c.digit_count-count.ensures)) c.fill_digits.ensures)
