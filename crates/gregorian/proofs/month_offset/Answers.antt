-- `gregorian::month_offset` meets its contract: the closed form is the sum of the month lengths, by one test over the months.
-- Assumes nothing.
use Prim.Native.Nat.{◌+◌, ◌-◌, ◌*◌, ◌/◌}
use mathlib.Core.Path.{◌≡◌, sym, ap, ◌∙◌}
use native.Mathlib.Omega.{arith}
use Rattle.bits.specs.Bits.{pick}
use Rattle.gregorian.specs.Gregorian.{first_year, leap_year}
use Rattle.gregorian.proofs.Months.{first-months, later-months}
use Rattle.gregorian.proofs.month_offset.Goals as goal
use Rattle.gregorian.proofs.month_offset.Goals.{then-is_leap, else-is_leap, Joined-is_leap}

-- the days that the year's February does not have
missing : (c : Joined-is_leap) → c.if-is_leap.missing ≡ pick (leap_year (first_year + c.args.years)) 1 2
missing c =
    elim c.if-is_leap.branch [
      | then-is_leap w ↦ w.missing-is ∙ sym (ap (λ b. pick b 1 2) (sym c.is_leap.ensures ∙ w.if-is_leap.true))
      | else-is_leap w ↦ w.missing-is ∙ sym (ap (λ b. pick b 1 2) (sym c.is_leap.ensures ∙ w.if-is_leap.false))
    ]

pub overflow_sub-result : goal.overflow_sub-result
overflow_sub-result c = elim c.if-is_leap.branch [ then-is_leap w ↦ omega arith | else-is_leap w ↦ omega arith ]

pub returns-then-month-lt2 : goal.returns-then-month-lt2
returns-then-month-lt2 c =
    let a = c.args in
    sym (first-months (first_year + a.years) a.month c.if-month-lt2.true)

pub returns-else-month-lt2 : goal.returns-else-month-lt2
returns-else-month-lt2 c =
    let a = c.args in
    ap (λ k. (a.month * 979 + 13) / 32 - k) (missing (goal.at.returns-else-month-lt2 c).Joined-is_leap)
    ∙ sym (later-months (first_year + a.years) a.month c.if-month-lt2.false c.requires)
