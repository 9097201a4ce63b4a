-- `gregorian::Year::month_start` meets its contract. Assumes nothing.
use Prim.Native.Nat.{◌+◌}
use native.Mathlib.Omega.{arith}
use Rattle.gregorian.specs.Gregorian.{first_year, year_count, year_lengths, month_start}
use Rattle.gregorian.proofs.Walk.{before-mono}
use Rattle.gregorian.proofs.Years.{days-of-years}
use Rattle.gregorian.proofs.Months.{months-short}
use Rattle.gregorian.proofs.Year.month_start.Goals as goal

pub overflow_add-result : goal.overflow_add-result
overflow_add-result c =
    let years = c.args.self.since_first in
    omega (
      arith,
      c.days_before.ensures,
      c.month_offset.ensures,
      days-of-years,
      before-mono year_lengths years year_count (omega arith),
      months-short (first_year + years) c.args.month (omega arith),
    )

pub returns : goal.returns
unfolding month_start
returns c = rw (c.days_before.ensures, c.month_offset.ensures)
