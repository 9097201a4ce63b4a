-- `amplitude_writer::fields_of` meets its contract.
-- Assumes nothing.
use Prim.Native.Nat.{◌/◌}
use native.Mathlib.Omega.{arith}
use Rattle.gregorian.proofs.Months.{placed, year-low, year-rest-is, year-index}
use Rattle.amplitude_rules.proofs.Facts.{legal, legal-through}
use Rattle.amplitude_rules.specs.Amplitude.{fields_of}
use Rattle.amplitude_writer.proofs.fields_of.Goals as goal

pub of_day-years-requires : goal.of_day-years-requires
of_day-years-requires c = omega (arith, (legal c.args.r c.requires).minute)

pub days_before-requires : goal.days_before-requires
days_before-requires c =
    omega (
      arith,
      c.of_day-years.ensures,
      year-index (c.args.r.minute / 1440) (placed (c.args.r.minute / 1440) (omega (arith, (legal c.args.r c.requires).minute))),
    )

pub overflow_sub-result : goal.overflow_sub-result
overflow_sub-result c =
    rw (c.days_before.ensures, c.of_day-years.ensures)
    (year-low (c.args.r.minute / 1440) (placed (c.args.r.minute / 1440) (omega (arith, (legal c.args.r c.requires).minute))))

pub sign_bits-requires : goal.sign_bits-requires
sign_bits-requires c =
    rw (legal-through c.args.r.sign (legal c.args.r c.requires).sign) (legal c.args.r c.requires).sign

pub returns : goal.returns
unfolding fields_of
returns c =
    rw (
      c.days_before.ensures,
      c.sign_bits.ensures,
      c.leap_mark.ensures,
      c.of_day-years.ensures,
      year-rest-is (c.args.r.minute / 1440) (placed (c.args.r.minute / 1440) (omega (arith, (legal c.args.r c.requires).minute))),
      legal-through c.args.r.sign (legal c.args.r c.requires).sign,
    )
