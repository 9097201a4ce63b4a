-- `amplitude_reader::values_of` meets its contract.
-- Assumes nothing.
use native.Mathlib.Omega.{arith}
use Rattle.amplitude_rules.specs.Reading.{values_of}
use Rattle.amplitude_reader.proofs.Reading.{sign-through, bounds}
use Rattle.amplitude_reader.proofs.values_of.Goals as goal

pub overflow_sub-day : goal.overflow_sub-day
overflow_sub-day c =
    let b = bounds c.args.x c.requires.0 c.requires.1 in
    omega (arith, c.days_before.ensures)

pub overflow_add-day : goal.overflow_add-day
overflow_add-day c =
    let b = bounds c.args.x c.requires.0 c.requires.1 in
    omega (arith, c.days_before.ensures)

pub overflow_mul-result : goal.overflow_mul-result
overflow_mul-result c =
    let b = bounds c.args.x c.requires.0 c.requires.1 in
    omega (arith, c.days_before.ensures)

pub overflow_mul-result-2 : goal.overflow_mul-result-2
overflow_mul-result-2 c =
    let b = bounds c.args.x c.requires.0 c.requires.1 in
    omega (arith, c.days_before.ensures)

pub overflow_add-result : goal.overflow_add-result
overflow_add-result c =
    let b = bounds c.args.x c.requires.0 c.requires.1 in
    omega (arith, c.days_before.ensures)

pub overflow_add-result-2 : goal.overflow_add-result-2
overflow_add-result-2 c =
    let b = bounds c.args.x c.requires.0 c.requires.1 in
    omega (arith, c.days_before.ensures)

pub returns : goal.returns
unfolding values_of
returns c = rw (c.days_before.ensures, c.sign_of.ensures, sign-through c.args.x.sign)
