-- `irig_row::low_number` meets its contract.
-- Assumes nothing.
use Prim.Native.Nat.{◌+◌, ◌-◌}
use mathlib.Core.Path.{◌≡◌}
use native.Mathlib.Omega.{arith}
use Rattle.irig_rules.specs.Reading.{low_number}
use Rattle.irig_row.proofs.Reading.{low-none, low-from, small_from}
use Rattle.irig_row.proofs.low_number.Goals as goal

pub loop-i-init : goal.loop-i-init
loop-i-init c = low-none c.args.e.now

pub overflow_mul-n : goal.overflow_mul-n
overflow_mul-n c = omega (arith, c.loop-i.invariant, small_from c.args.e.now c.loop-i.i c.type_inv.e c.requires)

pub overflow_add-n : goal.overflow_add-n
overflow_add-n c =
    omega (arith, c.loop-i.invariant, small_from c.args.e.now c.loop-i.i c.type_inv.e c.requires, c.type_inv.e (c.loop-i.i - 1))

pub loop-i-preserved : goal.loop-i-preserved
loop-i-preserved c =
    let i = c.loop-i.i in
    let e : i - 1 + 1 ≡ i = omega arith in
    omega (arith, c.loop-i.invariant, rw e at (low-from c.args.e.now (i - 1) (omega arith)))

pub returns : goal.returns
returns c =
    let z : c.loop-i.i ≡ 0 = omega arith in
    let v : c.loop-i.n ≡ low_number c.args.e.now = rw z at c.loop-i.invariant in
    (v, omega (arith, small_from c.args.e.now 0 c.type_inv.e c.requires))
