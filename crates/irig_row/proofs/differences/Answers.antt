use mathlib.Core.Path.{◌≡◌}
use native.Mathlib.Omega.{arith}
use Rattle.irig_rules.specs.Irig.{element_count}
use Rattle.irig_row.proofs.Differing.{same_place, other_place, no_place}
use Rattle.irig_row.proofs.differences.Goals as goal
use Rattle.irig_row.proofs.differences.Goals.{then-a-i, else-a-i}

pub loop-i-preserved : goal.loop-i-preserved
loop-i-preserved c =
    let l = c.loop-i in
    let a = c.args.a.now in
    let b = c.args.b.now in
    elim c.if-a-i.branch [
      | then-a-i w ↦ (omega (arith, w.n-is), omega (arith, w.n-is, other_place a b l.i (omega arith) (omega arith) w.if-a-i.true))
      | else-a-i w ↦ (omega (arith, w.n-is), omega (arith, w.n-is, same_place a b l.i (omega arith) (omega arith) w.if-a-i.false))
    ]

pub returns : goal.returns
returns c =
    let l = c.loop-i in
    let e : l.i ≡ element_count = omega arith in
    omega (arith, l.invariant.1, no_place c.args.a.now c.args.b.now l.i (omega arith) (omega arith))
