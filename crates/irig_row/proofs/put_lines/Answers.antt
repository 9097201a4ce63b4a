-- `irig_row::put_lines` meets its contract.
-- Assumes nothing.
use mathlib.Core.Path.{◌≡◌, refl}
use native.Mathlib.Omega.{arith}
use lib.ListN.{length}
use Rattle.std.proofs.Common.{take_all}
use Rattle.bits.specs.Bits.{concat}
use Rattle.irig_row.specs.Row.{row_elements}
use Rattle.irig_row.proofs.Putting.{next-line}
use Rattle.irig_row.proofs.put_lines.Goals as goal

pub loop-k-init : goal.loop-k-init
loop-k-init c = unfold row_elements concat in refl

pub loop-k-preserved : goal.loop-k-preserved
loop-k-preserved c =
    let n : length c.args.lines ≡ 10 = omega arith in
    next-line c.args.out.now c.args.lines c.loop-k.out c.put_line.new.line c.loop-k.k (omega arith) c.loop-k.invariant c.put_line.ensures

pub returns : goal.returns
returns c =
    let n : length c.args.lines ≡ 10 = omega arith in
    let e : c.loop-k.k ≡ 10 = omega arith in
    rw (e, take_all 10 c.args.lines (omega arith)) at c.loop-k.invariant
