-- `bits::eight::gather` meets its contract.
-- Assumes nothing.
use Prim.Native.Nat.{◌+◌}
use mathlib.Core.Path.{◌≡◌}
use native.Mathlib.Nat.{add-zero}
use native.Mathlib.Omega.{arith}
use Rattle.bits.proofs.Products.{packed-at}
use Rattle.bits.proofs.eight.gather.Goals as goal

pub returns : goal.returns
returns c =
    let i = c.args.i in
    let at5 : i + 4 + 1 ≡ i + 5 = omega arith in
    let at6 : i + 4 + 2 ≡ i + 6 = omega arith in
    let at7 : i + 4 + 3 ≡ i + 7 = omega arith in
    rw (c.four_bytes.ensures.0, c.four_bytes-2.ensures.0, at5, at6, at7)
    (rw (add-zero i) at (packed-at c.args.s.now i c.requires.0 c.requires.1))
