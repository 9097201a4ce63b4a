-- `timeword::parity` meets its contract.
-- Assumes nothing.
use Prim.Native.Nat.{◌<◌}
use mathlib.Core.Path.{◌∙◌}
use native.Mathlib.Omega.{arith}
use lib.Bits.{and_mask}
use Rattle.timeword.proofs.Syndrome.{syndrome-lt, syndrome-time}
use Rattle.timeword.proofs.parity.Goals as goal

pub overflow_cast-result : goal.overflow_cast-result
overflow_cast-result c =
    let l : c.syndrome_of.result < 32 = rw c.syndrome_of.ensures (syndrome-lt _) in
    omega (arith, l)

pub returns : goal.returns
returns c = c.syndrome_of.ensures ∙ rw (and_mask c.args.minute 26) (syndrome-time c.args.minute)
