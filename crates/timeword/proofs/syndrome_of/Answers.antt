-- `timeword::syndrome_of` meets its contract: each mask keeps the bits of its check.
-- Assumes nothing.
use native.Mathlib.Omega.{arith}
use Rattle.bits.specs.Bits.{number}
use Rattle.timeword.specs.TimeWord.{syndrome}
use Rattle.timeword.proofs.Masks.{mask-4, mask-3, mask-2, mask-1, mask-0}
use Rattle.timeword.proofs.syndrome_of.Goals as goal

pub returns : goal.returns
unfolding syndrome number
returns c =
    let x = c.args.word in
    omega (arith, mask-4 x, mask-3 x, mask-2 x, mask-1 x, mask-0 x)
