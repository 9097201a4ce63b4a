-- `timeword::encode` meets its contract.
-- Assumes nothing.
use Prim.Native.Nat.{◌<◌}
use mathlib.Core.Path.{◌∙◌, sym}
use native.Mathlib.Omega.{arith}
use lib.Dec.{lit≤}
use Rattle.timeword.proofs.Masks.{joined}
use Rattle.timeword.proofs.Correct.{code_word-number}
use Rattle.timeword.proofs.Syndrome.{parities-lt}
use Rattle.timeword.proofs.encode.Goals as goal

pub returns : goal.returns
returns c =
    let m = c.args.minute in
    let l : c.parity.result < 32 = omega (arith, c.parity.ensures, parities-lt m) in
    joined 5 26 c.parity.result m l (lit≤ tt) ∙ rw c.parity.ensures (sym (code_word-number m))
