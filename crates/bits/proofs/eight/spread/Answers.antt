-- `bits::eight::spread` meets its contract.
-- Assumes nothing.
use Prim.Native.Nat.{ℕ, ◌+◌}
use mathlib.Core.List.{List, ◌++◌}
use mathlib.Core.Path.{ap, ◌∙◌}
use lib.ListN.{take, drop}
use Rattle.bits.proofs.eight.spread.Goals as goal

pub returns : goal.returns
returns c =
    let a = c.args in
    c.put_bytes.ensures ∙ ap (λ (w : List ℕ). take a.i a.out.now ++ w ++ drop (a.i + 8) a.out.now) c.unpack.ensures
