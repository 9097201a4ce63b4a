-- `irig_row::is_row` meets its contract.
-- Assumes nothing.
use Prim.Native.Nat.{ℕ}
use mathlib.Core.List.{append-nil}
use mathlib.Core.Path.{ap, ◌∙◌}
use lib.Dec.{eqb}
use Rattle.bits.specs.Bits.{distance}
use Rattle.irig_rules.specs.Irig.{elements_of}
use Rattle.irig_row.proofs.is_row.Goals as goal

pub returns : goal.returns
returns c =
    let r = c.put_row.ensures ∙ append-nil (elements_of c.args.c) in
    ap (λ (n : ℕ). eqb n 0) (c.differences.ensures ∙ ap (distance c.args.e.now) r)
