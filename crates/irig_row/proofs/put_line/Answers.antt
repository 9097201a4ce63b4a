-- `irig_row::put_line` meets its contract.
-- Assumes nothing.
use mathlib.Core.List.{List, ◌++◌}
use mathlib.Core.Path.{ap, ◌∙◌}
use Prim.Native.Nat.{ℕ}
use lib.ListN.{drop}
use Rattle.irig_row.proofs.Putting.{line-put}
use Rattle.irig_row.proofs.put_line.Goals as goal

pub returns : goal.returns
returns c =
    let l = c.args.line.now in
    line-put l _ c.args.number c.requires (c.put_bytes.ensures ∙ ap (λ (w : List ℕ). w ++ drop 8 l) c.unpack.ensures)
