-- `irig_row::put_row` meets its contract.
-- Assumes nothing.
use Prim.Native.Nat.{ℕ}
use mathlib.Core.List.{List, ◌++◌}
use mathlib.Core.Path.{ap, ◌∙◌}
use lib.ListN.{drop, set}
use Rattle.irig_rules.specs.Irig.{identifier}
use Rattle.irig_row.specs.Row.{row_elements}
use Rattle.irig_row.proofs.Rows.{row_put}
use Rattle.irig_row.proofs.put_row.Goals as goal

pub returns : goal.returns
returns c =
    let e = c.put_lines.ensures ∙ ap (λ (l : List ℕ). row_elements l ++ drop 100 c.args.out.now) c.lines_of.ensures in
    ap (λ (l : List ℕ). set l 0 identifier) e ∙ row_put c.args.c (drop 100 c.args.out.now) c.requires.0
