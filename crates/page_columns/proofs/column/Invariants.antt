-- `page_columns::column` meets its contract. The loop's invariant: the cells of what is left, with what stands from place i on after them, are the column.
-- Assumes nothing.
use Prim.Native.Nat.{◌+◌, ◌-◌, ◌/◌, ◌%◌}
use mathlib.Core.List.{[], ◌∷◌, ◌++◌}
use mathlib.Core.Path.{◌≡◌}
use lib.ListN.{length, drop}
use Rattle.page_columns.proofs.Cells.{blank_digits}
use Rattle.page_columns.proofs.column.Given as goal

abbrev pub invariant-loop-i : goal.invariant-loop-i
invariant-loop-i g l =
    (length l.column ≡ g.row.N) × (blank_digits l.i l.left ++ drop l.i l.column ≡ blank_digits (g.row.N - 2) (l.n / 10) ++ ((48 + l.n % 10) ∷ l.end ∷ []))
