-- `irig_row::differences` meets its contract. The loop's invariant: n places before i differ, and the others are left.
-- Assumes nothing.
use Prim.Native.Nat.{◌+◌, ◌≤◌}
use mathlib.Core.Path.{◌≡◌}
use lib.ListN.{drop}
use Rattle.bits.specs.Bits.{distance}
use Rattle.irig_row.proofs.differences.Given as goal

abbrev pub invariant-loop-i : goal.invariant-loop-i
invariant-loop-i l =
    (l.n ≤ l.i) × (l.n + distance (drop l.i l.a) (drop l.i l.b) ≡ distance l.a l.b)
