-- `decimal::read_number` meets its contract. The loop's invariant: the number so far, with the text that is left after it, is the number of the text.
-- Assumes nothing.
use Prim.Native.Nat.{◌^◌, ◌<◌}
use mathlib.Core.Path.{◌≡◌}
use lib.ListN.{drop}
use Rattle.decimal.specs.Decimal.{value_from}
use Rattle.decimal.proofs.Laws.{DigitsTo}
use Rattle.decimal.proofs.read_number.Given as goal

abbrev pub invariant-loop-b : goal.invariant-loop-b
invariant-loop-b l =
    (l.value < 10 ^ l.b-index) × (value_from l.value (drop l.b-index l.s) ≡ value_from 0 l.s) × DigitsTo l.s l.b-index
